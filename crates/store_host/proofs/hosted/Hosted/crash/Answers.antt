use Rattle.std.proofs.Common.{sym, ◌∙◌}
use Rattle.disk_trait.specs.Fuse.{inner_of}
use Rattle.store_node.specs.Node.{behind_next}
use Rattle.store_node.proofs.Working.{node_rows}
use Rattle.store_host.proofs.Lefts.{or_next}
use Rattle.store_host.proofs.Crashed.{crashed_up, crashed_down}
use Rattle.store_host.proofs.hosted.Hosted.crash.Goals as goal

pub returns-then-is_up-clause-crashed : goal.returns-then-is_up-clause-crashed
returns-then-is_up-clause-crashed g c store schema table hosted h =
    crashed_up g.D.Disk.state g.D.Disk.images store schema table hosted c.args.calls c.args.self.now h c.crash.new.self (c.crash.ensures.crashes hosted.store h.node) c.crash.ensures.declared

pub returns-then-is_up-clause-left : goal.returns-then-is_up-clause-left
returns-then-is_up-clause-left g c store schema table hosted h made = (c.crash.ensures.crashes hosted.store h.node).rows_left

pub returns-else-is_up-clause-crashed : goal.returns-else-is_up-clause-crashed
returns-else-is_up-clause-crashed g c store schema table hosted h = crashed_down g.D.Disk.state g.D.Disk.images store schema table hosted c.args.calls c.args.self.now h (sym c.is_up.ensures ∙ c.if-is_up.false)

pub returns-else-is_up-clause-left : goal.returns-else-is_up-clause-left
returns-else-is_up-clause-left g c store schema table hosted h made =
    let node = c.args.self.now.node in
    or_next g.D.Disk.state g.D.Disk.images node node hosted.store.disk (behind_next hosted.store.disk hosted.store.agenda)
    (node_rows g.D.Disk.state g.D.Disk.images (λ d image left. g.met.D.Disk.only_now (inner_of d) image left) node hosted.store.disk hosted.store.agenda h.node (h.made ∙ made))
