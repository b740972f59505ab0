use Rattle.std.proofs.Common.{Ok, Err, List, [], ◌∷◌, ◌++◌, ap, ◌∙◌}
use Rattle.std.specs.Prelude.{filter}
use Rattle.store_host.specs.declared.hosted.TableOut.{TableOut}
use Rattle.store_host.specs.Holds.{outs_in, outbox_of, says_something}
use Rattle.std.proofs.lemmas.Result.{err_from_is_err_and}
use Rattle.store_host.proofs.Hosting.{short_taken, badly_taken, well_taken, take_cause, told_cause}
use Rattle.disk_trait.specs.Fuse.{inner_of}
use Rattle.store_node.proofs.Working.{node_rows}
use Rattle.store_host.proofs.Lefts.{rows_told}
use Rattle.store_host.proofs.hosted.Hosted.take.Goals as goal

pub returns-in_err-reserve-clause-taken : goal.returns-in_err-reserve-clause-taken
returns-in_err-reserve-clause-taken g c store schema table hosted h =
    let p = err_from_is_err_and c.from_residual.result c.from_residual.ensures.1 in
    rw p.1 (rw c.reserve.ensures.items (short_taken g.D.Disk.state g.D.Disk.images store schema table hosted c.args.self.now h c.requires.up c.args.from c.args.message.now c.args.outs.now.items (c.requires.idle hosted.store h.node)
    p.0 p.2))

pub returns-in_err-deliver-clause-taken : goal.returns-in_err-deliver-clause-taken
returns-in_err-deliver-clause-taken g c store schema table hosted h =
    let p = err_from_is_err_and c.from_residual-in_err-deliver.result c.from_residual-in_err-deliver.ensures.1 in
    rw (p.1, p.2) (rw c.reserve.ensures.items (badly_taken g.D.Disk.state g.D.Disk.images store schema table hosted c.args.self.now h c.requires.up c.args.from c.args.message.now c.args.outs.now.items c.deliver.new.self
    c.in_err-deliver.field-0.0 (c.in_err-deliver.ensures.delivers hosted.store h.node) c.in_err-deliver.ensures.declared))

pub returns-in_err-deliver-clause-cause : goal.returns-in_err-deliver-clause-cause
returns-in_err-deliver-clause-cause g c =
    let p = err_from_is_err_and c.from_residual-in_err-deliver.result c.from_residual-in_err-deliver.ensures.1 in
    let n = c.requires.node in
    rw (p.1, p.2) (take_cause g.D.Disk.state g.D.Disk.images n.0 c.args.from c.args.message.now c.args.self.now.node c.deliver.new.self (Err c.in_err-deliver.field-0.0) (c.in_err-deliver.ensures.delivers n.0 n.1))

pub returns-clause-taken : goal.returns-clause-taken
returns-clause-taken g c store schema table hosted h =
    let out = c.take_out-out.ensures in
    well_taken g.D.Disk.state g.D.Disk.images store schema table hosted c.args.self.now h c.requires.up c.args.from c.args.message.now c.deliver.new.self c.take_out-out.new.self c.store-store.result c.take_out-out.result c.args.outs.now.items c.put_at_once.new.outs.items
    (c.in_ok-deliver.ensures.delivers hosted.store h.node) c.in_ok-deliver.ensures.declared out.messages out.facts out.told out.sent out.kept out.same out.declared c.store-store.ensures (c.put_at_once.ensures.put ∙ ap (λ (l : List TableOut). outs_in l ++ filter says_something (outbox_of (record { store = c.store-store.result; out = c.take_out-out.result }) ∷ [])) c.reserve.ensures.items) (λ silent. c.put_at_once.ensures.silent silent ∙ c.reserve.ensures.items)

pub returns-clause-cause : goal.returns-clause-cause
returns-clause-cause g c =
    let n = c.requires.node in
    let k = told_cause g.D.Disk.state c.args.self.now.node c.deliver.new.self c.take_out-out.new.self ((c.in_ok-deliver.ensures.delivers n.0 n.1).counted (λ e. absurd cc)) c.take_out-out.ensures.devs (Ok tt) tt in
    record { counted = k.counted; cause = k.cause; only = tt }

pub returns-in_err-reserve-clause-left : goal.returns-in_err-reserve-clause-left
returns-in_err-reserve-clause-left g c store schema table hosted h made = node_rows g.D.Disk.state g.D.Disk.images (λ d image left. g.met.D.Disk.only_now (inner_of d) image left) c.args.self.now.node
    hosted.store.disk hosted.store.agenda h.node (h.made ∙ made)

pub returns-in_err-deliver-clause-left : goal.returns-in_err-deliver-clause-left
returns-in_err-deliver-clause-left g c store schema table hosted h made = (c.in_err-deliver.ensures.delivers hosted.store h.node).rows_left

pub returns-clause-left : goal.returns-clause-left
returns-clause-left g c store schema table hosted h made =
    rows_told g.D.Disk.state g.D.Disk.images c.args.self.now.node c.deliver.new.self c.take_out-out.new.self hosted.store.disk hosted.store.disk c.take_out-out.ensures.devs
    (c.in_ok-deliver.ensures.delivers hosted.store h.node).rows_left
