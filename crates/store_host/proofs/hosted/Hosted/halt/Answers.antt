use Rattle.std.proofs.Common.{[], refl, ◌∙◌}
use Rattle.step_tables.specs.Messages as messages
use Rattle.step_tables.specs.StoreMoves.{crashed}
use Rattle.store_host.proofs.Hosting.{telling, silent, crash_facts}
use Rattle.store_host.proofs.hosted.Hosted.halt.Goals as goal

pub returns-clause-halted : goal.returns-clause-halted
returns-clause-halted g c store schema table hosted h =
    let k = c.halt.ensures.halts hosted.store h.node in
    let s = crashed hosted.store.disk hosted.store.agenda messages.FailedBefore in
    let none = crash_facts hosted.store.disk hosted.store.agenda messages.FailedBefore in
    let new = record c.args.self.now { node = c.halt.new.self } in
    silent g.D.Disk.state store schema table hosted s new [] (telling g.D.Disk.state store schema table hosted s c.args.self.now new h k.halted hosted.made (k.declared ∙ h.made) refl) none.0 none.1

pub returns-clause-counted : goal.returns-clause-counted
returns-clause-counted g c = let n = c.requires in (c.halt.ensures.halts n.0 n.1).counted

pub returns-clause-left : goal.returns-clause-left
returns-clause-left g c store schema table hosted h made = (c.halt.ensures.halts hosted.store h.node).rows_left (h.made ∙ made)
