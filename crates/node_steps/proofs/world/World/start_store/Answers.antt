use Rattle.std.proofs.Common.{refl, sym, ◌∙◌, ap, Bool}
use Rattle.std.specs.Prelude.{◌&&◌}
use Rattle.stab_base.specs.declared.node.Node.TheVariants as nodes
use Rattle.world_tables.specs.World.{is_down}
use Rattle.node_steps.proofs.Counted.{only_counted}
use Rattle.node_steps.proofs.Showing.{there_now}
use Rattle.node_steps.proofs.Starting.{goes_on}
use Rattle.node_steps.proofs.world.World.start_store.Goals as goal

pub start_declared-requires-clause-declared : goal.start_declared-requires-clause-declared
start_declared-requires-clause-declared g c = there_now _ (sym c.if-has_store.true ∙ c.has_store.ensures.there)

pub returns-clause-done : goal.returns-clause-done
returns-clause-done g c w h =
    goes_on g.D.Disk.state g.D.Disk.images g.met.D.Disk.only_now w c.args.self.now h c.args.store
    (ap (λ (b : Bool). b && is_down w (nodes.Store c.args.store)) (sym (c.has_store.ensures.held w h.store) ∙ c.if-has_store.false)) c.only.result c.only.ensures.lines

pub returns-clause-counted : goal.returns-clause-counted
returns-clause-counted g c =
    only_counted g.D.Disk.state c.only.result _ c.args.self.now c.args.self.now refl refl refl c.only.ensures.lines
