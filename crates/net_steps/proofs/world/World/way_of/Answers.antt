use Rattle.std.proofs.Common.{ℕ, ◌∙◌, ap}
use Rattle.stab_base.specs.declared.node.Node.TheVariants as nodes
use Rattle.gated_tables.specs.Net.{token_with, way_to}
use Rattle.net_steps.proofs.world.World.way_of.Goals as goal

pub returns-in-Some : goal.returns-in-Some
returns-in-Some g c n h =
    let at = c.in-Some.ensures n h in
    (ap (way_to n.wire.world c.args.table) at, c.stamp.ensures ∙ ap token_with at)

pub returns-in-None : goal.returns-in-None
returns-in-None g c n h =
    let at = c.in-None.ensures n h in
    (ap (λ (store : ℕ). nodes.Store store) (c.owner.ensures n.wire h.wire) ∙ ap (way_to n.wire.world c.args.table) at, ap token_with at)
