use Rattle.std.proofs.Common.{ap, ◌∙◌}
use Rattle.gated_tables.specs.Net.{is_schema}
use Rattle.net_steps.proofs.world.World.is_declared.Goals as goal

pub returns-in-Some : goal.returns-in-Some
returns-in-Some g c n h = c.is_same_schema.ensures ∙ ap (is_schema c.args.schema.now) (c.in-Some.ensures n.wire.world h.wire.nodes)

pub returns-in-None : goal.returns-in-None
returns-in-None g c n h = ap (is_schema c.args.schema.now) (c.in-None.ensures n.wire.world h.wire.nodes)
