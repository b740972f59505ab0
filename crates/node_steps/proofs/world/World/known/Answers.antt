use Rattle.std.proofs.Common.{Some, ap, ◌∙◌}
use Rattle.row_value.specs.declared.schema.Schema.{Schema}
use Rattle.node_steps.proofs.world.World.known.Goals as goal

pub returns-in_ok-known-in-Some-clause-known : goal.returns-in_ok-known-in-Some-clause-known
returns-in_ok-known-in-Some-clause-known g c w h = ap (λ (s : Schema). Some s) c.in_ok-known-in-Some.ensures ∙ (c.in-Some.ensures.value ∙ h.schemas c.args.table)

pub returns-in-None-clause-known : goal.returns-in-None-clause-known
returns-in-None-clause-known g c w h = c.in-None.ensures.value ∙ h.schemas c.args.table
