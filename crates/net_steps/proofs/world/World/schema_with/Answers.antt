use Rattle.std.proofs.Common.{◌≡◌, Option, sym, ◌∙◌, subst}
use Rattle.std.specs.Prelude.{IfOk}
use Rattle.row_value.specs.declared.schema.Schema.{Schema}
use Rattle.net_steps.proofs.Owed.{schema_given, schema_not_given}
use Rattle.net_steps.proofs.world.World.schema_with.Goals as goal

pub returns-then-gives_schema : goal.returns-then-gives_schema
returns-then-gives_schema g c v h =
    subst (λ (o : Option Schema). IfOk c.declared.result (λ (found : Option Schema). found ≡ o))
    (sym (schema_given v.world c.args.table c.args.kind c.args.status (sym c.gives_schema.ensures ∙ c.if-gives_schema.true))) (c.declared.ensures v h)

pub returns : goal.returns
returns g c v h = sym (schema_not_given v.world c.args.table c.args.kind c.args.status (sym c.gives_schema.ensures ∙ c.if-gives_schema.false))
