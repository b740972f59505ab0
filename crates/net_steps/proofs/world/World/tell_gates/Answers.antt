use Rattle.std.proofs.Common.{sym, subst}
use Rattle.std.specs.Prelude.{OnOk}
use Rattle.table_model.specs.declared.event.Event.{Event}
use Rattle.gate_host.specs.Holds.{HoldsGates}
use Rattle.net_steps.specs.Through.{stores_with, schemas_with, gates_with}
use Rattle.net_steps.proofs.world.World.tell_gates.Goals as goal

pub returns-in-Table-clause-told : goal.returns-in-Table-clause-told
returns-in-Table-clause-told g c stores schemas gates h =
    subst (λ (e : Event). OnOk c.add_table.result (HoldsGates (stores_with e stores) (schemas_with e schemas) (gates_with e gates) c.add_table.new.self)) (sym c.in-Table.is)
    (c.add_table.ensures stores schemas gates h)

pub returns-in-Gate-clause-told : goal.returns-in-Gate-clause-told
returns-in-Gate-clause-told g c stores schemas gates h =
    subst (λ (e : Event). OnOk c.add_gate.result (HoldsGates (stores_with e stores) (schemas_with e schemas) (gates_with e gates) c.add_gate.new.self)) (sym c.in-Gate.is)
    (c.add_gate.ensures.held stores schemas gates h)

pub returns-in-Draft-clause-told : goal.returns-in-Draft-clause-told
returns-in-Draft-clause-told g c stores schemas gates h =
    subst (λ (e : Event). OnOk c.add_table-in-Draft.result (HoldsGates (stores_with e stores) (schemas_with e schemas) (gates_with e gates) c.add_table-in-Draft.new.self)) (sym c.in-Draft.is)
    (c.add_table-in-Draft.ensures stores schemas gates h)
