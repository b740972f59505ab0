use Rattle.std.proofs.Common.{Bool, Some, None, ap, sym, ◌∙◌}
use Rattle.std.specs.Prelude.{if◌then◌else◌}
use Rattle.wire_steps.specs.Links.{busy_lines}
use Rattle.wire_steps.proofs.Linked.{busy_as}
use Rattle.wire_steps.proofs.world.World.refuse_busy_table.Goals as goal

pub returns-then-is_busy-clause-lines : goal.returns-then-is_busy-clause-lines
returns-then-is_busy-clause-lines g c v h =
    busy_as c.refuse_at.result _ _
    (ap (λ (b : Bool). if b then Some (busy_lines v.world c.args.table) else None) (sym c.if-is_busy.true ∙ c.is_busy.ensures v.world h.nodes)) (c.refuse_at.ensures.lines v h)

pub returns-clause-lines : goal.returns-clause-lines
returns-clause-lines g c v h =
    ap (λ (b : Bool). if b then Some (busy_lines v.world c.args.table) else None) (sym c.if-is_busy.false ∙ c.is_busy.ensures v.world h.nodes)
