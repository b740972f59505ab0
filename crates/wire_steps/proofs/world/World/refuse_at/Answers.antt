use Rattle.std.proofs.Common.{ℕ, [], ◌∷◌, sym, ap, ◌∙◌}
use Rattle.std.specs.Prelude.{option_map}
use Rattle.step_tables.specs.Facts.{AnswerLine}
use Rattle.step_tables.specs.Facts as facts
use Rattle.wire_steps.specs.Links.{busy_lines}
use Rattle.wire_steps.proofs.Linked.{busy_told}
use Rattle.wire_steps.proofs.world.World.refuse_at.Goals as goal

pub busy_version-with-requires : goal.busy_version-with-requires
busy_version-with-requires g c = (c.requires.0.world, c.requires.1.nodes)

pub returns-in_ok-lines-in-Some-clause-lines : goal.returns-in_ok-lines-in-Some-clause-lines
returns-in_ok-lines-in-Some-clause-lines g c v h =
    busy_told c.in_ok-lines-in-Some.lines (busy_lines v.world) c.args.busy c.in-Some.table
    (c.in_ok-lines-in-Some.ensures.lines ∙ ap (λ (with : ℕ). AnswerLine (facts.Refuses (facts.Busy with)) ∷ []) (c.busy_version-with.ensures v.world h.nodes))
    (sym c.in-Some.is)

pub returns-in-None-clause-lines : goal.returns-in-None-clause-lines
returns-in-None-clause-lines g c v h = ap (option_map (busy_lines v.world)) (sym c.in-None.is)
