use Rattle.std.proofs.Common.{◌≡◌, ◌∷◌, ◌++◌, map, length, drop}
use Rattle.step_tables.specs.Facts.{AnswerLine, Number}
use Rattle.step_tables.specs.Lines.{line_of}
use Rattle.world_tables.specs.World.{entry_lines}
use Rattle.node_steps.proofs.world.World.listed.Given as goal

abbrev pub invariant-loop-entry : goal.invariant-loop-entry
invariant-loop-entry g l = map line_of l.lines ++ entry_lines l.table (drop l.entry-index l.history) ≡ AnswerLine (Number (length l.history)) ∷ entry_lines l.table l.history
