use Rattle.std.proofs.Common.{◌≡◌, ◌++◌, drop}
use Rattle.std.specs.Prelude.{map}
use Rattle.step_tables.specs.Lines.{fact_of}
use Rattle.client_node.specs.Tells.{facts_told}
use Rattle.client_node.proofs.tells.facts_told.Given as goal

abbrev pub invariant-loop-tell : goal.invariant-loop-tell
invariant-loop-tell l = map fact_of l.facts.items ++ facts_told l.client l.table l.row (drop l.tell-index l.tells) ≡ facts_told l.client l.table l.row l.tells
