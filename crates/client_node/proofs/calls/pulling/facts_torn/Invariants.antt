use Rattle.std.proofs.Common.{◌≡◌, ◌++◌, drop}
use Rattle.std.specs.Prelude.{map}
use Rattle.step_tables.specs.Facts as facts
use Rattle.step_tables.specs.Lines.{fact_of}
use Rattle.client_node.proofs.calls.pulling.facts_torn.Given as goal

abbrev pub invariant-loop-row : goal.invariant-loop-row
invariant-loop-row l = map fact_of l.facts.items ++ map (facts.Torn l.client l.table) (drop l.row-index l.tears) ≡ map (facts.Torn l.client l.table) l.tears
