use Rattle.std.proofs.Common.{◌≡◌, ◌++◌, map}
use Rattle.step_tables.specs.Facts.{FactLine}
use Rattle.step_tables.specs.Lines.{line_of}
use Rattle.store_node.specs.Due.{fact_of}
use Rattle.wire_steps.proofs.sending.tell_store_facts.Given as goal

abbrev pub invariant-loop-fact : goal.invariant-loop-fact
invariant-loop-fact l = map line_of l.lines ++ map FactLine (map fact_of l.fact-iterator.rest.items) ≡ map line_of l.fn.lines ++ map FactLine (map fact_of l.fn.facts)
