use Rattle.std.proofs.Common.{ℕ, List, drop}
use Rattle.row_value.specs.declared.schema.Schema.{Schema}
use Rattle.gate_host.specs.Moves.{directory_by}
use Rattle.gate_host.specs.Holds.{AreDeclared}
use Rattle.gate_host.proofs.Replaced.{AreReplaced}
use Rattle.gate_host.proofs.placing.place_all.Given as goal

abbrev pub invariant-loop-number : goal.invariant-loop-number
invariant-loop-number l = (stores : List ℕ) (schemas : List (ℕ × Schema)) → AreDeclared stores schemas l.ring l.tables
    → AreReplaced (directory_by stores schemas) l.fn.gates l.gates (drop l.number-index l.number-items)
