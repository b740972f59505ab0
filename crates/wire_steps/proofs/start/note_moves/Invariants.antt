use Rattle.std.proofs.Common.{◌≡◌, ℕ, drop}
use Rattle.journal_host.specs.Holds.{outs_in}
use Rattle.part_tables.specs.Arriving.{Arriving}
use Rattle.part_client.specs.Keeping.{Keeps}
use Rattle.wire_tables.specs.Wire.{noting, torn_told}
use Rattle.wire_steps.proofs.start.note_moves.Given as goal

abbrev pub invariant-loop-out : goal.invariant-loop-out
invariant-loop-out l =
    (owners : ℕ → ℕ) (a : Arriving) → Keeps l.fn.it a
    → (x : Arriving) × Keeps l.it x × (noting (torn_told (outs_in owners (drop l.out-index l.moves))) x ≡ noting (torn_told (outs_in owners l.moves)) a)
