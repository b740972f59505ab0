use Rattle.std.proofs.Common.{◌≡◌, drop}
use Rattle.part_tables.specs.Arriving.{Arriving}
use Rattle.part_client.specs.Keeping.{Keeps}
use Rattle.wire_steps.specs.Starting.{noted_in}
use Rattle.wire_steps.proofs.start.note_facts.Given as goal

abbrev pub invariant-loop-fact : goal.invariant-loop-fact
invariant-loop-fact l =
    (a : Arriving) → Keeps l.fn.it a → (x : Arriving) × Keeps l.it x × (noted_in (drop l.fact-index l.facts) x ≡ noted_in l.facts a)
