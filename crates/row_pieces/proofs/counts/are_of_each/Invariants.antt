use Rattle.std.proofs.Common.{◌≡◌, drop}
use Rattle.step_tables.specs.Chunks.{is_of_each}
use Rattle.row_pieces.proofs.counts.are_of_each.Given as goal

abbrev pub invariant-loop-place : goal.invariant-loop-place
invariant-loop-place g l = is_of_each l.size (drop l.place l.said) (drop l.place l.objects) ≡ is_of_each l.size l.said l.objects
