use Rattle.std.proofs.Common.{◌≡◌, take}
use Rattle.kept_chunks.specs.Kept.{pieces_in}
use Rattle.kept_chunks.proofs.pieces.pieces_in.Given as goal

abbrev pub invariant-loop-object : goal.invariant-loop-object
invariant-loop-object l = l.pieces.items ≡ pieces_in (take l.object-index l.objects)
