use Rattle.std.proofs.Common.{◌≡◌, ℕ, List, map, take}
use Rattle.std.specs.List.{concat}
use Rattle.held_value.specs.declared.content.HeldPiece.{HeldPiece}
use Rattle.held_contents.proofs.reading.joined.Given as goal

abbrev pub invariant-loop-piece : goal.invariant-loop-piece
invariant-loop-piece l = l.object ≡ concat (map (λ (chunk : HeldPiece × List ℕ). chunk.1) (take l._piece-index l.chunks))
