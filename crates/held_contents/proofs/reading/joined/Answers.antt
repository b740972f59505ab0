use Rattle.std.proofs.Common.{◌≡◌, ℕ, List, map, ◌∙◌, ap}
use Rattle.std.specs.List.{concat}
use Rattle.std.proofs.lemmas.List.{take_all}
use Rattle.held_value.specs.declared.content.HeldPiece.{HeldPiece}
use Rattle.held_contents.proofs.Objects.{if_ok}
use Rattle.held_contents.proofs.Readings.{joined_more}
use Rattle.held_contents.proofs.reading.joined.Goals as goal

pub loop-piece-preserved : goal.loop-piece-preserved
loop-piece-preserved c =
    joined_more c.args.chunks.now c.loop-piece._piece-index c.loop-piece-item.result c.loop-piece.object c.as_slice.result.now c.extend_from_slice.new.self c.loop-piece-test.true c.loop-piece-item.is
    c.loop-piece.invariant c.as_slice.ensures c.in_ok-extend_from_slice.ensures.ok

pub returns : goal.returns
returns c =
    if_ok (λ (made : List ℕ). made ≡ c.loop-piece.object) _ c.new.result
    (λ made is. is ∙ (c.loop-piece.invariant ∙ ap (λ (l : List (HeldPiece × List ℕ)). concat (map (λ (chunk : HeldPiece × List ℕ). chunk.1) l)) (take_all c.loop-piece._piece-index c.args.chunks.now c.loop-piece-test.false)))
    c.new.ensures
