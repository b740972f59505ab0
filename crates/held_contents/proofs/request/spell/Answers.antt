use Rattle.std.proofs.Common.{◌≡◌, ℕ, List, length, ◌∙◌, ap, arith}
use Rattle.std.proofs.lemmas.Result.{IfOk-weaker}
use Rattle.row_value.specs.declared.pieces.Piece.{Piece}
use Rattle.held_value.specs.declared.content.HeldPiece.{HeldPiece}
use Rattle.step_tables.specs.Chunks.{flat}
use Rattle.held_contents.specs.Request.{known_in, bytes_in, request_pieces}
use Rattle.held_contents.proofs.Spellings.{all_count}
use Rattle.held_contents.proofs.Objects.{both_ok}
use Rattle.held_contents.proofs.request.spell.Goals as goal

counted : (read now slice : List (List (HeldPiece × List ℕ))) (pieces : List Piece) → slice ≡ now → pieces ≡ request_pieces read (bytes_in slice) → length pieces ≡ length (flat (bytes_in now))
counted read now slice pieces same is = ap length is ∙ (all_count 0 (known_in read) (bytes_in slice) ∙ ap (λ (l : List (List (HeldPiece × List ℕ))). length (flat (bytes_in l))) same)

pub returns-clause-count : goal.returns-clause-count
returns-clause-count c = IfOk-weaker c.spell_all.result _ _ (λ pieces is. counted c.as_slice.result.now c.args.now.now c.as_slice-2.result.now pieces c.as_slice-2.ensures is) c.spell_all.ensures.pieces

pub returns-clause-spelled : goal.returns-clause-spelled
returns-clause-spelled c =
    both_ok _ _ _ c.spell_all.result
    (λ pieces is spelled. (omega (arith, counted c.as_slice.result.now c.args.now.now c.as_slice-2.result.now pieces c.as_slice-2.ensures is, c.requires), spelled))
    c.spell_all.ensures.pieces c.spell_all.ensures.spelled
