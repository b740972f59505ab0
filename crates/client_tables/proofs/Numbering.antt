-- Pieces numbered and named in order.
use Rattle.std.proofs.Common.{◌≡◌, ℕ, ◌+◌, ◌<◌, List, [], ◌∷◌, ◌++◌, length, take, get_or, ap, ◌∙◌, arith, add-one}
use Rattle.std.proofs.Math.Seq.{take-suc}
use Rattle.std.proofs.lemmas.List.{length-take-le}
use Rattle.row_value.specs.declared.pieces.Piece.{Piece}
use Rattle.row_value.specs.declared.pieces.Piece.TheVariants.{Fresh}
use Rattle.client_tables.specs.Names.{fresh_from}

pub fresh_from-push : (first : ℕ) (pieces : List Piece) (piece : Piece) → fresh_from first (pieces ++ piece ∷ []) ≡ fresh_from first pieces ++ Fresh (first + length pieces) ∷ []
fresh_from-push first [] piece = ap (λ n. Fresh n ∷ []) (omega arith)
fresh_from-push first (x ∷ pieces) piece =
    ap (λ ps. Fresh first ∷ ps) (fresh_from-push (first + 1) pieces piece ∙ ap (λ n. fresh_from (first + 1) pieces ++ Fresh n ∷ []) (omega arith))

-- one more piece has the next number
pub fresh_from-take : (pieces : List Piece) (i : ℕ) → i < length pieces → fresh_from 0 (take (i + 1) pieces) ≡ fresh_from 0 (take i pieces) ++ Fresh i ∷ []
fresh_from-take pieces i lt =
    let more : take (i + 1) pieces ≡ take i pieces ++ get_or pieces i (Fresh 0) ∷ [] = rw add-one (take-suc pieces i (Fresh 0) lt) in
    let count : length (take i pieces) ≡ i = length-take-le i pieces (omega arith) in
    ap (fresh_from 0) more ∙ fresh_from-push 0 (take i pieces) (get_or pieces i (Fresh 0)) ∙ ap (λ n. fresh_from 0 (take i pieces) ++ Fresh n ∷ []) (omega (arith, count))
