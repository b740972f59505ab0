-- The ordinals of new chunks, one piece after the other.
use Rattle.std.proofs.Common.{◌≡◌, ℕ, ◌+◌, List, [], ◌∷◌, ◌++◌, length, refl, ap, ◌∙◌, arith, length-append}
use Rattle.row_value.specs.declared.pieces.Piece.{Piece}
use Rattle.row_value.specs.declared.pieces.Piece.TheVariants.{Keep, Fresh}
use Rattle.value_codec.specs.Spelling.{fresh_in}
use Rattle.value_codec.specs.Reading.{after_piece}

pub fresh_in-append : (ps qs : List Piece) → fresh_in (ps ++ qs) ≡ fresh_in ps ++ fresh_in qs
fresh_in-append [] qs = refl
fresh_in-append (Keep name ∷ ps) qs = fresh_in-append ps qs
fresh_in-append (Fresh ordinal ∷ ps) qs = ap (λ (ns : List ℕ). ordinal ∷ ns) (fresh_in-append ps qs)

after_counts : (p : Piece) (next : ℕ) → after_piece next p ≡ next + length (fresh_in (p ∷ []))
after_counts (Keep name) next = omega arith
after_counts (Fresh ordinal) next = refl

pub count_with : (ps : List Piece) (p : Piece) (fresh next : ℕ) → next ≡ fresh + length (fresh_in ps) → after_piece next p ≡ fresh + length (fresh_in (ps ++ p ∷ []))
count_with ps p fresh next so_far =
    let both : length (fresh_in (ps ++ p ∷ [])) ≡ length (fresh_in ps) + length (fresh_in (p ∷ [])) = ap length (fresh_in-append ps (p ∷ [])) ∙ length-append (fresh_in ps) (fresh_in (p ∷ [])) in
    after_counts p next ∙ omega (arith, both, so_far)
