-- Hex digits of bytes that stand one behind the other.
use Rattle.std.proofs.Common.{◌≡◌, ℕ, List, [], ◌∷◌, ◌++◌, refl, ap, sym, ◌∙◌, append_assoc, append-nil}
use Rattle.std.specs.Prelude.{◌/◌, ◌%◌, slice_index}
use Rattle.hex.specs.Hex.{encode_lower, encode_with, lower_digits}

pub encode_with-append : (digits xs ys : List ℕ) → encode_with digits (xs ++ ys) ≡ encode_with digits xs ++ encode_with digits ys
unfolding encode_with
encode_with-append digits [] ys = refl
encode_with-append digits (x ∷ xs) ys =
    ap (λ more. slice_index digits (x / 16) ∷ slice_index digits (x % 16) ∷ more) (encode_with-append digits xs ys)

-- the digits of the next part go from what is still to be spelled to what is written
pub digits_of_a_part : (written next rest part : List ℕ) → rest ≡ part ++ next
    → (written ++ encode_lower part) ++ encode_lower next ≡ written ++ encode_lower rest
digits_of_a_part written next rest part parts =
    append_assoc written (encode_lower part) (encode_lower next)
    ∙ ap (λ more. written ++ more) (sym (encode_with-append lower_digits part next) ∙ ap encode_lower (sym parts))

pub digits_of_none : (written rest : List ℕ) → rest ≡ [] → written ++ encode_lower rest ≡ written
unfolding encode_with
digits_of_none written rest none = rw none (append-nil written)
