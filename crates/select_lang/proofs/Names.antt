-- The form of a name.
use Rattle.std.proofs.Common.{◌≡◌, ℕ, zero, suc, ◌<◌, true, false, List, [], ◌∷◌, get_or, arith, inl, inr}
use Rattle.std.specs.Str.{IsUtf8, is_utf8}
use Rattle.std.specs.List.{list_all}
use Rattle.std.proofs.lemmas.Str.{IsUtf8-from_ascii, IsUtf8-from_is_utf8}
use Rattle.std.proofs.lemmas.Bool.{cases_Bool}
use Rattle.std.proofs.lemmas.Bool.Decides.{nat_tests}
use Rattle.script_words.specs.Words.{is_name, is_name_byte}
use Rattle.script_words.proofs.WordLemmas.{both}

name_byte : (b : ℕ) → is_name_byte b ≡ true → b < 128
name_byte b e = grind (arith, nat_tests)

name_bytes : (bytes : List ℕ) → list_all is_name_byte bytes ≡ true → (i : ℕ) → get_or bytes i 0 < 128
name_bytes [] e i = omega arith
name_bytes (b ∷ bytes) e zero = name_byte b (both (is_name_byte b) (list_all is_name_byte bytes) e).0
name_bytes (b ∷ bytes) e (suc i) = name_bytes bytes (both (is_name_byte b) (list_all is_name_byte bytes) e).1 i

pub IsUtf8-from_name : (word : List ℕ) → is_name word ≡ true → IsUtf8 word
unfolding is_name
IsUtf8-from_name word e = IsUtf8-from_ascii word (name_bytes word (both _ (list_all is_name_byte word) e).1)

pub not_utf8 : (bytes : List ℕ) → (IsUtf8 bytes → ⊥) → is_utf8 bytes ≡ false
not_utf8 bytes h = elim (cases_Bool (is_utf8 bytes)) [
  | inl is ↦ absurd (h (IsUtf8-from_is_utf8 bytes is))
  | inr other ↦ other
]
