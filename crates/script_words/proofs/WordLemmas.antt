-- Forms of words.
use Rattle.std.proofs.Common.{◌≡◌, ℕ, ◌<◌, ◌^◌, Bool, true, false, ◌&&◌, eqb, ltb, leb, List, [], ◌∷◌, length}
use Rattle.std.proofs.Common.{get_or, Option, Some, None, Result, Ok, Err, refl, sym, ap, ◌∙◌, subst, arith, true≢false, inl, inr}
use Rattle.std.specs.Prelude.{if◌then◌else◌, ◌≤◌}
use Rattle.std.specs.Result.{MatchResult, is_ok}
use Rattle.std.proofs.lemmas.Str.{is_utf8-from_IsUtf8, IsUtf8-from_is_utf8}
use Rattle.std.specs.Str.{all_ascii_digits, bytes_eq, is_utf8, IsUtf8}
use Rattle.std.specs.Str.Parse.{digits_value, ParsesUnsigned}
use Rattle.std.proofs.lemmas.Bool.{leb-true, ltb-true, cases_Bool}
use Rattle.std.proofs.lemmas.Str.Parse.{IsNumeralModel, numerals_by_value, tells_all_ascii_digits, parse_digits}
use Rattle.std.proofs.lemmas.Result.{OkIff-at_ok, OkIff-at_err}
use Rattle.std.proofs.lemmas.Slice.Eq.{bytes_eq-Decides}
use Rattle.script_words.specs.Words.{is_number, is_length}
use Rattle.script_words.specs.Values.{length_in}

pub own : IsNumeralModel (λ ds. all_ascii_digits ds ≡ true) (digits_value 10)
own = numerals_by_value _ tells_all_ascii_digits

pub both : (a b : Bool) → (a && b) ≡ true → (a ≡ true) × (b ≡ true)
both true b e = (refl, e)
both false b e = absurd (true≢false (sym e))

pub IsNumber-parts : (ds : List ℕ) → is_number ds ≡ true → (48 < get_or ds 0 0) × (all_ascii_digits ds ≡ true)
unfolding is_number
IsNumber-parts ds e = let p = both (ltb 48 (get_or ds 0 0)) (all_ascii_digits ds) e in (ltb-true _ _ p.0, p.1)

pub long : (ds : List ℕ) → 48 < get_or ds 0 0 → 0 < length ds
long [] h = absurd (omega (arith, h))
long (d ∷ ds) h = omega arith

pub either : (ds : List ℕ) → is_length ds ≡ true → (0 < length ds) × (all_ascii_digits ds ≡ true)
unfolding is_length
either ds e = elim (cases_Bool (bytes_eq ds (48 ∷ []))) [
  | inl is ↦ let same = (bytes_eq-Decides ds (48 ∷ [])).0 is in rw same (omega arith, refl)
  | inr other ↦ let p = IsNumber-parts ds (rw other at e) in (long ds p.0, p.1)
]

-- the length of digits that were read

pub length-read : {E : Type 0} (ds : List ℕ) (r : Result ℕ E) (n : ℕ) → is_length ds ≡ true → ParsesUnsigned 32 10 ds r → r ≡ Ok n → length_in ds ≡ (if leb n 33554432 then Some n else None)
unfolding length_in
length-read ds r n is h e =
    let p = either ds is in
    let q = OkIff-at_ok r _ (digits_value 10 ds) n (parse_digits own 32 ds r h p.1) e in
    rw (is, q.1) refl

pub length-none : {E : Type 0} (ds : List ℕ) (r : Result ℕ E) (f : E) → is_length ds ≡ true → ParsesUnsigned 32 10 ds r → r ≡ Err f → length_in ds ≡ None
unfolding length_in
length-none ds r f is h e =
    let p = either ds is in
    let q = OkIff-at_err r ((0 < length ds) × (digits_value 10 ds < 2 ^ 32)) (digits_value 10 ds) f (parse_digits own 32 ds r h p.1) e in
    elim (cases_Bool (leb (digits_value 10 ds) 33554432)) [
      | inl less ↦ absurd (q (p.0, omega (arith, leb-true _ _ less)))
      | inr more ↦ rw (is, more) refl
    ]

pub utf8-test : {X E : Type 0} (bytes : List ℕ) (r : Result X E) (P : X → Type 0) (Q : E → Type 0) → MatchResult r (λ s. P s × IsUtf8 bytes) (λ e. (IsUtf8 bytes → ⊥) × Q e)
    → is_ok r ≡ is_utf8 bytes
utf8-test bytes (Ok s) P Q h = sym (is_utf8-from_IsUtf8 bytes h.1)
utf8-test bytes (Err e) P Q h = elim (cases_Bool (is_utf8 bytes)) [
  | inl is ↦ absurd (h.0 (IsUtf8-from_is_utf8 bytes is))
  | inr other ↦ sym other
]
