-- Decimal numbers without leading zeros.
use Rattle.std.proofs.Common.{◌≡◌, ℕ, zero, suc, ◌<◌, ◌≤◌, ◌^◌, true, ltb, List, [], ◌∷◌, get_or, Some, refl, sym, ap, ◌∙◌, subst, inl, inr, arith}
use Rattle.std.specs.Fmt.{decimal}
use Rattle.std.specs.Str.{bytes_eq}
use Rattle.std.specs.Str.Parse.{digits_value}
use Rattle.std.proofs.Math.Bool.{or-true}
use Rattle.std.proofs.lemmas.Bool.{lt-ltb, cases_Bool}
use Rattle.std.proofs.lemmas.Fmt.{decimal_digit, decimal-digits_value, digits_decimal, digits_value-decimal, first_decimal}
use Rattle.std.proofs.lemmas.Slice.Eq.{bytes_eq-Decides}
use Rattle.script_words.specs.Words.{is_number, is_length}
use Rattle.script_words.proofs.WordLemmas.{own, long, IsNumber-parts}

module _ (digits : List ℕ) (is : is_number digits ≡ true) where
  pub number-text : digits_value 10 digits < 2 ^ 64 → decimal (digits_value 10 digits) ≡ digits
  number-text less =
      let p = IsNumber-parts digits is in
      decimal-digits_value own digits p.1 (long digits p.0) (λ zero_first. absurd (omega (arith, p.0, zero_first))) less

  above_zero : (n : ℕ) → decimal n ≡ digits → 1 ≤ n
  above_zero zero text =
      let p = IsNumber-parts digits is in
      let head : 48 ≡ get_or digits 0 0 = ap (λ (w : List ℕ). get_or w 0 0) (sym (decimal_digit 0 (omega arith)) ∙ text) in
      absurd (omega (arith, head, p.0))
  above_zero (suc n) text = omega arith

  pub number-some : digits_value 10 digits < 2 ^ 64 → 1 ≤ digits_value 10 digits
  number-some less = above_zero (digits_value 10 digits) (number-text less)

pub number-right : (n : ℕ) → 1 ≤ n → n < 2 ^ 64 → is_number (decimal n) ≡ true
unfolding is_number
number-right n some less =
    rw (lt-ltb 48 (get_or (decimal n) 0 0) (first_decimal n (omega arith) less), digits_decimal own n less) refl

pub value-right : (n : ℕ) → n < 2 ^ 64 → digits_value 10 (decimal n) ≡ n
value-right n less = digits_value-decimal own n less

-- a number from 0
pub length-text : (digits : List ℕ) → is_length digits ≡ true → digits_value 10 digits < 2 ^ 64 → decimal (digits_value 10 digits) ≡ digits
unfolding is_length
length-text digits is less = elim (cases_Bool (bytes_eq digits (48 ∷ []))) [
  | inl zero_alone ↦
      let same : digits ≡ 48 ∷ [] = (bytes_eq-Decides digits (48 ∷ [])).0 zero_alone in
      ap (λ (w : List ℕ). decimal (digits_value 10 w)) same ∙ decimal_digit 0 (omega arith) ∙ sym same
  | inr other ↦ number-text digits (rw other at is) less
]

pub length-right : (n : ℕ) → n < 2 ^ 64 → is_length (decimal n) ≡ true
unfolding is_length
length-right zero less = rw (decimal_digit 0 (omega arith)) refl
length-right (suc n) less = rw (number-right (suc n) (omega arith) less) (or-true (bytes_eq (decimal (suc n)) (48 ∷ [])))
