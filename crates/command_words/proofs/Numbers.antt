-- What `parse` reads of a number as it is written.
use Rattle.std.proofs.Common.{◌≡◌, ℕ, ◌<◌, ◌^◌, ◌*◌, ◌+◌, ◌-◌, Bool, true, false, ◌&&◌, ◌||◌, not, eqb, ltb, leb, List, [], ◌∷◌, length, Option, Some, None, Result, Ok, Err, refl, sym, ap, inl, inr}
use Rattle.std.specs.Prelude.{fold, slice_index}
use Rattle.std.specs.Result.{result_ok}
use Rattle.std.specs.List.{list_all}
use Rattle.std.specs.Char.{is_ascii_digit}
use Rattle.std.specs.Int.{IsInRange}
use Rattle.std.specs.Str.Parse.{ParsesUnsigned}
use Rattle.std.proofs.lemmas.Bool.{ltb-true, lt-ltb, leb-true, le-leb, cases_Bool}
use Rattle.std.proofs.lemmas.Result.{OkIff-at_ok, OkIff-at_err}
use Rattle.std.proofs.lemmas.Str.Parse.{IsNumeralModel, IsDigitsTest, FoldsDigits, numerals_by_fold, parse_digits}
use Rattle.command_words.specs.Commands.{is_decimal, number_of, value_of}

pub both : (a b : Bool) → (a && b) ≡ true → (a ≡ true) × (b ≡ true)
both true b e = (refl, e)
both false b e = absurd cc

tells : IsDigitsTest (λ ds. list_all is_ascii_digit ds ≡ true)
tells = record {
  empty = refl;
  parts = λ c cs e. let k = both (is_ascii_digit c) (list_all is_ascii_digit cs) e in let m = both (leb 48 c) (leb c 57) k.0 in ((leb-true 48 c m.0, leb-true c 57 m.1), k.1);
  more = λ c cs k e i. (le-leb 48 c k.0 i && le-leb c 57 k.1 i) && e i;
}

abbrev after : ℕ → List ℕ → ℕ
after n digits = fold (λ n digit. n * 10 + (digit - 48)) n digits

own : IsNumeralModel (λ ds. list_all is_ascii_digit ds ≡ true) value_of
own = numerals_by_fold (λ ds. list_all is_ascii_digit ds ≡ true) tells after (record { empty = λ n. refl; more = λ n c cs k. refl })

module _ {E : Type 0} (text : List ℕ) (r : Result ℕ E) (is : is_decimal text ≡ true) (h : ParsesUnsigned 64 10 text r) where
  digits : list_all is_ascii_digit text ≡ true
  digits = (both (list_all is_ascii_digit text) _ is).0

  some_digit : 0 < length text
  some_digit = ltb-true 0 (length text) (both (ltb 0 (length text)) _ (both (list_all is_ascii_digit text) _ is).1).0

  read_ok : (n : ℕ) → r ≡ Ok n → Some n ≡ number_of text
  read_ok n e =
      let q = OkIff-at_ok r _ (value_of text) n (parse_digits own 64 text r h digits) e in
      rw (is, lt-ltb (value_of text) (2 ^ 64) q.0.1) (ap Some q.1)

  read_err : (f : E) → r ≡ Err f → None ≡ number_of text
  read_err f e =
      let q = OkIff-at_err r ((0 < length text) × (value_of text < 2 ^ 64)) (value_of text) f (parse_digits own 64 text r h digits) e in
      elim (cases_Bool (ltb (value_of text) (2 ^ 64))) [
        | inl less ↦ absurd (q (some_digit, ltb-true _ _ less))
        | inr more ↦ rw (is, more) refl
      ]

-- what a parse of a number as it is written gives
pub number_read : {E : Type 0} (text : List ℕ) (r : Result ℕ E) → is_decimal text ≡ true → ParsesUnsigned 64 10 text r → result_ok r ≡ number_of text
number_read {E} text (Ok n) is h = read_ok {E = E} text (Ok n) is h n refl
number_read {E} text (Err f) is h = read_err {E = E} text (Err f) is h f refl
