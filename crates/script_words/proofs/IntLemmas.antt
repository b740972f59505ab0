-- Numbers with a sign, each with its one text.
use Rattle.std.proofs.Common.{◌≡◌, ℕ, ◌<◌, ◌^◌, Bool, ◌&&◌, ltb, List, Some, None, Result, Ok, Err, ℤ, refl, sym, inl, inr, w64, FitsSigned, subst, if◌then◌else◌}
use Rattle.std.specs.Int.Signed.{mag}
use Rattle.std.specs.Fmt.{signed_decimal}
use Rattle.std.specs.Str.{bytes_eq}
use Rattle.std.specs.Str.Parse.{signed_digits_value, ParsesSigned}
use Rattle.std.proofs.lemmas.Bool.{ltb-true, lt-ltb, cases_Bool}
use Rattle.std.proofs.lemmas.Result.{OkIff-at_ok}
use Rattle.std.proofs.lemmas.Fmt.{parse-signed_decimal}
use Rattle.std.proofs.lemmas.Slice.Eq.{bytes_eq-Decides}
use Rattle.script_words.proofs.WordLemmas.{both}
use Rattle.script_words.specs.Values.{int_of}

pub int_of-parts : (word : List ℕ) (z : ℤ) → int_of word ≡ Some z → (mag z < 2 ^ 63) × (word ≡ signed_decimal z)
unfolding int_of
int_of-parts word z e =
    let v = signed_digits_value 10 word in
    elim (cases_Bool (ltb (mag v) (2 ^ 63) && bytes_eq (signed_decimal v) word)) [
      | inl is ↦
          let p = both (ltb (mag v) (2 ^ 63)) (bytes_eq (signed_decimal v) word) is in
          let same : v ≡ z = (let f : Some v ≡ Some z = rw is at e in cc) in
          (subst (λ (y : ℤ). mag y < 2 ^ 63) same (ltb-true _ _ p.0), subst (λ (y : ℤ). word ≡ signed_decimal y) same (sym ((bytes_eq-Decides (signed_decimal v) word).0 p.1)))
      | inr not_is ↦ absurd (let f : None ≡ Some z = rw not_is at e in cc)
    ]

pub int_of-none : {E : Type 0} (word : List ℕ) (e : E) → ParsesSigned w64 10 word (Err e) → None ≡ int_of word
unfolding int_of
int_of-none word e h =
    let v = signed_digits_value 10 word in
    elim (cases_Bool (ltb (mag v) (2 ^ 63) && bytes_eq (signed_decimal v) word)) [
      | inl is ↦
          let p = both (ltb (mag v) (2 ^ 63)) (bytes_eq (signed_decimal v) word) is in
          let less : mag v < 2 ^ 63 = ltb-true _ _ p.0 in
          absurd (let f : Err e ≡ Ok v = parse-signed_decimal w64 v word (Err e) (record { sfits = less }) less (sym ((bytes_eq-Decides (signed_decimal v) word).0 p.1)) h in cc)
      | inr not_is ↦ rw not_is refl
    ]

chosen : (word : List ℕ) (z v : ℤ) → z ≡ v → mag v < 2 ^ 63
    → (if ltb (mag v) (2 ^ 63) && bytes_eq (signed_decimal v) word then Some v else None) ≡ (if bytes_eq (signed_decimal z) word then Some z else None)
chosen word z v same less = rw (same, lt-ltb (mag v) (2 ^ 63) less) refl

pub int_of-read : {E : Type 0} (word : List ℕ) (z : ℤ) (r : Result ℤ E) → r ≡ Ok z → ParsesSigned w64 10 word r
    → (int_of word ≡ (if bytes_eq (signed_decimal z) word then Some z else None)) × FitsSigned w64 z
unfolding int_of
int_of-read {E} word z r e h =
    let v = signed_digits_value 10 word in
    let p = OkIff-at_ok r _ v z h e in
    (chosen word z v p.1 p.0.1.sfits, subst (λ (y : ℤ). FitsSigned w64 y) (sym p.1) p.0.1)

pub int_of-test : {E : Type 0} (word : List ℕ) (z : ℤ) (r : Result ℤ E) → r ≡ Ok z → ParsesSigned w64 10 word r → (b : Bool) → b ≡ bytes_eq (signed_decimal z) word
    → int_of word ≡ (if b then Some z else None)
int_of-test word z r e h b test = rw test (int_of-read word z r e h).0
