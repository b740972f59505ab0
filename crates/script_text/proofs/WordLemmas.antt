-- Forms of words.
use Rattle.std.proofs.Common.{◌≡◌, ◌≢◌, ℕ, ◌<◌, ◌^◌, true, false, eqb, ltb, List, [], ◌∷◌, length, Some, Result, Ok, Err, refl, ap, inl, inr}
use Rattle.std.specs.Result.{OkIff, MatchResult, result_ok}
use Rattle.std.proofs.lemmas.Str.{is_utf8-from_IsUtf8, IsUtf8-from_is_utf8}
use Rattle.std.specs.Option.{MatchOption}
use Rattle.std.specs.Borrow.{Bor}
use Rattle.std.specs.Str.{is_utf8, IsUtf8}
use Rattle.std.specs.Str.Parse.{digits_value, ParsesUnsigned}
use Rattle.std.proofs.lemmas.Bool.{ltb-true, lt-ltb, cases_Bool, eqb-true}
use Rattle.std.proofs.lemmas.Str.Parse.{parse_digits}
use Rattle.script_words.specs.declared.code.Code.TheVariants.{NoName}
use Rattle.script_words.specs.Words.{is_number}
use Rattle.script_words.proofs.WordLemmas.{own, long, IsNumber-parts}
use Rattle.script_text.specs.Places.{small, node_at}

read : {E : Type 0} (ds : List ℕ) (r : Result ℕ E) → 0 < length ds → OkIff r ((0 < length ds) × (digits_value 10 ds < 2 ^ 32)) (digits_value 10 ds) → result_ok r ≡ small ds
unfolding small
read ds (Ok n) some h = rw (lt-ltb (digits_value 10 ds) (2 ^ 32) h.0.1) (ap Some h.1)
read ds (Err e) some h = elim (cases_Bool (ltb (digits_value 10 ds) (2 ^ 32))) [
  | inl less ↦ absurd (h (some, ltb-true _ _ less))
  | inr other ↦ rw other refl
]

pub small-parse : {E : Type 0} (ds : List ℕ) (r : Result ℕ E) → is_number ds ≡ true → ParsesUnsigned 32 10 ds r → result_ok r ≡ small ds
small-parse ds r is h =
    let p = IsNumber-parts ds is in
    read ds r (long ds p.0) (parse_digits own 32 ds r h p.1)

pub node_none : (letter : ℕ) (word : List ℕ) → ((rest : List ℕ) → word ≢ letter ∷ rest) → Err NoName ≡ node_at letter word
unfolding node_at
node_none letter [] h = refl
node_none letter (c ∷ digits) h = elim (cases_Bool (eqb c letter)) [
  | inl same ↦ absurd (h digits (ap (λ d. d ∷ digits) (eqb-true c letter same)))
  | inr other ↦ rw other refl
]

pub text-test : {E : Type 0} (line : List ℕ) (r : Result (Bor (List ℕ)) E) (Q : E → Type 0) → MatchResult r (λ s. (s.now ≡ line) × IsUtf8 line) (λ e. (IsUtf8 line → ⊥) × Q e)
    → MatchOption (result_ok r) (is_utf8 line ≡ false) (λ t. (t.now ≡ line) × (is_utf8 line ≡ true))
text-test line (Ok s) Q h = (h.0, is_utf8-from_IsUtf8 line h.1)
text-test line (Err e) Q h = elim (cases_Bool (is_utf8 line)) [
  | inl is ↦ absurd (h.0 (IsUtf8-from_is_utf8 line is))
  | inr other ↦ other
]
