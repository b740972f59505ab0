-- What stands before and behind the first byte that separates the parts of a word.
use Rattle.std.proofs.Common.{◌≡◌, ◌≢◌, ℕ, ◌+◌, ◌<◌, ◌≤◌, Bool, true, false, ltb, eqb, cond, List, [], ◌∷◌, ◌++◌}
use Rattle.std.proofs.Common.{length, get_or, take, drop, length-append, Option, Some, None, refl, sym, ap, ◌∙◌, subst, inl, inr, arith, true≢false}
use Rattle.std.specs.List.{AllByRecursion, before_first, after_first, position_or_len}
use Rattle.std.proofs.lemmas.List.Sums.{split_at_first, passes_at_first}
use Rattle.std.proofs.lemmas.Bool.{ltb-true, lt-ltb, cases_Bool, eqb-true, eq-eqb}
use Rattle.std.proofs.Math.Seq.{take-append_seam, drop-append-add}
use Rattle.script_words.specs.Words.{is_colon, parts_by, parts_of}

pub some_same : {X : Type 0} (x y : X) → Some x ≡ Some y → x ≡ y
some_same x y e = cc

pub none_some : {X : Type 0} (x : X) → None ≡ Some x → ⊥
none_some x e = cc

module _ (separator : ℕ) where
  abbrev is_there : ℕ → Bool
  is_there b = eqb b separator

  pub parts_by-some : (word : List ℕ) (p : List ℕ × List ℕ) → parts_by separator word ≡ Some p → word ≡ p.0 ++ separator ∷ p.1
  unfolding parts_by
  parts_by-some word p e = elim (cases_Bool (ltb (position_or_len is_there word) (length word))) [
    | inl less ↦
        let within = ltb-true _ _ less in
        let same : (before_first is_there word, after_first is_there word) ≡ p = some_same _ _ (rw less at e) in
        let found : get_or word (position_or_len is_there word) 0 ≡ separator = eqb-true _ _ (passes_at_first is_there word 0 within) in
        subst (λ (q : List ℕ × List ℕ). word ≡ q.0 ++ separator ∷ q.1) same (split_at_first is_there word 0 within ∙ ap (λ (b : ℕ). before_first is_there word ++ b ∷ after_first is_there word) found)
    | inr more ↦ absurd (none_some p (rw more at e))
  ]

  -- bytes none of which is the separator
  abbrev pub IsFree : List ℕ → Type 0
  IsFree bytes = AllByRecursion (λ b. eqb b separator ≡ false) bytes

  there_at : (front rest : List ℕ) → IsFree front → position_or_len is_there (front ++ separator ∷ rest) ≡ length front
  there_at [] rest h = rw (eq-eqb separator separator refl) refl
  there_at (b ∷ front) rest h = let more = there_at front rest h.1 in rw h.0 (omega (arith, more))

  pub parts_by-right : (front rest : List ℕ) → IsFree front → parts_by separator (front ++ separator ∷ rest) ≡ Some (front, rest)
  unfolding parts_by
  parts_by-right front rest is =
      let at : position_or_len is_there (front ++ separator ∷ rest) ≡ length front = there_at front rest is in
      let within : ltb (length front) (length (front ++ separator ∷ rest)) ≡ true = lt-ltb _ _ (simp length-append (omega arith)) in
      chosen (position_or_len is_there (front ++ separator ∷ rest)) at within
    where
      chosen : (k : ℕ) → k ≡ length front → ltb (length front) (length (front ++ separator ∷ rest)) ≡ true
          → cond {A = Option (List ℕ × List ℕ)} (ltb k (length (front ++ separator ∷ rest))) (Some (take k (front ++ separator ∷ rest), drop (k + 1) (front ++ separator ∷ rest))) None
          ≡ Some (front, rest)
      chosen k is within = rw (is, within, take-append_seam front (separator ∷ rest), drop-append-add front (separator ∷ rest) 1) refl

pub parts_of-some : (word : List ℕ) (p : List ℕ × List ℕ) → parts_of word ≡ Some p → word ≡ p.0 ++ 58 ∷ p.1
parts_of-some word p e = parts_by-some 58 word p e

-- bytes none of which is a colon
abbrev pub IsPlain : List ℕ → Type 0
IsPlain bytes = IsFree 58 bytes

pub parts_of-right : (front rest : List ℕ) → IsPlain front → parts_of (front ++ 58 ∷ rest) ≡ Some (front, rest)
parts_of-right front rest is = parts_by-right 58 front rest is

pub no_colon : (b : ℕ) → b ≢ 58 → is_colon b ≡ false
no_colon b other = elim (cases_Bool (is_colon b)) [ inl is ↦ absurd (other (eqb-true b 58 is)) | inr not_is ↦ not_is ]
