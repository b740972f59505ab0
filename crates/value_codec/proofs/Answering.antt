-- What a reader answers, from what its reading function gives.
use Rattle.std.proofs.Common.{◌≡◌, ℕ, ◌-◌, cond, eqb, List, [], ◌∷◌, ◌++◌, length, drop, Result, Ok, Err, refl, sym, ap, subst, ◌∙◌, inl, inr}
use Rattle.std.specs.Prelude.{IfOk}
use Rattle.std.proofs.lemmas.Bool.{eqb-true}
use Rattle.std.proofs.lemmas.List.{nil_from_length, append-nil}
use Rattle.stab_base.specs.Codec.{IsBytes}
use Rattle.stab_base.proofs.Fields.{IsBytes-drop}
use Rattle.value_codec.specs.declared.spell_fault.SpellFault.{SpellFault}
use Rattle.value_codec.specs.declared.spell_fault.SpellFault.TheVariants.{Bad, Memory}
use Rattle.value_codec.specs.FirstBad.{IsFirstBad, Refuses}
use Rattle.value_codec.specs.Reading.{Gives, whole}
use Rattle.value_codec.proofs.Stops.{Stops, err_is, not_ok, bind_err, branch_err}
use Rattle.value_codec.proofs.FieldReads.{bind_ok, ok_is, branch, no_fault, Reads}

pub found : {X : Type 0} (P : X → Type 0) (spell : X → List ℕ) (read : List ℕ → Result (X × List ℕ) ℕ) → Reads P spell read
    → (bytes : List ℕ) (at : ℕ) (result : Result (X × ℕ) SpellFault) → IsBytes bytes → Gives bytes (λ x. (x.0, drop x.1 bytes)) result (read (drop at bytes))
    → IfOk result (λ x. P x.0 × (drop at bytes ≡ spell x.0 ++ drop x.1 bytes))
found P spell read r bytes at (Ok x) fits given = r.takes (drop at bytes) x.0 (drop x.1 bytes) (IsBytes-drop at bytes fits) given
found P spell read r bytes at (Err e) fits given = tt

pub only : {X : Type 0} (P : X → Type 0) (spell : X → List ℕ) (read : List ℕ → Result (X × List ℕ) ℕ) → Reads P spell read
    → (bytes : List ℕ) (at : ℕ) (result : Result (X × ℕ) SpellFault) → Gives bytes (λ x. (x.0, drop x.1 bytes)) result (read (drop at bytes))
    → (x : X) (rest : List ℕ) → P x → drop at bytes ≡ spell x ++ rest → Gives {Y = X × List ℕ} bytes (λ x. (x.0, drop x.1 bytes)) result (Ok (x, rest))
only {X} P spell read r bytes at result given x rest h e =
    subst (λ (f : Result (X × List ℕ) ℕ). Gives bytes (λ x. (x.0, drop x.1 bytes)) result f) (ap read e ∙ r.again x rest h) given

whole_takes : {X : Type 0} (P : X → Type 0) (spell : X → List ℕ) (read : List ℕ → Result (X × List ℕ) ℕ) → Reads P spell read
    → (bytes : List ℕ) (x : X) → IsBytes bytes → whole (read bytes) ≡ Ok x → P x × (bytes ≡ spell x)
unfolding whole
whole_takes {X} P spell read r bytes x fits e =
    let a = bind_ok (read bytes) (λ x. cond (eqb (length x.1) 0) (Ok x.0) (Err (length x.1))) x e in
    elim (branch (eqb (length a.0.1) 0) (Ok a.0.0) (Err (length a.0.1)) x a.2) [
      | inl y ↦
          let nothing : a.0.1 ≡ [] = nil_from_length a.0.1 (eqb-true _ _ y.0) in
          let t = r.takes bytes a.0.0 a.0.1 fits a.1 in
          let is : a.0.0 ≡ x = ok_is a.0.0 x y.1 in
          subst (λ (z : X). P z × (bytes ≡ spell z)) is (t.0, t.1 ∙ ap (λ (l : List ℕ). spell a.0.0 ++ l) nothing ∙ append-nil (spell a.0.0))
      | inr n ↦ absurd (no_fault (length a.0.1) x n.1)
    ]

pub whole_found : {X : Type 0} (P : X → Type 0) (spell : X → List ℕ) (read : List ℕ → Result (X × List ℕ) ℕ) → Reads P spell read
    → (bytes : List ℕ) (result : Result X SpellFault) → IsBytes bytes → Gives bytes (λ x. x) result (whole (read bytes)) → IfOk result (λ x. P x × (bytes ≡ spell x))
whole_found P spell read r bytes (Ok x) fits given = whole_takes P spell read r bytes x fits given
whole_found P spell read r bytes (Err e) fits given = tt

pub whole_only : {X : Type 0} (P : X → Type 0) (spell : X → List ℕ) (read : List ℕ → Result (X × List ℕ) ℕ) → Reads P spell read
    → (bytes : List ℕ) (result : Result X SpellFault) → Gives bytes (λ x. x) result (whole (read bytes))
    → (x : X) → P x → bytes ≡ spell x → Gives {Y = X} bytes (λ x. x) result (Ok x)
unfolding whole
whole_only {X} P spell read r bytes result given x h e =
    let nothing : List ℕ = [] in
    let read_again : read bytes ≡ Ok (x, nothing) = ap read (e ∙ sym (append-nil (spell x))) ∙ r.again x nothing h in
    subst (λ (f : Result X ℕ). Gives bytes (λ x. x) result f) (ap (λ (f : Result (X × List ℕ) ℕ). whole f) read_again) given

pub refused : {X R : Type 0} (P : X → Type 0) (spell : X → List ℕ) (read : List ℕ → Result (X × List ℕ) ℕ) → Stops P spell read
    → (bytes : List ℕ) (from : ℕ) (view : R → X × List ℕ) (result : Result R SpellFault) → IsBytes bytes → Gives bytes view result (read (drop from bytes)) → Refuses P spell bytes from result
refused P spell read s bytes from view (Ok x) fits given = tt
refused P spell read s bytes from view (Err Memory) fits given = tt
refused P spell read s bytes from view (Err (Bad at)) fits given = (given.0, s.fails (drop from bytes) (length bytes - at) (IsBytes-drop from bytes fits) given.1)

-- bytes behind a spelling
too_many : {X : Type 0} (P : X → Type 0) (spell : X → List ℕ) (read : List ℕ → Result (X × List ℕ) ℕ) → Reads P spell read
    → (bytes : List ℕ) (a : X × List ℕ) → IsBytes bytes → read bytes ≡ Ok a → IsFirstBad P spell bytes (length a.1)
too_many {X} P spell read r bytes a fits e =
    let t = r.takes bytes a.0 a.1 fits e in
    let nothing : List ℕ = [] in
    record {
      front = spell a.0;
      rest = a.1;
      parts = t.1;
      place = refl;
      value = a.0;
      more = nothing;
      fits = t.0;
      goes_on = sym (append-nil (spell a.0));
      stops = λ b later is y others h f.
          let longer : read (spell a.0 ++ (b ∷ others)) ≡ Ok (a.0, b ∷ others) = r.again a.0 (b ∷ others) t.0 in
          let alone : read (spell y ++ nothing) ≡ Ok (y, nothing) = r.again y nothing h in
          let same : Ok (a.0, b ∷ others) ≡ Ok (y, nothing) = sym longer ∙ ap read (sym (append-nil (spell y) ∙ f)) ∙ alone in
          let pair = ok_is (a.0, b ∷ others) (y, nothing) same in
          let none : b ∷ others ≡ nothing = ap (λ (p : X × List ℕ). p.1) pair in absurd cc;
    }

whole_fails : {X : Type 0} (P : X → Type 0) (spell : X → List ℕ) (read : List ℕ → Result (X × List ℕ) ℕ) → Reads P spell read → Stops P spell read
    → (bytes : List ℕ) (left : ℕ) → IsBytes bytes → whole (read bytes) ≡ Err left → IsFirstBad P spell bytes left
unfolding whole
whole_fails {X} P spell read r s bytes left fits e =
    elim (bind_err (read bytes) (λ x. cond (eqb (length x.1) 0) (Ok x.0) (Err (length x.1))) left e) [
      | inl h ↦ s.fails bytes left fits h
      | inr h ↦ elim (branch_err (eqb (length h.0.1) 0) (Ok h.0.0) (Err (length h.0.1)) left h.2) [
        | inl y ↦ absurd (not_ok h.0.0 left y.1)
        | inr n ↦ subst (IsFirstBad P spell bytes) (err_is {A = X} (length h.0.1) left n.1) (too_many P spell read r bytes h.0 fits h.1)
      ]
    ]

pub whole_refused : {X : Type 0} (P : X → Type 0) (spell : X → List ℕ) (read : List ℕ → Result (X × List ℕ) ℕ) → Reads P spell read → Stops P spell read
    → (bytes : List ℕ) (result : Result X SpellFault) → IsBytes bytes → Gives bytes (λ x. x) result (whole (read bytes)) → Refuses P spell bytes 0 result
whole_refused P spell read r s bytes (Ok x) fits given = tt
whole_refused P spell read r s bytes (Err Memory) fits given = tt
whole_refused P spell read r s bytes (Err (Bad at)) fits given = (given.0, whole_fails P spell read r s bytes (length bytes - at) fits given.1)
