-- What comes next in a list of bytes, and its lines.
use Rattle.std.proofs.Common.{◌≡◌, ℕ, suc, ◌+◌, ◌-◌, ◌<◌, ◌≤◌, true, false, not, eqb, ltb, leb, ◌&&◌, ◌⊎◌, inl, inr, List, [], ◌∷◌, ◌++◌, length, take, drop, refl, sym, ap, ◌∙◌, one-add, arith}
use Rattle.std.proofs.Common.{length-take, length-drop}
use Rattle.std.specs.List.{position_or_len, onto_first}
use Rattle.std.proofs.lemmas.Bool.{cases_Bool, ltb-true, ltb-false, leb-true, leb-false, eqb-true, eqb-false, and_parts, and_cases}
use Rattle.std.proofs.lemmas.List.Sums.{prefix_len-le-length}
use Rattle.stab_io.proofs.NextLine.{is_end}
use Rattle.stab_io.specs.declared.limits.Limits.{Limits}
use Rattle.stab_io.specs.Lines.{lines_of, first_line, behind_line, Next, Line, End, LineTooLong, InputTooLong, next_of}

abbrev place : List ℕ → ℕ
place bytes = position_or_len (λ b. eqb b 10) bytes

first_behind : (b : ℕ) (bs : List ℕ) → eqb b 10 ≡ false → (first_line (b ∷ bs) ≡ b ∷ first_line bs) × (behind_line (b ∷ bs) ≡ behind_line bs)
first_behind b bs h =
    let n : place (b ∷ bs) ≡ suc (place bs) = rw h (one-add (place bs)) in
    let m : place (b ∷ bs) + 1 ≡ suc (place bs + 1) = omega (arith, n) in
    (ap (λ n. take n (b ∷ bs)) n, ap (λ n. drop n (b ∷ bs)) m)

pub lines_split : (b : ℕ) (bs : List ℕ) → lines_of (b ∷ bs) ≡ first_line (b ∷ bs) ∷ lines_of (behind_line (b ∷ bs))
lines_split b [] = elim (cases_Bool (eqb b 10)) [ inl h ↦ rw h refl | inr h ↦ rw h refl ]
lines_split b (c ∷ cs) = elim (cases_Bool (eqb b 10)) [
  | inl h ↦ rw h refl
  | inr h ↦
      let f = first_behind b (c ∷ cs) h in
      let top : lines_of (b ∷ c ∷ cs) ≡ onto_first b (lines_of (c ∷ cs)) = rw h refl in
      top ∙ ap (λ ls. onto_first b ls) (lines_split c cs) ∙ ap (λ l. l ∷ lines_of (behind_line (c ∷ cs))) (sym f.0) ∙ ap (λ r. first_line (b ∷ c ∷ cs) ∷ lines_of r) (sym f.1)
]

-- the first line, its newline if it has one, and the bytes behind it are the bytes
pub whole_split : (bytes : List ℕ) → (bytes ≡ first_line bytes ++ 10 ∷ behind_line bytes) ⊎ ((bytes ≡ first_line bytes) × (behind_line bytes ≡ []))
whole_split [] = inr (refl, refl)
whole_split (b ∷ bs) = elim (cases_Bool (eqb b 10)) [
  | inl h ↦ inl (let e : b ≡ 10 = eqb-true b 10 h in rw (h, e) refl)
  | inr h ↦
      let f = first_behind b bs h in
      elim (whole_split bs) [
        | inl p ↦ inl (rw (f.0, f.1) (ap (λ xs. b ∷ xs) p))
        | inr p ↦ inr (rw f.0 (ap (λ xs. b ∷ xs) p.0), f.1 ∙ p.1)
      ]
]

-- ---- what each answer of `next_of` says

some_from : (bytes : List ℕ) → eqb (length bytes) 0 ≡ false → 0 < length bytes
some_from bytes h = omega (arith, eqb-false _ _ h)

empty_from : (bytes : List ℕ) → eqb (length bytes) 0 ≡ true → bytes ≡ []
empty_from [] h = refl
empty_from (b ∷ bs) h = absurd (omega (arith, eqb-true (length (b ∷ bs)) 0 h))

line_taken : (bytes : List ℕ) → length (first_line bytes) ≤ length bytes - length (behind_line bytes)
line_taken bytes =
    omega (arith, length-take (place bytes) bytes, prefix_len-le-length (λ b. not (eqb b 10)) bytes, length-drop (place bytes + 1) bytes)

-- what each thing that comes next says of the bytes
pub data Says (limits : Limits) (used : ℕ) (bytes : List ℕ) : Next → Type 0 where
  says_end : bytes ≡ [] → Says limits used bytes End
  says_line_too_long : 0 < length bytes → limits.line < length (first_line bytes) → used + limits.line ≤ limits.input → Says limits used bytes LineTooLong
  says_input_too_long : limits.input < used + length bytes → Says limits used bytes InputTooLong
  says_line : {text rest : List ℕ} → 0 < length bytes → text ≡ first_line bytes → rest ≡ behind_line bytes → length text ≤ limits.line
      → used + (length bytes - length rest) ≤ limits.input → Says limits used bytes (Line text rest)

pub says : (limits : Limits) (used : ℕ) (bytes : List ℕ) → Says limits used bytes (next_of limits used bytes)
unfolding next_of
says limits used bytes = elim (cases_Bool (eqb (length bytes) 0)) [
  | inl h ↦ rw h (says_end (empty_from bytes h))
  | inr h ↦
      let some = some_from bytes h in
      let t = ltb limits.line (length (first_line bytes)) in
      let u = leb (used + limits.line) limits.input in
      elim (cases_Bool (t && u)) [
        | inl k ↦
            let p = and_parts t u k in
            rw (h, k) (says_line_too_long some (ltb-true _ _ p.0) (leb-true _ _ p.1))
        | inr k ↦ elim (cases_Bool (ltb limits.input (used + (length bytes - length (behind_line bytes))))) [
          | inl i ↦ rw (h, k, i) (says_input_too_long (omega (arith, ltb-true _ _ i)))
          | inr i ↦
              let fits : used + (length bytes - length (behind_line bytes)) ≤ limits.input = ltb-false _ _ i in
              let short : length (first_line bytes) ≤ limits.line = elim (and_cases t u k) [
                | inl a ↦ ltb-false _ _ a
                | inr b ↦ omega (arith, leb-false _ _ b, fits, line_taken bytes)
              ] in
              rw (h, k, i) (says_line some refl refl short fits)
        ]
      ]
]

-- ---- the laws

pub line_law : (limits : Limits) (used : ℕ) (bytes text rest : List ℕ) → Says limits used bytes (Line text rest) → lines_of bytes ≡ text ∷ lines_of rest
line_law limits used [] text rest (says_line some e d line input) = absurd (omega arith)
line_law limits used (b ∷ bs) text rest (says_line some e d line input) = rw (e, d) (lines_split b bs)

pub whole_law : (limits : Limits) (used : ℕ) (bytes text rest : List ℕ) → Says limits used bytes (Line text rest)
    → (bytes ≡ text ++ 10 ∷ rest) ⊎ ((bytes ≡ text) × (rest ≡ []))
whole_law limits used bytes text rest (says_line some e d line input) = rw (e, d) (whole_split bytes)

pub fits_law : (limits : Limits) (used : ℕ) (bytes text rest : List ℕ) → Says limits used bytes (Line text rest)
    → (length text ≤ limits.line) × (used + (length bytes - length rest) ≤ limits.input)
fits_law limits used bytes text rest (says_line some e d line input) = (line, input)

pub end_law : (limits : Limits) (used : ℕ) (bytes : List ℕ) → Says limits used bytes End → lines_of bytes ≡ []
end_law limits used bytes (says_end e) = rw e refl

pub line_limit_law : (limits : Limits) (used : ℕ) (bytes : List ℕ) → Says limits used bytes LineTooLong
    → (line : List ℕ) × (lines : List (List ℕ)) × (lines_of bytes ≡ line ∷ lines) × (limits.line < length line)
line_limit_law limits used [] (says_line_too_long some long fits) = absurd (omega arith)
line_limit_law limits used (b ∷ bs) (says_line_too_long some long fits) =
    (first_line (b ∷ bs), lines_of (behind_line (b ∷ bs)), lines_split b bs, long)

pub input_limit_law : (limits : Limits) (used : ℕ) (bytes : List ℕ) → Says limits used bytes InputTooLong → limits.input < used + length bytes
input_limit_law limits used bytes (says_input_too_long input) = input

-- where no line is left, the end comes next
pub no_lines : (limits : Limits) (used : ℕ) (bytes : List ℕ) → lines_of bytes ≡ [] → next_of limits used bytes ≡ End
no_lines limits used [] e = is_end limits used
no_lines limits used (b ∷ bs) e = absurd (let f : first_line (b ∷ bs) ∷ lines_of (behind_line (b ∷ bs)) ≡ [] = sym (lines_split b bs) ∙ e in cc)
