-- Where a source fails is one place of its input, whatever of the next line it has given.
use Rattle.std.proofs.Common.{◌≡◌, ℕ, ◌+◌, ◌<◌, ◌≤◌, true, eqb, List, [], ◌∷◌, ◌++◌, length, refl, sym, ap, subst, ◌∙◌, inl, inr, length-append, length-drop, arith}
use Rattle.std.specs.List.{position_or_len}
use Rattle.std.proofs.lemmas.Bool.{cases_lt, eq-eqb}
use Rattle.std.proofs.lemmas.List.Folds.{prefix_len-append}
use Rattle.table_model.specs.declared.event.Event.{Event}
use Rattle.stab_io.specs.declared.limits.Limits.{Limits}
use Rattle.stab_io.specs.Lines.{Line, behind_line, HasNoNewline, next_of}
use Rattle.stab_io.proofs.NextLine.{no_newline_place}
use Rattle.stab_io.proofs.LineLaws.{Says, says, says_line}
use Rattle.simba_top.specs.Script.{Behind, IsWhole}
use Rattle.simba_top.specs.Ends.{IsCutOff}
use Rattle.simba_top.proofs.Fronts.{Grammar, rest_of_fronts, rest_of_front}
use Rattle.simba_top.proofs.OneEnd.{some_lines, same_front}

-- ---- a line takes some bytes

rest_said : (limits : Limits) (used : ℕ) (bytes line rest : List ℕ) → Says limits used bytes (Line line rest) → rest ≡ behind_line bytes
rest_said limits used bytes line rest (says_line some text is short fits) = is

rest_is : (limits : Limits) (used : ℕ) (bytes line rest : List ℕ) → next_of limits used bytes ≡ Line line rest → rest ≡ behind_line bytes
rest_is limits used bytes line rest next =
    rest_said limits used bytes line rest (subst (Says limits used bytes) next (says limits used bytes))

rest_fits : (limits : Limits) (used : ℕ) (bytes line rest : List ℕ) → next_of limits used bytes ≡ Line line rest → length rest ≤ length bytes
rest_fits limits used bytes line rest next =
    let e = ap (λ (r : List ℕ). length r) (rest_is limits used bytes line rest next) in
    omega (arith, e, length-drop (position_or_len (λ b. eqb b 10) bytes + 1) bytes)

-- behind bytes without a newline it takes some of those that follow
behind_is_shorter : (held left : List ℕ) → HasNoNewline held → 0 < length left → length (behind_line (held ++ left)) < length left
behind_is_shorter held left plain some =
    let whole : eqb (position_or_len (λ b. eqb b 10) held) (length held) ≡ true = eq-eqb _ _ (no_newline_place held plain) in
    let place = position_or_len (λ b. eqb b 10) (held ++ left) in
    let after : position_or_len (λ b. eqb b 10) (held ++ left) ≡ length held + position_or_len (λ b. eqb b 10) left =
    prefix_len-append _ held left ∙ rw whole refl
    in
    omega (arith, some, after, length-append held left, length-drop (place + 1) (held ++ left))

rest_is_shorter : (limits : Limits) (used : ℕ) (held left line rest : List ℕ) → HasNoNewline held → 0 < length left
    → next_of limits used (held ++ left) ≡ Line line rest → length rest < length left
rest_is_shorter limits used held left line rest plain some next =
    subst (λ (r : List ℕ). length r < length left) (sym (rest_is limits used (held ++ left) line rest next))
    (behind_is_shorter held left plain some)

behind_fits : (total : ℕ) (bytes rest : List ℕ) (lines : List (List ℕ)) → Behind total bytes lines rest → length rest ≤ length bytes
behind_fits total bytes rest [] behind = let e = ap (λ (r : List ℕ). length r) behind in omega (arith, e)
behind_fits total bytes rest (line ∷ lines) behind =
    let later = behind_fits total behind.0 rest lines behind.2 in
    let here = rest_fits _ _ bytes line behind.0 behind.1 in omega (arith, later, here)

-- ---- two cuts with the same bytes left

none_between : (total : ℕ) (held more left : List ℕ) (lines : List (List ℕ)) → HasNoNewline held → 0 < length left → 0 < length lines
    → Behind total (held ++ left) lines (more ++ left) → ⊥
none_between total held more left [] plain some many behind = absurd (omega (arith, many))
none_between total held more left (line ∷ lines) plain some many behind =
    let first = rest_is_shorter _ _ held left line behind.0 plain some behind.1 in
    let later = behind_fits total behind.0 (more ++ left) lines behind.2 in
    omega (arith, first, later, length-append more left)

module _ (grammar : Grammar) (input : List ℕ) where
  no_longer : (a b : List Event) (left : List ℕ) → 0 < length left → (x : IsCutOff input a left) → (y : IsCutOff input b left) → y.count ≤ x.count
  no_longer a b left some x y = elim (cases_lt x.count y.count) [
    | inl longer ↦ absurd (
        let rest = rest_of_fronts grammar input a b x.count y.count x.names y.names (x.held ++ left) (y.held ++ left) x.front y.front (omega (arith, longer)) in
        none_between (length input) x.held y.held left rest.lines x.unfinished some
        (some_lines rest (let p = x.front.counted in let q = y.front.counted in omega (arith, longer, p, q))) rest.behind
        )
    | inr fits ↦ fits
  ]

  pub cut_is_one : (a b : List Event) (left : List ℕ) → 0 < length left → (x : IsCutOff input a left) → (y : IsCutOff input b left)
      → (a ≡ b) × (x.count ≡ y.count)
  cut_is_one a b left some x y =
      let after = no_longer a b left some x y in
      let before = no_longer b a left some y x in
      let count : x.count ≡ y.count = omega (arith, after, before) in (
        (same_front grammar input a b x.count y.count x.names y.names (x.held ++ left) (y.held ++ left) x.front y.front count).script,
        count,
      )

  pub cut_is_front : (a b : List Event) (left : List ℕ) → IsWhole input a → IsCutOff input b left → (more : List Event) × (a ≡ b ++ more)
  cut_is_front a b left whole cut =
      let rest = rest_of_front grammar input b a cut.count whole.0 cut.names whole.1 (cut.held ++ left) cut.front whole.2 in
      (rest.events, rest.grows)
