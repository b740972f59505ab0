-- What comes next in a list of bytes.
use Rattle.std.proofs.Common.{◌≡◌, ℕ, ◌+◌, ◌-◌, ◌<◌, ◌≤◌, true, false, eqb, ltb, inl, inr, List, [], ◌++◌, length, take, drop, None, Some, refl, sym, ap, ◌∙◌, arith, append_assoc, length-append}
use Rattle.std.proofs.Common.{length-drop, length-take}
use Rattle.std.specs.List.{position_or_len, position}
use Rattle.std.proofs.lemmas.Bool.{cases_Bool, cases_lt, le-ltb, lt-ltb, lt-leb, le-leb, ltb-true, ltb-false, ne_eqb, eq-eqb}
use Rattle.std.proofs.lemmas.List.Sums.{prefix_len-le-length}
use Rattle.std.proofs.lemmas.List.Folds.{prefix_len-append}
use Rattle.std.proofs.lemmas.List.{take-append-le, drop-append-le, drop_all}
use Rattle.std.proofs.Math.Seq.{take-append-add, drop-append-add, take-length}
use Rattle.stab_io.specs.declared.limits.Limits.{Limits}
use Rattle.stab_io.specs.Lines.{first_line, behind_line, HasNoNewline, Line, End, LineTooLong, InputTooLong, next_of}

abbrev place : List ℕ → ℕ
place bytes = position_or_len (λ b. eqb b 10) bytes

place_le : (bytes : List ℕ) → place bytes ≤ length bytes
place_le bytes = prefix_len-le-length _ bytes

pub no_newline_place : (bytes : List ℕ) → HasNoNewline bytes → place bytes ≡ length bytes
no_newline_place bytes h =
    omega (arith, place_le bytes, length-take (place bytes) bytes, ap (λ (xs : List ℕ). length xs) h)

pub no_newline_from : (bytes : List ℕ) → place bytes ≡ length bytes → HasNoNewline bytes
no_newline_from bytes e = ap (λ n. take n bytes) e ∙ take-length bytes

-- bytes with no newline before others move the place of the first newline
place_behind : (front bytes : List ℕ) → HasNoNewline front → place (front ++ bytes) ≡ length front + place bytes
place_behind front bytes h =
    let e = no_newline_place front h in
    let t : eqb (place front) (length front) ≡ true = eq-eqb _ _ e in
    prefix_len-append _ front bytes ∙ rw t refl

-- bytes behind a newline leave it
place_before : (bytes more : List ℕ) → place bytes < length bytes → place (bytes ++ more) ≡ place bytes
place_before bytes more lt =
    let t : eqb (place bytes) (length bytes) ≡ false = ne_eqb _ _ (λ e. omega (arith, e, lt)) in
    prefix_len-append _ bytes more ∙ rw t refl

pub no_newline_append : (xs ys : List ℕ) → HasNoNewline xs → HasNoNewline ys → HasNoNewline (xs ++ ys)
no_newline_append xs ys p q =
    no_newline_from (xs ++ ys) (omega (arith, place_behind xs ys p, no_newline_place ys q, length-append xs ys))

-- ---- the first newline by its place

pub none_found : (bytes : List ℕ) → position (λ b. eqb b 10) bytes ≡ None → HasNoNewline bytes
none_found bytes e = elim (cases_Bool (ltb (place bytes) (length bytes))) [
  | inl t ↦ absurd (let f : Some (place bytes) ≡ None = rw t at e in cc)
  | inr t ↦ no_newline_from bytes (omega (arith, place_le bytes, ltb-false _ _ t))
]

pub some_found : (bytes : List ℕ) (at : ℕ) → position (λ b. eqb b 10) bytes ≡ Some at → (at ≡ place bytes) × (at < length bytes)
some_found bytes at e = elim (cases_Bool (ltb (place bytes) (length bytes))) [
  | inl t ↦ (let f : Some (place bytes) ≡ Some at = rw t at e in let same : place bytes ≡ at = cc in (sym same, omega (arith, same, ltb-true _ _ t)))
  | inr t ↦ absurd (let f : None ≡ Some at = rw t at e in cc)
]

-- ---- which thing comes next

is_line : (limits : Limits) (used : ℕ) (bytes text rest : List ℕ) → 0 < length bytes → first_line bytes ≡ text → behind_line bytes ≡ rest
    → length text ≤ limits.line → used + (length bytes - length rest) ≤ limits.input → next_of limits used bytes ≡ Line text rest
unfolding next_of
is_line limits used bytes text rest some e d line input =
    let t0 : eqb (length bytes) 0 ≡ false = ne_eqb _ _ (λ e. omega (arith, e, some)) in
    let t1 : ltb limits.line (length text) ≡ false = le-ltb _ _ line in
    let t2 : ltb limits.input (used + (length bytes - length rest)) ≡ false = le-ltb _ _ input in
    rw (t0, e, d, t1, t2) refl

is_line_too_long : (limits : Limits) (used : ℕ) (bytes text : List ℕ) → 0 < length bytes → first_line bytes ≡ text
    → limits.line < length text → used + limits.line ≤ limits.input → next_of limits used bytes ≡ LineTooLong
unfolding next_of
is_line_too_long limits used bytes text some e long fits =
    let t0 : eqb (length bytes) 0 ≡ false = ne_eqb _ _ (λ e. omega (arith, e, some)) in
    let t1 : ltb limits.line (length text) ≡ true = lt-ltb _ _ long in
    let t2 = le-leb (used + limits.line) limits.input fits in
    rw (t0, e, t1, t2) refl

is_input_too_long : (limits : Limits) (used : ℕ) (bytes text rest : List ℕ) → 0 < length bytes → first_line bytes ≡ text → behind_line bytes ≡ rest
    → (limits.line < length text → limits.input < used + limits.line) → limits.input < used + (length bytes - length rest)
    → next_of limits used bytes ≡ InputTooLong
unfolding next_of
is_input_too_long limits used bytes text rest some e d line input =
    let t0 : eqb (length bytes) 0 ≡ false = ne_eqb _ _ (λ e. omega (arith, e, some)) in
    let t2 : ltb limits.input (used + (length bytes - length rest)) ≡ true = lt-ltb _ _ input in
    elim (cases_Bool (ltb limits.line (length text))) [
      | inl t ↦ let t1 = lt-leb (used + limits.line) limits.input (line (ltb-true _ _ t)) in rw (t0, e, d, t, t1, t2) refl
      | inr t ↦ rw (t0, e, d, t, t2) refl
    ]

-- where the input has no room for a byte more, any byte is past its limit
pub no_room : (limits : Limits) (bytes : List ℕ) → 0 < length bytes → 0 < limits.line → next_of limits limits.input bytes ≡ InputTooLong
no_room limits bytes some line =
    is_input_too_long limits limits.input bytes _ _ some refl refl (λ long. omega arith)
    (omega (arith, some, length-drop (place bytes + 1) bytes))

pub is_end : (limits : Limits) (used : ℕ) → next_of limits used [] ≡ End
unfolding next_of
is_end limits used = refl

-- ---- a newline is held, in the piece behind a front with no newline

module _ (limits : Limits) (used : ℕ) (front piece more : List ℕ) (at : ℕ) (plain : HasNoNewline front) (e : at ≡ place piece) (lt : at < length piece) where
  whole : place ((front ++ piece) ++ more) ≡ length front + at
  whole =
      ap place (append_assoc front piece more) ∙ place_behind front (piece ++ more) plain
      ∙ ap (λ n. length front + n) (place_before piece more (omega (arith, e, lt)) ∙ sym e)

  text : first_line ((front ++ piece) ++ more) ≡ front ++ take at piece
  text =
      ap (λ n. take n ((front ++ piece) ++ more)) whole ∙ ap (take (length front + at)) (append_assoc front piece more)
      ∙ take-append-add front (piece ++ more) at ∙ ap (λ xs. front ++ xs) (take-append-le at piece more (omega arith))

  rest : behind_line ((front ++ piece) ++ more) ≡ drop (at + 1) piece ++ more
  rest =
      let n : length front + at + 1 ≡ length front + (at + 1) = omega arith in
      ap (λ n. drop (n + 1) ((front ++ piece) ++ more)) whole ∙ ap (drop (length front + at + 1)) (append_assoc front piece more)
      ∙ ap (λ n. drop n (front ++ (piece ++ more))) n
      ∙ drop-append-add front (piece ++ more) (at + 1) ∙ drop-append-le (at + 1) piece more (omega arith)

  text_len : length (front ++ take at piece) ≡ length front + at
  text_len = omega (arith, length-append front (take at piece), length-take at piece)

  all_len : length ((front ++ piece) ++ more) - length (drop (at + 1) piece ++ more) ≡ length front + at + 1
  all_len =
      omega (arith, length-append (front ++ piece) more, length-append front piece, length-append (drop (at + 1) piece) more, length-drop (at + 1) piece)

  some : 0 < length ((front ++ piece) ++ more)
  some = omega (arith, length-append (front ++ piece) more, length-append front piece)

  pub found_line : length front + at ≤ limits.line → used + (length front + at + 1) ≤ limits.input
      → next_of limits used ((front ++ piece) ++ more) ≡ Line (front ++ take at piece) (drop (at + 1) piece ++ more)
  found_line line input =
      is_line limits used _ _ _ some text rest (omega (arith, text_len)) (omega (arith, all_len))

  pub found_line_too_long : limits.line < length front + at → used + limits.line ≤ limits.input → next_of limits used ((front ++ piece) ++ more) ≡ LineTooLong
  found_line_too_long long fits = is_line_too_long limits used _ _ some text (omega (arith, text_len)) fits

  pub found_input_too_long : limits.input < used + (length front + at + 1) → (limits.line < length front + at → limits.input < used + limits.line)
      → next_of limits used ((front ++ piece) ++ more) ≡ InputTooLong
  found_input_too_long input line =
      is_input_too_long limits used _ _ _ some text rest (λ long. line (omega (arith, text_len, long))) (omega (arith, all_len))

-- ---- no newline is held

module _ (limits : Limits) (used : ℕ) (held more : List ℕ) (plain : HasNoNewline held) where
  behind : place (held ++ more) ≡ length held + place more
  behind = place_behind held more plain

  text_longer : length held ≤ length (first_line (held ++ more))
  text_longer =
      omega (arith, length-take (place (held ++ more)) (held ++ more), behind, place_le (held ++ more))

  line_taken : length (first_line (held ++ more)) ≤ length (held ++ more) - length (behind_line (held ++ more))
  line_taken =
      omega (arith, length-take (place (held ++ more)) (held ++ more), place_le (held ++ more), length-drop (place (held ++ more) + 1) (held ++ more))

  held_some : 0 < length held → 0 < length (held ++ more)
  held_some lt = omega (arith, length-append held more)

  pub held_line_too_long : limits.line < length held → used + limits.line ≤ limits.input → next_of limits used (held ++ more) ≡ LineTooLong
  held_line_too_long long fits =
      is_line_too_long limits used _ _ (held_some (omega arith)) refl (omega (arith, text_longer)) fits

  pub held_input_too_long : used ≤ limits.input → limits.input < used + length held → (limits.line < length held → limits.input < used + limits.line)
      → next_of limits used (held ++ more) ≡ InputTooLong
  held_input_too_long used_fits input line =
      is_input_too_long limits used _ _ _ (held_some (omega arith)) refl refl
      (λ long. elim (cases_lt limits.line (length held)) [ inl h ↦ line h | inr h ↦ omega arith ]) (omega (arith, text_longer, line_taken))

pub held_last : (limits : Limits) (used : ℕ) (held : List ℕ) → HasNoNewline held → 0 < length held → length held ≤ limits.line → used + length held ≤ limits.input
    → next_of limits used held ≡ Line held []
held_last limits used held plain some line input =
    let e = no_newline_place held plain in
    let none : behind_line held ≡ [] = drop_all _ held (omega (arith, e)) in
    is_line limits used held held [] some plain none line (omega arith)
