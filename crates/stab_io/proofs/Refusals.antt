-- A limit that the bytes held pass is a refusal of the reader.
use Rattle.std.proofs.Common.{◌≡◌, ℕ, ◌+◌, ◌<◌, ◌≤◌, ◌==◌, ◌⊎◌, inl, inr, List, ◌++◌, length, take, drop, Option, None, refl, sym, subst, ap, arith, length-append, length-drop, length-take}
use Rattle.std.specs.List.{position_or_len, position}
use Rattle.stab_io.specs.declared.limits.Limits.{Limits}
use Rattle.stab_io.specs.declared.line_fault.LineFault.{LineFault}
use Rattle.stab_io.specs.declared.line_fault.LineFault.TheVariants.{LineLimit, InputLimit}
use Rattle.stab_io.specs.Lines.{HasNoNewline}
use Rattle.stab_io.specs.Reading.{Reading, Refuses, CutsLine}
use Rattle.stab_io.proofs.NextLine.{none_found, no_newline_append, held_line_too_long, held_input_too_long, found_line, found_line_too_long, found_input_too_long}

-- what `limit_passed` says of its refusal
abbrev pub Passes : Limits → ℕ → ℕ → ℕ → LineFault → Type 0
Passes limits used text taken fault =
    ((fault ≡ LineLimit (limits.line + 1)) × (limits.line < text) × (used + limits.line ≤ limits.input))
    ⊎ ((fault ≡ InputLimit (limits.input + 1)) × (limits.input < used + taken) × (limits.line < text → limits.input < used + limits.line))

pub refuses_held : (r : Reading) (fault : LineFault) (text : ℕ) → HasNoNewline r.held → r.used ≤ r.limits.input → text ≡ length r.held
    → Passes r.limits r.used text text fault → Refuses r fault
refuses_held r fault text plain fits e p = elim p [
  | inl h ↦ subst (λ f. Refuses r f) (sym h.0) (refl, λ more. held_line_too_long r.limits r.used r.held more plain (omega (arith, h.1)) h.2)
  | inr h ↦
      subst (λ f. Refuses r f) (sym h.0)
      (refl, λ more. held_input_too_long r.limits r.used r.held more plain fits (omega (arith, h.1)) (λ long. h.2 (omega (arith, long))))
]

pub refuses_found : (limits : Limits) (used : ℕ) (front piece : List ℕ) (stopped : Option LineFault) (fault : LineFault) (at text : ℕ) → HasNoNewline front
    → at ≡ position_or_len (λ b. b == 10) piece → at < length piece → text ≡ length front + at → Passes limits used text (text + 1) fault
    → Refuses (record { used = used; held = front ++ piece; stopped = stopped; limits = limits }) fault
refuses_found limits used front piece stopped fault at text plain e lt t p = elim p [
  | inl h ↦
      subst (λ f. Refuses (record { used = used; held = front ++ piece; stopped = stopped; limits = limits }) f) (sym h.0)
      (refl, λ more. found_line_too_long limits used front piece more at plain e lt (omega (arith, h.1)) h.2)
  | inr h ↦
      subst (λ f. Refuses (record { used = used; held = front ++ piece; stopped = stopped; limits = limits }) f) (sym h.0)
      (refl, λ more. found_input_too_long limits used front piece more at plain e lt (omega (arith, h.1)) (λ long. h.2 (omega (arith, long))))
]

pub cuts_found : (limits : Limits) (used used_then : ℕ) (front piece line rest : List ℕ) (stopped : Option LineFault) (at text : ℕ) → HasNoNewline front
    → at ≡ position_or_len (λ b. b == 10) piece → at < length piece → text ≡ length front + at
    → text ≤ limits.line → used + (text + 1) ≤ limits.input → used_then ≡ used + (text + 1) → line ≡ front ++ take at piece → rest ≡ drop (at + 1) piece
    → CutsLine (record { used = used; held = front ++ piece; stopped = stopped; limits = limits }) line (record { used = used_then; held = rest; stopped = stopped; limits = limits })
cuts_found limits used used_then front piece line rest stopped at text plain e lt t short fits u l r =
    let len : length line ≡ text = omega (arith, t, lt, ap (λ (xs : List ℕ). length xs) l, length-append front (take at piece), length-take at piece) in (
      (λ more. rw (l, r) (found_line limits used front piece more at plain e lt (omega (arith, t, short)) (omega (arith, t, fits)))),
      omega (arith, len, short),
      omega (arith, len, u),
      omega (arith, len, t, lt, length-append front piece, ap (λ (xs : List ℕ). length xs) r, length-drop (at + 1) piece),
      refl,
      refl,
    )

-- no newline in the front nor in the piece
pub plain_held : (front piece slice : List ℕ) → HasNoNewline front → slice ≡ piece → position (λ b. b == 10) slice ≡ None → HasNoNewline (front ++ piece)
plain_held front piece slice plain e none =
    no_newline_append front piece plain (subst (λ xs. HasNoNewline xs) e (none_found slice none))
