-- The front of a frame, and what a piece makes of it.
use Rattle.std.proofs.Common.{◌≡◌, ℕ, ◌+◌, ◌-◌, ◌<◌, ◌≤◌, min, List, ◌∷◌, ◌++◌, length, take, drop, get_or, drop-cons, length-drop, refl, sym, ap, subst, ◌∙◌, append_assoc, arith, inl, inr}
use Rattle.std.specs.Int.{w32, to_be_bytes, from_be_bytes}
use Rattle.std.proofs.lemmas.Nat.{be_bytes_4}
use Rattle.std.proofs.lemmas.Bool.{cases_lt}
use Rattle.std.proofs.lemmas.List.{length-append, length-take, take-append-le, take-take, take_min, append-nil, length-take-le, take-append-drop, drop-drop, get_or-take, get_or_past}
use Rattle.std.proofs.Math.Seq.{take-append-add}
use Rattle.sim_frame.specs.declared.part.Part.{Part}
use Rattle.sim_frame.specs.Stream.{IsLength, length_at, IsFront, IsBroken}
use Rattle.stab_base.specs.Codec.{IsBytes}
use Rattle.sim_frame.specs.Opening.{IsFirst, IsSized, held_of, IsShaped, IsWhole}

-- ---- the first five bytes of two strings

pub five_of : (head piece : List ℕ) → length head ≤ 5 → head ++ take (min (5 - length head) (length piece)) piece ≡ take 5 (head ++ piece)
five_of head piece most =
    let e : length head + (5 - length head) ≡ 5 = omega arith in
    ap (λ (l : List ℕ). head ++ l) (take_min (5 - length head) piece) ∙ sym (take-append-add head piece (5 - length head)) ∙ ap (λ (n : ℕ). take n (head ++ piece)) e

pub five_are : (part : Part) (piece : List ℕ) → IsShaped part → take 5 (part.head.items ++ piece) ≡ take 5 (held_of part ++ piece)
five_are part piece s =
    let head : List ℕ = part.head.items in
    let body : List ℕ = part.body.items in
    elim (cases_lt (length head) 5) [
      | inl lt ↦ (let none : held_of part ≡ head = ap (λ (l : List ℕ). head ++ l) (s.whole lt) ∙ append-nil head in ap (λ (l : List ℕ). take 5 (l ++ piece)) (sym none))
      | inr le ↦ take-append-le 5 head piece le ∙ sym (take-append-le 5 head body le) ∙ sym (take-append-le 5 (head ++ body) piece (omega (arith, length-append head body)))
    ]

-- ---- a stream by its first five bytes

four_of_five : (bytes : List ℕ) → length_at (take 5 bytes) ≡ length_at bytes
four_of_five bytes = ap (from_be_bytes w32) (take-take 4 5 bytes (omega arith))

pub broken_by_five : (bytes : List ℕ) (len : ℕ) → IsBroken (take 5 bytes) len → IsBroken bytes len
broken_by_five bytes len b = record { there = omega (arith, length-take 5 bytes, b.there); is = sym (four_of_five bytes) ∙ b.is; none = b.none }

pub sized_by_five : (bytes : List ℕ) (len : ℕ) → IsSized (take 5 bytes) len → IsSized bytes len
sized_by_five bytes len b = record { there = omega (arith, length-take 5 bytes, b.there); is = sym (four_of_five bytes) ∙ b.is; fits = b.fits }

-- ---- the frame of a length

same_length : (held piece : List ℕ) → 4 ≤ length held → length_at (held ++ piece) ≡ length_at held
same_length held piece le = ap (from_be_bytes w32) (take-append-le 4 held piece le)

pub less_held : (held piece : List ℕ) (len : ℕ) → IsFront held → IsSized (held ++ piece) len → length held < 4 + len
less_held held piece len (inl short) s = omega (arith, short)
less_held held piece len (inr less) s =
    elim (cases_lt (length held) 4) [
      | inl lt ↦ omega (arith, lt)
      | inr le ↦ (let e : length_at held ≡ len = sym (same_length held piece le) ∙ s.is in omega (arith, e, less.1))
    ]

pub still_front : (held piece : List ℕ) (len need : ℕ) → IsSized (held ++ piece) len → length held + need ≡ 4 + len → length piece < need → IsFront (held ++ piece)
still_front held piece len need s e short =
    let is : length_at (held ++ piece) ≡ len = s.is in
    inr (subst IsLength (sym is) s.fits, omega (arith, length-append held piece, is))

pub now_whole : (held piece : List ℕ) (len need : ℕ) → IsSized (held ++ piece) len → length held + need ≡ 4 + len → need ≤ length piece → IsWhole (held ++ take need piece)
now_whole held piece len need s e le =
    let some : 1 ≤ len = s.fits.some in
    let size : length (held ++ take need piece) ≡ 4 + len = length-append held (take need piece) ∙ omega (arith, length-take need piece) in
    let front : held ++ take need piece ≡ take (length held + need) (held ++ piece) = sym (take-append-add held piece need) in
    let is : length_at (held ++ take need piece) ≡ len =
    ap length_at front ∙ ap (from_be_bytes w32) (take-take 4 (length held + need) (held ++ piece) (omega (arith, e))) ∙ s.is in
    record { there = omega (arith, size); fits = subst IsLength (sym is) s.fits; size = omega (arith, size, is) }

pub by_five : (part : Part) (piece head five : List ℕ) → IsShaped part → head ≡ part.head.items → five ≡ take 5 (head ++ piece) → five ≡ take 5 (held_of part ++ piece)
by_five part piece head five s h e = e ∙ ap (λ (l : List ℕ). take 5 (l ++ piece)) h ∙ five_are part piece s

-- ---- a whole frame

IsBytes-take : (n : ℕ) (bytes : List ℕ) → IsBytes bytes → IsBytes (take n bytes)
IsBytes-take n bytes h i =
    elim (cases_lt i n) [
      | inl lt ↦ rw (get_or-take n bytes i 0 lt) (h i)
      | inr le ↦ rw (get_or_past (take n bytes) i 0 (omega (arith, length-take n bytes))) (omega arith)
    ]

pub first_frame : (bytes : List ℕ) (len : ℕ) → IsBytes bytes → IsSized bytes len → 4 + len ≤ length bytes
    → IsFirst bytes (record { kind = get_or bytes 4 0; body = take (len + 4 - 5) (drop 5 bytes) }) (len + 4)
first_frame bytes len fits s le =
    let some : 1 ≤ len = s.fits.some in
    let most : len ≤ 1048576 = s.fits.most in
    let body : List ℕ = take (len + 4 - 5) (drop 5 bytes) in
    let size : length body + 1 ≡ len = ap (λ (n : ℕ). n + 1) (length-take (len + 4 - 5) (drop 5 bytes)) ∙ omega (arith, length-drop 5 bytes) in
    let four : to_be_bytes w32 (length body + 1) ≡ take 4 bytes = ap (to_be_bytes w32) (size ∙ sym s.is) ∙ be_bytes_4 (take 4 bytes) _ (length-take-le 4 bytes s.there) (IsBytes-take 4 bytes fits) refl in
    let rest : drop 4 bytes ≡ get_or bytes 4 0 ∷ drop 5 bytes = drop-cons bytes 4 0 (omega arith) in
    let behind : drop 5 bytes ≡ body ++ drop (len + 4) bytes =
    sym (take-append-drop (len + 4 - 5) (drop 5 bytes)) ∙ ap (λ (l : List ℕ). body ++ l) (drop-drop (len + 4 - 5) 5 bytes ∙ (let e : 5 + (len + 4 - 5) ≡ len + 4 = omega arith in ap (λ (n : ℕ). drop n bytes) e)) in
    let parts : bytes ≡ (to_be_bytes w32 (length body + 1) ++ get_or bytes 4 0 ∷ body) ++ drop (len + 4) bytes =
    sym (take-append-drop 4 bytes) ∙ ap (λ (l : List ℕ). take 4 bytes ++ l) (rest ∙ ap (λ (l : List ℕ). get_or bytes 4 0 ∷ l) behind)
    ∙ ap (λ (l : List ℕ). l ++ get_or bytes 4 0 ∷ (body ++ drop (len + 4) bytes)) (sym four) ∙ sym (append_assoc (to_be_bytes w32 (length body + 1)) (get_or bytes 4 0 ∷ body) (drop (len + 4) bytes)) in
    record { some = omega arith; within = omega arith; spelled = record { kind = fits 4; body = omega (arith, size) }; parts = parts }
