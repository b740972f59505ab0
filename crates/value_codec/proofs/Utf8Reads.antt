-- A text that is read byte by byte is UTF-8, and what is UTF-8 is read.
use Rattle.std.proofs.Common.{◌≡◌, ℕ, zero, suc, ◌-◌, ◌≤◌, ◌⊎◌, Bool, true, false, cond, ◌&&◌, ◌||◌, ltb, leb, List, [], ◌∷◌, ◌++◌, length, Option, Some, None, Ok, refl, sym, ap, subst, ◌∙◌, arith}
use Rattle.std.proofs.Common.{inl, inr}
use Rattle.std.specs.Str.Lossy.{second_byte_min, second_byte_max}
use Rattle.std.proofs.lemmas.Bool.{lt-ltb, ltb-true, leb-true, le-leb, and_from}
use Rattle.std.proofs.lemmas.Str.{IsUtf8-nil}
use Rattle.std.proofs.Math.Dec.{eqb-suc-zero}
use Rattle.value_codec.specs.declared.utf8.Inside.{Inside}
use Rattle.value_codec.specs.Utf8.{tail_len, leads, step, utf8_rest}
use Rattle.value_codec.proofs.Utf8Places.{goes, steps, moves}
use Rattle.value_codec.proofs.Utf8Chars.{Continues, Lead, begun, built}

abbrev pub inside_of : ℕ → ℕ → ℕ → Inside
inside_of need low high = record { need = need; low = low; high = high }

abbrev pub Finishes : Inside → List ℕ → Type 0
Finishes inside text = Continues inside.need inside.low inside.high text

both : (a b : Bool) → (a && b) ≡ true → (a ≡ true) × (b ≡ true)
both true b e = (refl, e)
both false b e = absurd cc

one_of : (a b : Bool) → (a || b) ≡ true → (a ≡ true) ⊎ (b ≡ true)
one_of true b e = inl refl
one_of false b e = inr e

lead_is : (b : ℕ) → leads b ≡ true → Lead b
lead_is b e = record {
  one = elim (one_of (ltb b 0x80) (leb 0xC2 b && leb b 0xF4) e) [
    | inl s ↦ inl (ltb-true _ _ s)
    | inr t ↦ let p = both (leb 0xC2 b) (leb b 0xF4) t in inr (leb-true _ _ p.0, leb-true _ _ p.1)
  ];
}

or_true : (a b : Bool) → (a ≡ true) ⊎ (b ≡ true) → (a || b) ≡ true
or_true true b e = refl
or_true false b (inl e) = absurd cc
or_true false b (inr e) = e

pub is_lead : (b : ℕ) → Lead b → leads b ≡ true
is_lead b l = or_true (ltb b 0x80) (leb 0xC2 b && leb b 0xF4) (elim l.one [ inl s ↦ inl (lt-ltb _ _ s) | inr t ↦ inr (and_from _ _ (le-leb _ _ t.0) (le-leb _ _ t.1)) ])

some_branch : (t : Bool) (x y : Inside) → cond t (Some x) None ≡ Some y → (t ≡ true) × (x ≡ y)
some_branch true x y e = (refl, cc)
some_branch false x y e = absurd cc

-- ---- one byte

pub first_step : (low high left b : ℕ) (next : Inside) → step (inside_of 0 low high) left b ≡ Some next
    → Lead b × (tail_len b ≤ left) × (inside_of (tail_len b) (second_byte_min b) (second_byte_max b) ≡ next)
first_step low high left b next e =
    let s = some_branch (leads b && leb (tail_len b) left) (inside_of (tail_len b) (second_byte_min b) (second_byte_max b)) next e in
    let p = both (leads b) (leb (tail_len b) left) s.0 in
    (lead_is b p.0, leb-true _ _ p.1, s.1)

later_is : (need low high left b : ℕ) → step (inside_of (suc need) low high) left b ≡ cond (leb low b && leb b high) (Some (inside_of (suc need - 1) 0x80 0xBF)) None
later_is need low high left b =
    let first : Option Inside = cond (leads b && leb (tail_len b) left) (Some (inside_of (tail_len b) (second_byte_min b) (second_byte_max b))) None in
    let other : Option Inside = cond (leb low b && leb b high) (Some (inside_of (suc need - 1) 0x80 0xBF)) None in
    ap (λ (t : Bool). cond t first other) (eqb-suc-zero need)

pub later_step : (need low high left b : ℕ) (next : Inside) → step (inside_of (suc need) low high) left b ≡ Some next → (low ≤ b) × (b ≤ high) × (inside_of need 0x80 0xBF ≡ next)
later_step need low high left b next e =
    let s = some_branch (leb low b && leb b high) (inside_of (suc need - 1) 0x80 0xBF) next (sym (later_is need low high left b) ∙ e) in
    let p = both (leb low b) (leb b high) s.0 in
    let n : suc need - 1 ≡ need = omega arith in
    (leb-true _ _ p.0, leb-true _ _ p.1, ap (λ (m : ℕ). inside_of m 0x80 0xBF) (sym n) ∙ s.1)

pub wrap : (need low high left b : ℕ) (next : Inside) (text : List ℕ) → step (inside_of need low high) left b ≡ Some next → Finishes next text → Continues need low high (b ∷ text)
wrap zero low high left b next text e f = let s = first_step low high left b next e in built b text s.0 (subst (λ (n : Inside). Finishes n text) (sym s.2) f)
wrap (suc need) low high left b next text e f = let s = later_step need low high left b next e in (s.0, s.1, subst (λ (n : Inside). Finishes n text) (sym s.2) f)

pub room_left : (need low high left b : ℕ) (next : Inside) → need ≤ suc left → step (inside_of need low high) left b ≡ Some next → next.need ≤ left
room_left zero low high left b next room e = let s = first_step low high left b next e in subst (λ (n : Inside). n.need ≤ left) s.2 s.1
room_left (suc need) low high left b next room e = let s = later_step need low high left b next e in subst (λ (n : Inside). n.need ≤ left) s.2 (omega arith)

pub length_of : (need low high : ℕ) (text : List ℕ) → Continues need low high text → need ≤ length text
length_of zero low high text f = omega arith
length_of (suc need) low high [] f = absurd f
length_of (suc need) low high (b ∷ text) f = let h = length_of need 0x80 0xBF text f.2 in omega arith

pub unwrap : (need low high left b : ℕ) (text : List ℕ) → length text ≡ left → Continues need low high (b ∷ text)
    → (next : Inside) × (step (inside_of need low high) left b ≡ Some next) × Finishes next text
unwrap zero low high left b text len f =
    let s = begun b text f in
    let fits : tail_len b ≤ left = omega (arith, length_of (tail_len b) (second_byte_min b) (second_byte_max b) text s.1, len) in
    let test : (leads b && leb (tail_len b) left) ≡ true = and_from _ _ (is_lead b s.0) (le-leb _ _ fits) in
    let next : Inside = inside_of (tail_len b) (second_byte_min b) (second_byte_max b) in
    (next, ap (λ (t : Bool). cond t (Some next) None) test, s.1)
unwrap (suc need) low high left b text len f =
    let test : (leb low b && leb b high) ≡ true = and_from _ _ (le-leb _ _ f.0) (le-leb _ _ f.1) in
    let n : suc need - 1 ≡ need = omega arith in
    let next : Inside = inside_of (suc need - 1) 0x80 0xBF in
    (next, later_is need low high left b ∙ ap (λ (t : Bool). cond t (Some next) None) test, subst (λ (m : ℕ). Continues m 0x80 0xBF text) (sym n) f.2)

-- ---- all bytes

pub record IsRead (inside : Inside) (left : ℕ) (bytes rest : List ℕ) : Type 0 where
  pub text : List ℕ
  pub parts : bytes ≡ text ++ rest
  pub len : length text ≡ left
  pub finishes : Finishes inside text

none_left : (inside : Inside) (bytes rest : List ℕ) → inside.need ≤ 0 → bytes ≡ rest → IsRead inside 0 bytes rest
none_left inside bytes rest room e =
    let nothing : List ℕ = [] in
    let n : 0 ≡ inside.need = omega arith in
    record { text = nothing; parts = e; len = refl; finishes = subst (λ (m : ℕ). Continues m inside.low inside.high nothing) n IsUtf8-nil }

pub rest_takes : (left : ℕ) (inside : Inside) (bytes rest : List ℕ) → inside.need ≤ left → utf8_rest inside left bytes ≡ Ok rest → IsRead inside left bytes rest
unfolding utf8_rest
rest_takes zero inside bytes rest room e = none_left inside bytes rest room cc
rest_takes (suc left) inside [] rest room e = absurd cc
rest_takes (suc left) inside (b ∷ bytes) rest room e =
    go (step inside left b) refl (sym (steps inside left b bytes) ∙ e) (λ next. rest_takes left next bytes rest) where
      go : (o : Option Inside) → step inside left b ≡ o → goes left bytes o ≡ Ok rest → ((next : Inside) → next.need ≤ left → utf8_rest next left bytes ≡ Ok rest → IsRead next left bytes rest)
          → IsRead inside (suc left) (b ∷ bytes) rest
      go None is f again = absurd cc
      go (Some next) is f again =
          let t = again next (room_left inside.need inside.low inside.high left b next room is) f in
          let l = t.len in
          record { text = b ∷ t.text; parts = ap (λ (l : List ℕ). b ∷ l) t.parts; len = omega arith; finishes = wrap inside.need inside.low inside.high left b next t.text is t.finishes }

pub rest_again : (left : ℕ) (inside : Inside) (text rest : List ℕ) → length text ≡ left → Finishes inside text → utf8_rest inside left (text ++ rest) ≡ Ok rest
unfolding utf8_rest
rest_again zero inside [] rest len f = refl
rest_again zero inside (b ∷ text) rest len f = absurd (omega arith)
rest_again (suc left) inside [] rest len f = absurd (omega arith)
rest_again (suc left) inside (b ∷ text) rest len f =
    let u = unwrap inside.need inside.low inside.high left b text (omega arith) f in
    moves inside u.0 left b (text ++ rest) u.1 ∙ rest_again left u.0 text rest (omega arith) u.2
