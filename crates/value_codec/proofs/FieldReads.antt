-- A field that is read is the field that was written, and what was written is read again.
use Rattle.std.proofs.Common.{◌≡◌, ℕ, ◌+◌, ◌-◌, ◌^◌, ◌<◌, ◌≤◌, length-drop, Bool, true, false, cond, eqb, ltb, List, [], ◌∷◌, ◌++◌, length, take, drop, Result, Ok, Err, refl, sym, ap, subst, ◌∙◌}
use Rattle.std.proofs.Common.{append_assoc, arith, ◌⊎◌, inl, inr}
use Rattle.std.specs.Int.{Width, w32, w64, byte_len, from_be_bytes, to_be_bytes}
use Rattle.std.specs.Str.{IsUtf8}
use Rattle.std.proofs.lemmas.Bool.{le-ltb, ltb-false, eqb-true}
use Rattle.std.proofs.lemmas.List.{take_at, drop_at, length-append, length-take-le, take-append-drop, take_all, drop-drop}
use Rattle.stab_base.specs.declared.codec.TakeFault.{TakeFault}
use Rattle.stab_base.specs.declared.codec.TakeFault.TheVariants.{Short}
use Rattle.stab_base.specs.Codec.{IsBytes, counted}
use Rattle.stab_base.proofs.Fields.{IsWide, wide32, wide64, IsBytes-drop, number_takes}
use Rattle.value_codec.specs.Spelling.{flag_spelling}
use Rattle.value_codec.specs.Utf8.{between, utf8_rest}
use Rattle.value_codec.proofs.Utf8Reads.{rest_takes, rest_again}
use Rattle.value_codec.specs.Reading.{◌>>=◌, byte_at, number_at, flag_at, id_at, utf8_at, text_at}

-- the value of a step that did not fail
pub bind_ok : {A B : Type 0} (r : Result A ℕ) (f : A → Result B ℕ) (y : B) → (r >>= f) ≡ Ok y → (x : A) × (r ≡ Ok x) × (f x ≡ Ok y)
bind_ok (Ok x) f y e = (x, refl, e)
bind_ok (Err d) f y e = absurd cc

abbrev done : {A : Type 0} → A → Result A ℕ
done x = Ok x

abbrev pub gives : {A : Type 0} → A → List ℕ → Result (A × List ℕ) ℕ
gives x rest = Ok (x, rest)

pub ok_is : {A : Type 0} (x y : A) → done x ≡ done y → x ≡ y
ok_is x y e = cc

pub branch : {A : Type 0} (b : Bool) (r q : Result A ℕ) (y : A) → cond b r q ≡ Ok y → ((b ≡ true) × (r ≡ Ok y)) ⊎ ((b ≡ false) × (q ≡ Ok y))
branch true r q y e = inl (refl, e)
branch false r q y e = inr (refl, e)

-- a test that failed
pub no_fault : {A : Type 0} (d : ℕ) (y : A) → Err d ≡ done y → ⊥
no_fault d y e = absurd cc

pub rest_fits : (text rest bytes : List ℕ) → bytes ≡ text ++ rest → IsBytes bytes → IsBytes rest
rest_fits text rest bytes e fits = subst IsBytes (drop_at text rest (length text) refl) (IsBytes-drop (length text) (text ++ rest) (subst IsBytes e fits))

-- what is read is spelled so, and what is spelled so is read
pub record Reads {X : Type 0} (P : X → Type 0) (spell : X → List ℕ) (read : List ℕ → Result (X × List ℕ) ℕ) : Type 0 where
  pub takes : (bytes : List ℕ) (x : X) (rest : List ℕ) → IsBytes bytes → read bytes ≡ Ok (x, rest) → P x × (bytes ≡ spell x ++ rest)
  pub again : (x : X) (rest : List ℕ) → P x → read (spell x ++ rest) ≡ Ok (x, rest)

pub retold : {X : Type 0} (P Q : X → Type 0) (spell : X → List ℕ) (read : List ℕ → Result (X × List ℕ) ℕ) → Reads P spell read → ((x : X) → P x → Q x) → ((x : X) → Q x → P x) → Reads Q spell read
retold P Q spell read r there back = record {
  takes = λ bytes x rest fits e. let t = r.takes bytes x rest fits e in (there x t.0, t.1);
  again = λ x rest h. r.again x rest (back x h);
}

-- ---- one field, and two fields one behind the other, of which something is made

pub one_takes : {X Z : Type 0} (P : X → Type 0) (spell : X → List ℕ) (read : List ℕ → Result (X × List ℕ) ℕ) (f : X → Z) → Reads P spell read
    → (bytes : List ℕ) (z : Z) (rest : List ℕ) → IsBytes bytes → (read bytes >>= λ a. gives (f a.0) a.1) ≡ gives z rest → (x : X) × (f x ≡ z) × P x × (bytes ≡ spell x ++ rest)
one_takes {X} {Z} P spell read f r bytes z rest fits e =
    let a = bind_ok (read bytes) (λ a. gives (f a.0) a.1) (z, rest) e in
    let t = r.takes bytes a.0.0 a.0.1 fits a.1 in
    let made = ok_is (f a.0.0, a.0.1) (z, rest) a.2 in
    (a.0.0, ap (λ (p : Z × List ℕ). p.0) made, t.0, t.1 ∙ ap (λ (p : Z × List ℕ). spell a.0.0 ++ p.1) made)

pub one_again : {X Z : Type 0} (P : X → Type 0) (spell : X → List ℕ) (read : List ℕ → Result (X × List ℕ) ℕ) (f : X → Z) → Reads P spell read
    → (x : X) (rest : List ℕ) → P x → (read (spell x ++ rest) >>= λ a. gives (f a.0) a.1) ≡ gives (f x) rest
one_again P spell read f r x rest h = rw (r.again x rest h) refl

pub two_take : {X Y Z : Type 0} (P : X → Type 0) (spell : X → List ℕ) (read : List ℕ → Result (X × List ℕ) ℕ) (Q : X → Y → Type 0) (tell : X → Y → List ℕ) (next : X → List ℕ → Result (Y × List ℕ) ℕ)
    (f : X → Y → Z)
    → Reads P spell read → ((x : X) → Reads (Q x) (tell x) (next x))
    → (bytes : List ℕ) (z : Z) (rest : List ℕ) → IsBytes bytes → (read bytes >>= λ a. next a.0 a.1 >>= λ b. gives (f a.0 b.0) b.1) ≡ gives z rest
    → (x : X) × (y : Y) × (f x y ≡ z) × P x × Q x y × (bytes ≡ (spell x ++ tell x y) ++ rest)
two_take {X} {Y} {Z} P spell read Q tell next f r q bytes z rest fits e =
    let a = bind_ok (read bytes) (λ a. next a.0 a.1 >>= λ b. gives (f a.0 b.0) b.1) (z, rest) e in
    let t = r.takes bytes a.0.0 a.0.1 fits a.1 in
    let o = one_takes (Q a.0.0) (tell a.0.0) (next a.0.0) (f a.0.0) (q a.0.0) a.0.1 z rest (rest_fits (spell a.0.0) a.0.1 bytes t.1 fits) a.2 in
    (a.0.0, o.0, o.1, t.0, o.2, t.1 ∙ ap (λ (l : List ℕ). spell a.0.0 ++ l) o.3 ∙ sym (append_assoc (spell a.0.0) (tell a.0.0 o.0) rest))

pub two_again : {X Y Z : Type 0} (P : X → Type 0) (spell : X → List ℕ) (read : List ℕ → Result (X × List ℕ) ℕ) (Q : X → Y → Type 0) (tell : X → Y → List ℕ) (next : X → List ℕ → Result (Y × List ℕ) ℕ)
    (f : X → Y → Z)
    → Reads P spell read → ((x : X) → Reads (Q x) (tell x) (next x))
    → (x : X) (y : Y) (rest : List ℕ) → P x → Q x y → (read ((spell x ++ tell x y) ++ rest) >>= λ a. next a.0 a.1 >>= λ b. gives (f a.0 b.0) b.1) ≡ gives (f x y) rest
two_again P spell read Q tell next f r q x y rest h k = rw (append_assoc (spell x) (tell x y) rest, r.again x (tell x y ++ rest) h, (q x).again y rest k) refl

-- ---- bytes and numbers

byte_takes : (bytes : List ℕ) (x : ℕ) (rest : List ℕ) → IsBytes bytes → byte_at bytes ≡ Ok (x, rest) → (x < 256) × (bytes ≡ x ∷ [] ++ rest)
unfolding byte_at
byte_takes [] x rest fits e = absurd cc
byte_takes (b ∷ bytes) x rest fits e = subst (λ (p : ℕ × List ℕ). (p.0 < 256) × (b ∷ bytes ≡ p.0 ∷ p.1)) (ok_is (b, bytes) (x, rest) e) (fits 0, refl)

byte_again : (x : ℕ) (rest : List ℕ) → x < 256 → byte_at (x ∷ [] ++ rest) ≡ Ok (x, rest)
unfolding byte_at
byte_again x rest h = refl

pub byte_reads : Reads (λ n. n < 256) (λ n. n ∷ []) byte_at
byte_reads = record { takes = byte_takes; again = byte_again }

to_base : {A : Type 0} (b : Bool) (d : ℕ) (f : TakeFault) (y x : A) → cond b (Err d) (Ok y) ≡ done x → cond b (Err f) (Ok y) ≡ Ok x
to_base true d f y x e = absurd cc
to_base false d f y x e = ap (λ a. Ok a) (ok_is y x e)

pub number_reads : (w : Width) (limit : ℕ) → IsWide w limit → Reads (λ n. n < limit) (to_be_bytes w) (number_at w)
number_reads w limit wide = record {
  takes = λ bytes x rest fits e.
      let t = number_takes w limit wide bytes x rest fits (to_base (ltb (length bytes) (byte_len w)) 0 (Short (byte_len w) (length bytes)) (from_be_bytes w (take (byte_len w) bytes), drop (byte_len w) bytes) (x, rest) e) in
      (t.1, t.0.parts);
  again = λ n rest lt.
      let len = wide.len n in
      let long : ltb (length (to_be_bytes w n ++ rest)) (byte_len w) ≡ false = le-ltb _ _ (omega (arith, length-append (to_be_bytes w n) rest)) in
      rw (long, take_at (to_be_bytes w n) rest (byte_len w) len, drop_at (to_be_bytes w n) rest (byte_len w) len, wide.again n lt) refl;
}

pub four_reads : Reads (λ n. n < 2 ^ 32) (to_be_bytes w32) (number_at w32)
four_reads = number_reads w32 (2 ^ 32) wide32

pub eight_reads : Reads (λ n. n < 2 ^ 64) (to_be_bytes w64) (number_at w64)
eight_reads = number_reads w64 (2 ^ 64) wide64

-- ---- ids

id_takes : (bytes id rest : List ℕ) → IsBytes bytes → id_at bytes ≡ Ok (id, rest) → (length id ≡ 16) × (bytes ≡ id ++ rest)
unfolding id_at
id_takes bytes id rest fits e =
    elim (branch (ltb (length bytes) 16) (Err 0) (gives (take 16 bytes) (drop 16 bytes)) (id, rest) e) [
      | inl y ↦ absurd (no_fault 0 (id, rest) y.1)
      | inr n ↦
          let long : 16 ≤ length bytes = ltb-false _ _ n.0 in
          subst (λ (p : List ℕ × List ℕ). (length p.0 ≡ 16) × (bytes ≡ p.0 ++ p.1)) (ok_is (take 16 bytes, drop 16 bytes) (id, rest) n.1) (length-take-le 16 bytes long, sym (take-append-drop 16 bytes))
    ]

id_again : (id rest : List ℕ) → length id ≡ 16 → id_at (id ++ rest) ≡ Ok (id, rest)
unfolding id_at
id_again id rest len =
    let long : ltb (length (id ++ rest)) 16 ≡ false = le-ltb _ _ (omega (arith, length-append id rest, len)) in
    rw (long, take_at id rest 16 len, drop_at id rest 16 len) refl

pub id_reads : Reads (λ id. length id ≡ 16) (λ id. id) id_at
id_reads = record { takes = id_takes; again = id_again }

pub id_read : (bytes : List ℕ) (at : ℕ) (id : List ℕ) → at ≤ length bytes → id ≡ take 16 (take (length bytes - at) (drop at bytes)) → 16 ≤ length (take (length bytes - at) (drop at bytes))
    → id_at (drop at bytes) ≡ gives id (drop (at + 16) bytes)
unfolding id_at
id_read bytes at id within is long =
    let rest = drop at bytes in
    let whole : take (length bytes - at) rest ≡ rest = take_all (length bytes - at) rest (omega (arith, length-drop at bytes)) in
    let enough : 16 ≤ length rest = subst (λ (l : List ℕ). 16 ≤ length l) whole long in
    let front : take 16 rest ≡ id = sym (is ∙ ap (take 16) whole) in
    rw (le-ltb (length rest) 16 enough, front, drop-drop 16 at bytes) refl

-- ---- flags and texts

flag_takes : (bytes : List ℕ) (x : Bool) (rest : List ℕ) → IsBytes bytes → flag_at bytes ≡ Ok (x, rest) → Unit {0} × (bytes ≡ flag_spelling x ++ rest)
unfolding flag_at
flag_takes bytes x rest fits e =
    let a = bind_ok (byte_at bytes) (λ flag. cond (eqb flag.0 0) (Ok (false, flag.1)) (cond (eqb flag.0 1) (Ok (true, flag.1)) (Err (length bytes)))) (x, rest) e in
    let t = byte_reads.takes bytes a.0.0 a.0.1 fits a.1 in
    elim (branch (eqb a.0.0 0) (Ok (false, a.0.1)) (cond (eqb a.0.0 1) (Ok (true, a.0.1)) (Err (length bytes))) (x, rest) a.2) [
      | inl y ↦ let is : a.0.0 ≡ 0 = eqb-true _ _ y.0 in
          subst (λ (p : Bool × List ℕ). Unit {0} × (bytes ≡ flag_spelling p.0 ++ p.1)) (ok_is (false, a.0.1) (x, rest) y.1) (tt, t.1 ∙ ap (λ (n : ℕ). n ∷ a.0.1) is)
      | inr n ↦ elim (branch (eqb a.0.0 1) (Ok (true, a.0.1)) (Err (length bytes)) (x, rest) n.1) [
        | inl y ↦ let is : a.0.0 ≡ 1 = eqb-true _ _ y.0 in
            subst (λ (p : Bool × List ℕ). Unit {0} × (bytes ≡ flag_spelling p.0 ++ p.1)) (ok_is (true, a.0.1) (x, rest) y.1) (tt, t.1 ∙ ap (λ (n : ℕ). n ∷ a.0.1) is)
        | inr m ↦ absurd (no_fault (length bytes) (x, rest) m.1)
      ]
    ]

flag_again : (x : Bool) (rest : List ℕ) → Unit {0} → flag_at (flag_spelling x ++ rest) ≡ Ok (x, rest)
unfolding flag_at byte_at
flag_again true rest h = refl
flag_again false rest h = refl

pub flag_reads : Reads (λ b. Unit {0}) flag_spelling flag_at
flag_reads = record { takes = flag_takes; again = flag_again }

utf8_takes : (len : ℕ) (bytes text rest : List ℕ) → IsBytes bytes → utf8_at len bytes ≡ Ok (text, rest) → ((length text ≡ len) × IsUtf8 text) × (bytes ≡ text ++ rest)
unfolding utf8_at
utf8_takes len bytes text rest fits e =
    let a = bind_ok (utf8_rest between len bytes) (λ rest. gives (take len bytes) rest) (text, rest) e in
    let t = rest_takes len between bytes a.0 (omega arith) a.1 in
    let l = t.len in
    let front : take len bytes ≡ t.text = ap (take len) t.parts ∙ take_at t.text a.0 len t.len in
    subst (λ (p : List ℕ × List ℕ). ((length p.0 ≡ len) × IsUtf8 p.0) × (bytes ≡ p.0 ++ p.1)) (ok_is (take len bytes, a.0) (text, rest) a.2)
    ((ap length front ∙ t.len, subst IsUtf8 (sym front) t.finishes), t.parts ∙ ap (λ (l : List ℕ). l ++ a.0) (sym front))

utf8_again : (len : ℕ) (text rest : List ℕ) → (length text ≡ len) × IsUtf8 text → utf8_at len (text ++ rest) ≡ Ok (text, rest)
unfolding utf8_at
utf8_again len text rest h = rw (rest_again len between text rest h.0 h.1, take_at text rest len h.0) refl

pub utf8_reads : (len : ℕ) → Reads (λ text. (length text ≡ len) × IsUtf8 text) (λ text. text) (utf8_at len)
utf8_reads len = record { takes = utf8_takes len; again = utf8_again len }

text_takes : (bytes text rest : List ℕ) → IsBytes bytes → text_at bytes ≡ Ok (text, rest) → ((length text < 2 ^ 32) × IsUtf8 text) × (bytes ≡ counted text ++ rest)
unfolding text_at
text_takes bytes text rest fits e =
    let a = bind_ok (number_at w32 bytes) (λ len. utf8_at len.0 len.1) (text, rest) e in
    let t = four_reads.takes bytes a.0.0 a.0.1 fits a.1 in
    let u = (utf8_reads a.0.0).takes a.0.1 text rest (rest_fits (to_be_bytes w32 a.0.0) a.0.1 bytes t.1 fits) a.2 in
    let whole : bytes ≡ (to_be_bytes w32 a.0.0 ++ text) ++ rest = t.1 ∙ ap (λ (l : List ℕ). to_be_bytes w32 a.0.0 ++ l) u.1 ∙ sym (append_assoc (to_be_bytes w32 a.0.0) text rest) in
    ((omega (arith, u.0.0, t.0), u.0.1), whole ∙ ap (λ (n : ℕ). (to_be_bytes w32 n ++ text) ++ rest) (sym u.0.0))

text_again : (text rest : List ℕ) → (length text < 2 ^ 32) × IsUtf8 text → text_at (counted text ++ rest) ≡ Ok (text, rest)
unfolding text_at
text_again text rest h = ap text_at (append_assoc (to_be_bytes w32 (length text)) text rest) ∙ rw (four_reads.again (length text) (text ++ rest) h.0) ((utf8_reads (length text)).again text rest (refl, h.1))

pub text_reads : Reads (λ text. (length text < 2 ^ 32) × IsUtf8 text) counted text_at
text_reads = record { takes = text_takes; again = text_again }

-- two values with one spelling are the same
pub one_value : {X : Type 0} (P : X → Type 0) (spell : X → List ℕ) (read : List ℕ → Result (X × List ℕ) ℕ) → Reads P spell read → (x y : X) → P x → P y → spell x ≡ spell y → x ≡ y
one_value {X} P spell read r x y h k e =
    let nothing : List ℕ = [] in
    let first : read (spell x ++ nothing) ≡ Ok (x, nothing) = r.again x nothing h in
    let second : read (spell x ++ nothing) ≡ Ok (y, nothing) = ap (λ (l : List ℕ). read (l ++ nothing)) e ∙ r.again y nothing k in
    ap (λ (p : X × List ℕ). p.0) (ok_is (x, nothing) (y, nothing) (sym first ∙ second))
