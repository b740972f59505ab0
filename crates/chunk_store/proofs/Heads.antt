-- The parts of a payload that begins with a name, and payloads that are read as they were written.
use Rattle.std.proofs.Common.{◌≡◌, ℕ, ◌^◌, ◌<◌, ◌≤◌, Bool, true, false, ltb, List, [], ◌∷◌, ◌++◌, length, take, drop, Option, Some, None, Result, Ok, Err, cond, refl, sym, ◌∙◌, ap, append_assoc}
use Rattle.std.proofs.Common.{arith, length-drop}
use Rattle.std.specs.Int.{w32, w64, from_be_bytes, to_be_bytes}
use Rattle.std.specs.Prelude.{nat_lt, ◌==◌, ◌&&◌}
use Rattle.std.proofs.lemmas.Bool.{ltb-false, le-ltb}
use Rattle.std.proofs.lemmas.List.{drop-drop, append-nil}
use Rattle.stab_base.specs.declared.chunk_name.ChunkName.{ChunkName}
use Rattle.stab_base.specs.declared.codec.TakeFault.{TakeFault}
use Rattle.stab_base.specs.declared.codec.TakeFault.TheVariants.{Short}
use Rattle.stab_base.specs.declared.limits.TheConstants.{NUMBER_MAX}
use Rattle.stab_base.specs.Codec.{◌>>=◌, byte_at, number_at}
use Rattle.stab_base.proofs.Fields.{bind_ok, guard_ok, ok_is, wide32, wide64, byte_again, number_again}
use Rattle.chunk_store.specs.Payload.{spelled, put_payload, drop_payload, head_at, change_for, change_of}

-- ---- the parts

byte_parts : (bytes : List ℕ) (x : ℕ × List ℕ) → byte_at bytes ≡ Ok x → (1 ≤ length bytes) × (x.1 ≡ drop 1 bytes)
unfolding byte_at
byte_parts [] x e = absurd cc
byte_parts (b ∷ bytes) x e = (omega arith, sym (ap (λ (p : ℕ × List ℕ). p.1) (ok_is (b, bytes) x e)))

eight_parts : (bytes : List ℕ) (x : ℕ × List ℕ) → number_at w64 bytes ≡ Ok x → (8 ≤ length bytes) × (x.1 ≡ drop 8 bytes)
eight_parts bytes x e =
    let g = guard_ok (ltb (length bytes) 8) (Short 8 (length bytes)) (from_be_bytes w64 (take 8 bytes), drop 8 bytes) x e in
    (ltb-false _ _ g.0, sym (ap (λ (p : ℕ × List ℕ). p.1) g.1))

four_parts : (bytes : List ℕ) (x : ℕ × List ℕ) → number_at w32 bytes ≡ Ok x → (4 ≤ length bytes) × (x.1 ≡ drop 4 bytes)
four_parts bytes x e =
    let g = guard_ok (ltb (length bytes) 4) (Short 4 (length bytes)) (from_be_bytes w32 (take 4 bytes), drop 4 bytes) x e in
    (ltb-false _ _ g.0, sym (ap (λ (p : ℕ × List ℕ). p.1) g.1))

abbrev pub Head : Type 0
Head = ℕ × ChunkName × List ℕ

pub head_parts : (payload : List ℕ) (head : Head) → head_at payload ≡ Ok head → (13 ≤ length payload) × (head.2 ≡ drop 13 payload)
unfolding head_at
head_parts payload head e =
    let f2 : ℕ × List ℕ → ℕ × List ℕ → ℕ × List ℕ → Result Head TakeFault = λ tag version ordinal. Ok (tag.0, record { version = version.0; ordinal = ordinal.0 }, ordinal.1) in
    let f1 : ℕ × List ℕ → ℕ × List ℕ → Result Head TakeFault = λ tag version. number_at w32 version.1 >>= f2 tag version in
    let f0 : ℕ × List ℕ → Result Head TakeFault = λ tag. number_at w64 tag.1 >>= f1 tag in
    let a = bind_ok (byte_at payload) f0 head e in
    let b = bind_ok (number_at w64 a.0.1) (f1 a.0) head a.2 in
    let c = bind_ok (number_at w32 b.0.1) (f2 a.0 b.0) head b.2 in
    let p = byte_parts payload a.0 a.1 in
    let q = eight_parts a.0.1 b.0 b.1 in
    let r = four_parts b.0.1 c.0 c.1 in
    let from_nine : b.0.1 ≡ drop 9 payload = q.1 ∙ (ap (drop 8) p.1 ∙ drop-drop 8 1 payload) in
    let rest : c.0.1 ≡ drop 13 payload = r.1 ∙ (ap (drop 4) from_nine ∙ drop-drop 4 9 payload) in
    let long : 4 ≤ length (drop 9 payload) = rw (← from_nine) r.0 in
    (omega (arith, long, length-drop 9 payload), sym (ap (λ (h : Head). h.2) (ok_is (a.0.0, record { version = b.0.0; ordinal = c.0.0 }, c.0.1) head c.2)) ∙ rest)

-- ---- a put that is noted has its chunk behind the name

abbrev pub Said : Type 0
Said = Option (ChunkName × Option (List ℕ))

abbrev pub put : ChunkName → List ℕ → Said
put name bytes = Some (name, Some bytes)

abbrev pub gone : ChunkName → Said
gone name = Some (name, None)

abbrev pub nothing : Said
nothing = None

abbrev second : Said → Option (List ℕ)
second None = None
second (Some x) = x.1

put_for : (tag : ℕ) (name name' : ChunkName) (rest bytes : List ℕ) → change_for tag name rest ≡ put name' bytes → rest ≡ bytes
put_for tag name name' rest bytes e = past (nat_lt NUMBER_MAX name.version) (tag == 1) ((tag == 2) && (length rest == 0)) e
  where
    last : (b : Bool) → cond b (gone name) nothing ≡ put name' bytes → rest ≡ bytes
    last true e = let other : second (gone name) ≡ second (put name' bytes) = ap second e in absurd cc
    last false e = absurd cc

    first : (b b' : Bool) → cond b (put name rest) (cond b' (gone name) nothing) ≡ put name' bytes → rest ≡ bytes
    first true b' e = let same : second (put name rest) ≡ second (put name' bytes) = ap second e in cc
    first false b' e = last b' e

    past : (b b' b'' : Bool) → cond b nothing (cond b' (put name rest) (cond b'' (gone name) nothing)) ≡ put name' bytes → rest ≡ bytes
    past true b' b'' e = absurd cc
    past false b' b'' e = first b' b'' e

abbrev pub said : Result Head TakeFault → Said
said (Ok head) = change_for head.0 head.1 head.2
said (Err fault) = None

pub put_parts : (payload : List ℕ) (name : ChunkName) (bytes : List ℕ) → change_of payload ≡ put name bytes → (13 ≤ length payload) × (drop 13 payload ≡ bytes)
unfolding change_of
put_parts payload name bytes e = found (head_at payload) refl e
  where
    found : (r : Result Head TakeFault) → head_at payload ≡ r → said r ≡ put name bytes → (13 ≤ length payload) × (drop 13 payload ≡ bytes)
    found (Err fault) is e = absurd cc
    found (Ok head) is e = let parts = head_parts payload head is in (parts.0, sym parts.1 ∙ put_for head.0 head.1 name head.2 bytes e)

-- ---- what is written is read again

head_again : (tag : ℕ) (name : ChunkName) (rest : List ℕ) → name.version < 2 ^ 64 → name.ordinal < 2 ^ 32 → head_at (tag ∷ (spelled name ++ rest)) ≡ Ok (tag, name, rest)
unfolding head_at
head_again tag name rest version ordinal =
    let v = to_be_bytes w64 name.version in
    let o = to_be_bytes w32 name.ordinal in
    rw (append_assoc v o rest, byte_again tag (v ++ (o ++ rest)), number_again w64 (2 ^ 64) wide64 name.version (o ++ rest) version, number_again w32 (2 ^ 32) wide32 name.ordinal rest ordinal) refl

within : (n : ℕ) → n ≤ NUMBER_MAX → nat_lt NUMBER_MAX n ≡ false
within n h = le-ltb NUMBER_MAX n h

pub put_again : (name : ChunkName) (bytes : List ℕ) → name.version ≤ NUMBER_MAX → name.ordinal < 2 ^ 32 → change_of (put_payload name bytes) ≡ put name bytes
unfolding change_of
put_again name bytes version ordinal =
    ap said (head_again 1 name bytes (omega (arith, version)) ordinal) ∙ ap (λ (b : Bool). cond b nothing (put name bytes)) (within name.version version)

pub drop_again : (name : ChunkName) → name.version ≤ NUMBER_MAX → name.ordinal < 2 ^ 32 → change_of (drop_payload name) ≡ gone name
unfolding change_of
drop_again name version ordinal =
    ap (λ (l : List ℕ). said (head_at (2 ∷ l))) (sym (append-nil (spelled name)))
    ∙ (ap said (head_again 2 name [] (omega (arith, version)) ordinal) ∙ ap (λ (b : Bool). cond b nothing (gone name)) (within name.version version))
