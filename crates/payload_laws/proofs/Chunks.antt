-- What is read as a put or a drop of a chunk was put as its one payload.
use Rattle.std.proofs.Common.{◌≡◌, ℕ, ◌^◌, ◌<◌, ◌≤◌, Bool, true, false, cond, eqb, ltb, List, [], ◌∷◌, ◌++◌, length, Option, Some, None, Result, Ok, Err, refl, sym, ◌∙◌, ap, subst, append_assoc, ◌⊎◌}
use Rattle.std.proofs.Common.{inl, inr}
use Rattle.std.specs.Prelude.{◌&&◌}
use Rattle.std.specs.Int.{w32, w64, to_be_bytes}
use Rattle.std.proofs.lemmas.Bool.{eqb-true, ltb-false}
use Rattle.std.proofs.lemmas.List.{append-nil, nil_from_length}
use Rattle.stab_base.specs.declared.chunk_name.ChunkName.{ChunkName}
use Rattle.stab_base.specs.declared.codec.TakeFault.{TakeFault}
use Rattle.stab_base.specs.declared.limits.TheConstants.{NUMBER_MAX}
use Rattle.stab_base.specs.Codec.{◌>>=◌, IsBytes, byte_at, number_at}
use Rattle.stab_base.proofs.Fields.{bind_ok, ok_is, wide32, wide64, byte_takes, number_takes}
use Rattle.chunk_store.specs.Payload.{spelled, put_payload, drop_payload, head_at, change_for, change_of}
use Rattle.chunk_store.proofs.Heads.{Head, put, gone, nothing, said}
use Rattle.payload_laws.proofs.Rows.{both_are}

head_takes : (payload : List ℕ) (head : Head) → IsBytes payload → head_at payload ≡ Ok head → (payload ≡ head.0 ∷ (spelled head.1 ++ head.2)) × (head.1.ordinal < 2 ^ 32)
unfolding head_at
head_takes payload head fits e =
    let f2 : ℕ × List ℕ → ℕ × List ℕ → ℕ × List ℕ → Result Head TakeFault = λ tag version ordinal. Ok (tag.0, record { version = version.0; ordinal = ordinal.0 }, ordinal.1) in
    let f1 : ℕ × List ℕ → ℕ × List ℕ → Result Head TakeFault = λ tag version. number_at w32 version.1 >>= f2 tag version in
    let f0 : ℕ × List ℕ → Result Head TakeFault = λ tag. number_at w64 tag.1 >>= f1 tag in
    let a = bind_ok (byte_at payload) f0 head e in
    let b = bind_ok (number_at w64 a.0.1) (f1 a.0) head a.2 in
    let c = bind_ok (number_at w32 b.0.1) (f2 a.0 b.0) head b.2 in
    let p = byte_takes payload a.0.0 a.0.1 fits a.1 in
    let q = number_takes w64 (2 ^ 64) wide64 a.0.1 b.0.0 b.0.1 p.0.rest_fits b.1 in
    let r = number_takes w32 (2 ^ 32) wide32 b.0.1 c.0.0 c.0.1 q.0.rest_fits c.1 in
    let v : List ℕ = to_be_bytes w64 b.0.0 in
    let o : List ℕ = to_be_bytes w32 c.0.0 in
    let parts : payload ≡ a.0.0 ∷ ((v ++ o) ++ c.0.1) = p.0.parts ∙ ap (λ (l : List ℕ). a.0.0 ∷ l) (q.0.parts ∙ (ap (λ (l : List ℕ). v ++ l) r.0.parts ∙ sym (append_assoc v o c.0.1))) in
    subst (λ (h : Head). (payload ≡ h.0 ∷ (spelled h.1 ++ h.2)) × (h.1.ordinal < 2 ^ 32)) (ok_is (a.0.0, record { version = b.0.0; ordinal = c.0.0 }, c.0.1) head c.2) (parts, r.1)

some_is : (x y : ChunkName × Option (List ℕ)) → Some x ≡ Some y → x ≡ y
some_is x y e = cc

record IsChange (tag : ℕ) (name : ChunkName) (rest : List ℕ) (name' : ChunkName) (bytes : Option (List ℕ)) : Type 0 where
  pub within : name.version ≤ NUMBER_MAX
  pub same : name ≡ name'
  pub kind : ((tag ≡ 1) × (Some rest ≡ bytes)) ⊎ ((tag ≡ 2) × (rest ≡ []) × (None ≡ bytes))

for_takes : (tag : ℕ) (name : ChunkName) (rest : List ℕ) (name' : ChunkName) (bytes : Option (List ℕ)) → change_for tag name rest ≡ Some (name', bytes) → IsChange tag name rest name' bytes
for_takes tag name rest name' bytes e = past (ltb NUMBER_MAX name.version) refl e
  where
    ended : (b : Bool) → ((eqb tag 2) && (eqb (length rest) 0)) ≡ b → ltb NUMBER_MAX name.version ≡ false → cond b (gone name) nothing ≡ Some (name', bytes) → IsChange tag name rest name' bytes
    ended true is w e =
        let both = both_are (eqb tag 2) (eqb (length rest) 0) is in
        let none : Option (List ℕ) = None in
        let pair = some_is (name, none) (name', bytes) e in
        let named : name ≡ name' = ap (λ (p : ChunkName × Option (List ℕ)). p.0) pair in
        let same : none ≡ bytes = ap (λ (p : ChunkName × Option (List ℕ)). p.1) pair in
        record { within = ltb-false _ _ w; same = named; kind = inr (eqb-true _ _ both.0, nil_from_length rest (eqb-true _ _ both.1), same) }
    ended false is w e = absurd cc

    putting : (b : Bool) → eqb tag 1 ≡ b → ltb NUMBER_MAX name.version ≡ false → cond b (put name rest) (cond ((eqb tag 2) && (eqb (length rest) 0)) (gone name) nothing) ≡ Some (name', bytes)
        → IsChange tag name rest name' bytes
    putting true is w e =
        let some : Option (List ℕ) = Some rest in
        let pair = some_is (name, some) (name', bytes) e in
        let named : name ≡ name' = ap (λ (p : ChunkName × Option (List ℕ)). p.0) pair in
        let same : some ≡ bytes = ap (λ (p : ChunkName × Option (List ℕ)). p.1) pair in
        record { within = ltb-false _ _ w; same = named; kind = inl (eqb-true _ _ is, same) }
    putting false is w e = ended ((eqb tag 2) && (eqb (length rest) 0)) refl w e

    past : (b : Bool) → ltb NUMBER_MAX name.version ≡ b → cond b nothing (cond (eqb tag 1) (put name rest) (cond ((eqb tag 2) && (eqb (length rest) 0)) (gone name) nothing)) ≡ Some (name', bytes)
        → IsChange tag name rest name' bytes
    past true w e = absurd cc
    past false w e = putting (eqb tag 1) refl w e

pub only_put : (payload : List ℕ) (name : ChunkName) (bytes : List ℕ) → IsBytes payload → change_of payload ≡ Some (name, Some bytes)
    → (name.version ≤ NUMBER_MAX) × (name.ordinal < 2 ^ 32) × (payload ≡ put_payload name bytes)
unfolding change_of
only_put payload name bytes fits e = found (head_at payload) refl e
  where
    found : (r : Result Head TakeFault) → head_at payload ≡ r → said r ≡ put name bytes → (name.version ≤ NUMBER_MAX) × (name.ordinal < 2 ^ 32) × (payload ≡ put_payload name bytes)
    found (Err fault) is e = absurd cc
    found (Ok head) is e =
        let t = head_takes payload head fits is in
        let c = for_takes head.0 head.1 head.2 name (Some bytes) e in
        elim c.kind [
          | inl p ↦
              let same : head.2 ≡ bytes = (let both : Some head.2 ≡ Some bytes = p.1 in cc) in (
                subst (λ (n : ChunkName). n.version ≤ NUMBER_MAX) c.same c.within,
                subst (λ (n : ChunkName). n.ordinal < 2 ^ 32) c.same t.1,
                t.0 ∙ (ap (λ (k : ℕ). k ∷ (spelled head.1 ++ head.2)) p.0 ∙ (ap (λ (n : ChunkName). 1 ∷ (spelled n ++ head.2)) c.same ∙ ap (λ (l : List ℕ). 1 ∷ (spelled name ++ l)) same)),
              )
          | inr p ↦ (let none : Option (List ℕ) = None in let other : none ≡ Some bytes = p.2 in absurd cc)
        ]

pub only_drop : (payload : List ℕ) (name : ChunkName) → IsBytes payload → change_of payload ≡ Some (name, None)
    → (name.version ≤ NUMBER_MAX) × (name.ordinal < 2 ^ 32) × (payload ≡ drop_payload name)
unfolding change_of
only_drop payload name fits e = found (head_at payload) refl e
  where
    found : (r : Result Head TakeFault) → head_at payload ≡ r → said r ≡ gone name → (name.version ≤ NUMBER_MAX) × (name.ordinal < 2 ^ 32) × (payload ≡ drop_payload name)
    found (Err fault) is e = absurd cc
    found (Ok head) is e =
        let t = head_takes payload head fits is in
        let c = for_takes head.0 head.1 head.2 name None e in
        elim c.kind [
          | inl p ↦ (let none : Option (List ℕ) = None in let other : Some head.2 ≡ none = p.1 in absurd cc)
          | inr p ↦ (
            subst (λ (n : ChunkName). n.version ≤ NUMBER_MAX) c.same c.within,
            subst (λ (n : ChunkName). n.ordinal < 2 ^ 32) c.same t.1,
            t.0 ∙ (ap (λ (k : ℕ). k ∷ (spelled head.1 ++ head.2)) p.0 ∙ (ap (λ (n : ChunkName). 2 ∷ (spelled n ++ head.2)) c.same
                ∙ (ap (λ (l : List ℕ). 2 ∷ (spelled name ++ l)) p.1 ∙ ap (λ (l : List ℕ). 2 ∷ l) (append-nil (spelled name))))),
          )
        ]
