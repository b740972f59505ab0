-- Readings that give what is spelled and tell the first bad place, and how they are put together.
use Rattle.std.proofs.Common.{◌≡◌, ℕ, List, ◌++◌, Result, Ok, Err, sym, ap, subst, ◌∙◌}
use Rattle.stab_base.specs.Codec.{IsBytes}
use Rattle.value_codec.specs.FirstBad.{IsFirstBad}
use Rattle.value_codec.proofs.FieldReads.{Reads, one_takes, one_again, gives}
use Rattle.value_codec.proofs.Stops.{Stops, moved, one_err, pair_reads, pair_stop}
use Rattle.field_codec.specs.Fields.{Reader, then_at, made_at}

pub record Codec {X : Type 0} (P : X → Type 0) (spell : X → List ℕ) (read : List ℕ → Result (X × List ℕ) ℕ) : Type 0 where
  pub reads : Reads P spell read
  pub stops : Stops P spell read

-- ---- one field behind the other

pub followed : {X Y : Type 0} (P : X → Type 0) (spell : X → List ℕ) (read : Reader X) (Q : X → Y → Type 0) (tell : X → Y → List ℕ) (next : X → Reader Y)
    → Codec P spell read → ((x : X) → Reads (Q x) (tell x) (next x)) → ((x : X) → P x → Stops (Q x) (tell x) (next x))
    → Codec (λ (p : X × Y). P p.0 × Q p.0 p.1) (λ (p : X × Y). spell p.0 ++ tell p.0 p.1) (then_at read next)
followed P spell read Q tell next c r s = record {
  reads = pair_reads P spell read Q tell next c.reads r;
  stops = pair_stop P spell read Q tell next c.reads c.stops r s;
}

pub depending : {X Y : Type 0} {P : X → Type 0} {spell : X → List ℕ} {read : Reader X} (Q : X → Y → Type 0) (tell : X → Y → List ℕ) (next : X → Reader Y)
    → Codec P spell read → ((x : X) → Codec (Q x) (tell x) (next x)) → Codec (λ (p : X × Y). P p.0 × Q p.0 p.1) (λ (p : X × Y). spell p.0 ++ tell p.0 p.1) (then_at read next)
depending {X} {Y} {P} {spell} {read} Q tell next c d = followed P spell read Q tell next c (λ x. (d x).reads) (λ x h. (d x).stops)

pub both : {X Y : Type 0} {P : X → Type 0} {spell : X → List ℕ} {read : Reader X} {Q : Y → Type 0} {tell : Y → List ℕ} {next : Reader Y}
    → Codec P spell read → Codec Q tell next → Codec (λ (p : X × Y). P p.0 × Q p.1) (λ (p : X × Y). spell p.0 ++ tell p.1) (then_at read (λ x. next))
both {X} {Y} {P} {spell} {read} {Q} {tell} {next} c d = followed P spell read (λ (x : X). Q) (λ (x : X). tell) (λ (x : X). next) c (λ x. d.reads) (λ x h. d.stops)

-- ---- a value that is made of fields

module _ {X Z : Type 0} {P : X → Type 0} {spell : X → List ℕ} {read : Reader X} (make : X → Z) (Q : Z → Type 0) (tell : Z → List ℕ)
    (there : (x : X) → P x → Q (make x)) (spelled : (x : X) → P x → tell (make x) ≡ spell x) (back : (z : Z) → Q z → (x : X) × P x × (make x ≡ z)) where
  made_takes : Reads P spell read → (bytes : List ℕ) (z : Z) (rest : List ℕ) → IsBytes bytes → made_at make read bytes ≡ Ok (z, rest) → Q z × (bytes ≡ tell z ++ rest)
  made_takes r bytes z rest fits e =
      let t = one_takes P spell read make r bytes z rest fits e in
      (subst Q t.1 (there t.0 t.2), t.3 ∙ ap (λ (l : List ℕ). l ++ rest) (sym (spelled t.0 t.2) ∙ ap tell t.1))

  made_again : Reads P spell read → (z : Z) (rest : List ℕ) → Q z → made_at make read (tell z ++ rest) ≡ Ok (z, rest)
  made_again r z rest h =
      let b = back z h in
      let told : tell z ≡ spell b.0 = ap tell (sym b.2) ∙ spelled b.0 b.1 in
      ap (λ (l : List ℕ). made_at make read (l ++ rest)) told ∙ one_again P spell read make r b.0 rest b.1 ∙ ap (λ (y : Z). gives y rest) b.2

  made_fails : Stops P spell read → (bytes : List ℕ) (left : ℕ) → IsBytes bytes → made_at make read bytes ≡ Err left → IsFirstBad Q tell bytes left
  made_fails s bytes left fits e =
      moved P spell Q tell bytes left (λ x h. (make x, there x h, spelled x h)) (λ z h. let b = back z h in (b.0, b.1, sym (spelled b.0 b.1) ∙ ap tell b.2))
      (s.fails bytes left fits (one_err (read bytes) make left e))

  pub made : Codec P spell read → Codec Q tell (made_at make read)
  made c = record {
    reads = record { takes = made_takes c.reads; again = made_again c.reads };
    stops = record { some = make c.stops.some; has = there c.stops.some c.stops.has; fails = made_fails c.stops };
  }
