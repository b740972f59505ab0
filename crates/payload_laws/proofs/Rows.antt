-- What is read as a row or a table was put as its one payload.
use Rattle.std.proofs.Common.{◌≡◌, ℕ, Bool, true, false, cond, eqb, leb, List, [], ◌∷◌, ◌++◌, length, Result, Ok, Err, refl, sym, ◌∙◌, ap, subst, append_assoc, inl, inr}
use Rattle.std.specs.Prelude.{◌&&◌, nat_le}
use Rattle.std.specs.Int.{w64, to_be_bytes}
use Rattle.std.proofs.lemmas.Bool.{leb-true, eqb-true}
use Rattle.std.proofs.lemmas.List.{append-nil, nil_from_length}
use Rattle.stab_base.specs.declared.limits.TheConstants.{NUMBER_MAX}
use Rattle.stab_base.specs.Codec.{IsBytes}
use Rattle.row_value.specs.declared.pieces.PieceContent.{PieceContent}
use Rattle.row_value.specs.declared.schema.Schema.{Schema}
use Rattle.value_codec.specs.Spelling.{content_spelling}
use Rattle.value_codec.specs.SchemaSpelling.{HasSchemaSpelling, schema_spelling}
use Rattle.value_codec.specs.Reading as value
use Rattle.value_codec.specs.Reading.{◌>>=◌, byte_at, number_at, list_at, content_at, whole}
use Rattle.value_codec.specs.SchemaReading.{schema_at}
use Rattle.value_codec.proofs.FieldReads.{bind_ok, ok_is, branch, no_fault, gives, rest_fits, byte_reads, eight_reads, id_reads}
use Rattle.value_codec.proofs.ContentReads.{content_reads}
use Rattle.value_codec.proofs.SchemaReads.{schema_reads}
use Rattle.row_store.specs.declared.stored.LastWrite.{LastWrite}
use Rattle.row_store.specs.declared.stored.StoredRow.{StoredRow}
use Rattle.row_store.specs.Spelling.{all_keep, stored_spelling, HasStoredSpelling, row_payload, IsState, table_payload}
use Rattle.row_store.specs.Reading.{id_at, last_in, after_last, is_allowed, allowed_at, stored_at, table_at, tag_at, row_in, table_in, said_by, SaysRow, SaysTable}
use Rattle.row_store.proofs.Again.{lasts_read, are_lasts, spelling_parts, row_said, table_said}

-- ---- fields

same_id : (bytes : List ℕ) → id_at bytes ≡ value.id_at bytes
unfolding id_at value.id_at
same_id bytes = refl

id_takes : (bytes id rest : List ℕ) → IsBytes bytes → id_at bytes ≡ Ok (id, rest) → (length id ≡ 16) × (bytes ≡ id ++ rest)
id_takes bytes id rest fits e = id_reads.takes bytes id rest fits (sym (same_id bytes) ∙ e)

pub both_are : (a b : Bool) → (a && b) ≡ true → (a ≡ true) × (b ≡ true)
both_are true b e = (refl, e)
both_are false b e = absurd cc

-- what stands behind the first byte of a payload
pub tag_takes : (tag : ℕ) (payload rest : List ℕ) → IsBytes payload → tag_at tag payload ≡ Ok rest → (payload ≡ tag ∷ rest) × IsBytes rest
unfolding tag_at
tag_takes tag payload rest fits e =
    let f : ℕ × List ℕ → Result (List ℕ) ℕ = λ first. cond (eqb first.0 tag) (Ok first.1) (Err (length payload)) in
    let a = bind_ok (byte_at payload) f rest e in
    let t = byte_reads.takes payload a.0.0 a.0.1 fits a.1 in
    elim (branch (eqb a.0.0 tag) (Ok a.0.1) (Err (length payload)) rest a.2) [
      | inl y ↦
          let is : a.0.0 ≡ tag = eqb-true _ _ y.0 in
          let same : a.0.1 ≡ rest = ok_is a.0.1 rest y.1 in
          (t.1 ∙ (ap (λ (n : ℕ). n ∷ a.0.1) is ∙ ap (λ (l : List ℕ). tag ∷ l) same), subst IsBytes same (rest_fits (a.0.0 ∷ []) a.0.1 payload t.1 fits))
      | inr n ↦ absurd (no_fault (length payload) rest n.1)
    ]

-- nothing stands behind a whole value
pub whole_takes : {X : Type 0} (read : Result (X × List ℕ) ℕ) (x : X) → whole read ≡ Ok x → read ≡ Ok (x, [])
unfolding whole
whole_takes {X} read x e =
    let f : X × List ℕ → Result X ℕ = λ a. cond (eqb (length a.1) 0) (Ok a.0) (Err (length a.1)) in
    let a = bind_ok read f x e in
    elim (branch (eqb (length a.0.1) 0) (Ok a.0.0) (Err (length a.0.1)) x a.2) [
      | inl y ↦
          let nothing : a.0.1 ≡ [] = nil_from_length a.0.1 (eqb-true _ _ y.0) in
          let is : a.0.0 ≡ x = ok_is a.0.0 x y.1 in
          a.1 ∙ (ap (λ (l : List ℕ). gives a.0.0 l) nothing ∙ ap (λ (z : X). gives z []) is)
      | inr n ↦ absurd (no_fault (length a.0.1) x n.1)
    ]

-- ---- rows

abbrev made : List ℕ → ℕ → PieceContent → List LastWrite → StoredRow
made row version content pairs = record { row = row; version = version; content = content; pairs = pairs }

stored_takes : (bytes : List ℕ) (x : StoredRow) (rest : List ℕ) → IsBytes bytes → stored_at bytes ≡ Ok (x, rest) → HasStoredSpelling x × (bytes ≡ stored_spelling x ++ rest)
unfolding stored_at
stored_takes bytes x rest fits e =
    let f3 : List ℕ × List ℕ → ℕ × List ℕ → PieceContent × List ℕ → List LastWrite × List ℕ → Result (StoredRow × List ℕ) ℕ = λ row version content lasts. allowed_at bytes (made row.0 version.0 content.0 lasts.0) lasts.1 in
    let f2 : List ℕ × List ℕ → ℕ × List ℕ → PieceContent × List ℕ → Result (StoredRow × List ℕ) ℕ = λ row version content. list_at after_last last_in 0 content.1 >>= f3 row version content in
    let f1 : List ℕ × List ℕ → ℕ × List ℕ → Result (StoredRow × List ℕ) ℕ = λ row version. content_at version.1 >>= f2 row version in
    let f0 : List ℕ × List ℕ → Result (StoredRow × List ℕ) ℕ = λ row. number_at w64 row.1 >>= f1 row in
    let a = bind_ok (id_at bytes) f0 (x, rest) e in
    let b = bind_ok (number_at w64 a.0.1) (f1 a.0) (x, rest) a.2 in
    let c = bind_ok (content_at b.0.1) (f2 a.0 b.0) (x, rest) b.2 in
    let d = bind_ok (list_at after_last last_in 0 c.0.1) (f3 a.0 b.0 c.0) (x, rest) c.2 in
    let t = id_takes bytes a.0.0 a.0.1 fits a.1 in
    let fits1 : IsBytes a.0.1 = rest_fits a.0.0 a.0.1 bytes t.1 fits in
    let u = eight_reads.takes a.0.1 b.0.0 b.0.1 fits1 b.1 in
    let fits2 : IsBytes b.0.1 = rest_fits (to_be_bytes w64 b.0.0) b.0.1 a.0.1 u.1 fits1 in
    let v = content_reads.takes b.0.1 c.0.0 c.0.1 fits2 c.1 in
    let fits3 : IsBytes c.0.1 = rest_fits (content_spelling c.0.0) c.0.1 b.0.1 v.1 fits2 in
    let w = lasts_read.takes c.0.1 d.0.0 d.0.1 fits3 d.1 in
    let stored : StoredRow = made a.0.0 b.0.0 c.0.0 d.0.0 in
    let version : List ℕ = to_be_bytes w64 b.0.0 in
    let content : List ℕ = content_spelling c.0.0 in
    let parts : bytes ≡ stored_spelling stored ++ d.0.1 =
    t.1 ∙ (ap (λ (l : List ℕ). a.0.0 ++ l) (u.1 ∙ ap (λ (l : List ℕ). version ++ l) (v.1 ∙ ap (λ (l : List ℕ). content ++ l) w.1)) ∙ sym (spelling_parts stored d.0.1)) in
    elim (branch (is_allowed stored) (gives stored d.0.1) (Err (length bytes)) (x, rest) d.2) [
      | inl y ↦
          let both = both_are (all_keep c.0.0) (leb b.0.0 NUMBER_MAX) y.0 in
          subst (λ (p : StoredRow × List ℕ). HasStoredSpelling p.0 × (bytes ≡ stored_spelling p.0 ++ p.1)) (ok_is (stored, d.0.1) (x, rest) y.1)
          (record { row = t.0; version = leb-true _ _ both.1; content = v.0; keeps = both.0; lasts = are_lasts 0 d.0.0 w.0.1 }, parts)
      | inr n ↦ absurd (no_fault (length bytes) (x, rest) n.1)
    ]

pub only_row : (payload : List ℕ) (x : StoredRow) → IsBytes payload → said_by payload ≡ SaysRow x → HasStoredSpelling x × (payload ≡ row_payload x)
unfolding row_in
only_row payload x fits e =
    let f : List ℕ → Result StoredRow ℕ = λ rest. whole (stored_at rest) in
    let a = bind_ok (tag_at 1 payload) f x (row_said payload x e) in
    let t = tag_takes 1 payload a.0 fits a.1 in
    let s = stored_takes a.0 x [] t.1 (whole_takes (stored_at a.0) x a.2) in
    (s.0, t.0 ∙ ap (λ (l : List ℕ). 1 ∷ l) (s.1 ∙ append-nil (stored_spelling x)))

-- ---- tables

table_takes : (bytes : List ℕ) (schema : Schema) (state : ℕ) (rest : List ℕ) → IsBytes bytes → table_at bytes ≡ Ok ((schema, state), rest)
    → HasSchemaSpelling schema × IsState state × (bytes ≡ (schema_spelling schema ++ state ∷ []) ++ rest)
unfolding table_at
table_takes bytes schema state rest fits e =
    let f1 : Schema × List ℕ → ℕ × List ℕ → Result ((Schema × ℕ) × List ℕ) ℕ = λ schema state. cond (nat_le 1 state.0 && nat_le state.0 3) (Ok ((schema.0, state.0), state.1)) (Err (length schema.1)) in
    let f0 : Schema × List ℕ → Result ((Schema × ℕ) × List ℕ) ℕ = λ schema. byte_at schema.1 >>= f1 schema in
    let a = bind_ok (schema_at bytes) f0 ((schema, state), rest) e in
    let b = bind_ok (byte_at a.0.1) (f1 a.0) ((schema, state), rest) a.2 in
    let t = schema_reads.takes bytes a.0.0 a.0.1 fits a.1 in
    let fits1 : IsBytes a.0.1 = rest_fits (schema_spelling a.0.0) a.0.1 bytes t.1 fits in
    let u = byte_reads.takes a.0.1 b.0.0 b.0.1 fits1 b.1 in
    let parts : bytes ≡ (schema_spelling a.0.0 ++ b.0.0 ∷ []) ++ b.0.1 = t.1 ∙ (ap (λ (l : List ℕ). schema_spelling a.0.0 ++ l) u.1 ∙ sym (append_assoc (schema_spelling a.0.0) (b.0.0 ∷ []) b.0.1)) in
    elim (branch (leb 1 b.0.0 && leb b.0.0 3) (gives (a.0.0, b.0.0) b.0.1) (Err (length a.0.1)) ((schema, state), rest) b.2) [
      | inl y ↦
          let both = both_are (leb 1 b.0.0) (leb b.0.0 3) y.0 in
          subst (λ (p : (Schema × ℕ) × List ℕ). HasSchemaSpelling p.0.0 × IsState p.0.1 × (bytes ≡ (schema_spelling p.0.0 ++ p.0.1 ∷ []) ++ p.1)) (ok_is ((a.0.0, b.0.0), b.0.1) ((schema, state), rest) y.1)
          (t.0, record { least = leb-true _ _ both.0; most = leb-true _ _ both.1 }, parts)
      | inr n ↦ absurd (no_fault (length a.0.1) ((schema, state), rest) n.1)
    ]

pub only_table : (payload : List ℕ) (schema : Schema) (state : ℕ) → IsBytes payload → said_by payload ≡ SaysTable schema state
    → HasSchemaSpelling schema × IsState state × (payload ≡ table_payload schema state)
unfolding table_in
only_table payload schema state fits e =
    let f : List ℕ → Result (Schema × ℕ) ℕ = λ rest. whole (table_at rest) in
    let a = bind_ok (tag_at 2 payload) f (schema, state) (table_said payload schema state e) in
    let t = tag_takes 2 payload a.0 fits a.1 in
    let s = table_takes a.0 schema state [] t.1 (whole_takes (table_at a.0) (schema, state) a.2) in
    (s.0, s.1, t.0 ∙ ap (λ (l : List ℕ). 2 ∷ l) (s.2 ∙ append-nil (schema_spelling schema ++ state ∷ [])))
