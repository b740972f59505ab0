-- Slots of rows and records of tables that are read as they were written, and were written as they are read.
use Rattle.std.proofs.Common.{◌≡◌, ℕ, ◌+◌, ◌^◌, ◌<◌, ◌≤◌, Bool, true, false, cond, eqb, ltb, leb, List, [], ◌∷◌, ◌++◌, length, take, drop, Result, Ok, Err, refl, sym, ◌∙◌, ap, subst}
use Rattle.std.proofs.Common.{arith, inl, inr, length-append}
use Rattle.std.specs.Prelude.{◌&&◌, nat_le}
use Rattle.std.specs.Int.{w32, w64, to_be_bytes}
use Rattle.std.proofs.lemmas.Bool.{leb-true, eqb-true, ltb-false}
use Rattle.std.proofs.lemmas.Bool.Decides.{nat_tests}
use Rattle.std.proofs.lemmas.List.{append-nil, length-take-le, take_at}
use Rattle.stab_base.specs.declared.limits.TheConstants.{NUMBER_MAX}
use Rattle.stab_base.specs.Codec.{IsBytes}
use Rattle.row_value.specs.declared.schema.Schema.{Schema}
use Rattle.value_codec.specs.SchemaSpelling.{HasSchemaSpelling, schema_spelling}
use Rattle.value_codec.specs.Reading.{◌>>=◌, byte_at, number_at, id_at, whole}
use Rattle.value_codec.specs.SchemaReading.{schema_at}
use Rattle.value_codec.proofs.FieldReads.{Reads, bind_ok, ok_is, branch, no_fault, gives, rest_fits}
use Rattle.value_codec.proofs.Answering.{whole_found}
use Rattle.value_codec.proofs.SchemaReads.{schema_reads}
use Rattle.field_codec.specs.Fields.{Reader, then_at, ◌&◌, made_at}
use Rattle.field_codec.specs.Forms.{four, eight}
use Rattle.field_codec.proofs.Codecs.{Codec, both, made}
use Rattle.field_codec.proofs.Ranges.{both_are}
use Rattle.field_codec.proofs.FieldCodecs.{four_codec, eight_codec, byte_codec, id_codec, schema_codec}
use Rattle.held_value.specs.declared.slots.Slots.{Slots}
use Rattle.held_codec.specs.Spelling.{slots_spelling, HasSlots}
use Rattle.held_codec.specs.Reading.{slots_at}
use Rattle.held_codec.proofs.HeldCodecs.{slots_codec}
use Rattle.slot_store.specs.declared.held.RowSlots.{RowSlots}
use Rattle.slot_store.specs.declared.held.TableRecord.{TableRecord}
use Rattle.slot_store.specs.Limit.{tables_most}
use Rattle.slot_store.specs.Spelling.{IsTable, IsState, HasRowSpelling, row_payload, HasRecordSpelling, record_payload}
use Rattle.slot_store.specs.Reading.{when_at, row_fields_at, is_row, row_at, record_fields_at, is_record, record_at, tag_at, row_in, record_in, schema_in}
use Rattle.slot_store.specs.Reading.{said_by, said_row, said_table, SaysRow, SaysTable}

-- ---- values that pass a test

module _ {X : Type 0} (P Q : X → Type 0) (spell : X → List ℕ) (read : Reader X) (test : X → Bool) (r : Reads P spell read)
    (there : (x : X) → P x → test x ≡ true → Q x) (back : (x : X) → Q x → P x × (test x ≡ true)) where
  when_takes : (bytes : List ℕ) (x : X) (rest : List ℕ) → IsBytes bytes → when_at test read bytes ≡ Ok (x, rest) → Q x × (bytes ≡ spell x ++ rest)
  when_takes bytes x rest fits e =
      let f : X × List ℕ → Result (X × List ℕ) ℕ = λ a. cond (test a.0) (gives a.0 a.1) (Err (length bytes)) in
      let a = bind_ok (read bytes) f (x, rest) e in
      let t = r.takes bytes a.0.0 a.0.1 fits a.1 in
      elim (branch (test a.0.0) (gives a.0.0 a.0.1) (Err (length bytes)) (x, rest) a.2) [
        | inl y ↦ subst (λ (p : X × List ℕ). Q p.0 × (bytes ≡ spell p.0 ++ p.1)) (ok_is (a.0.0, a.0.1) (x, rest) y.1) (there a.0.0 t.0 y.0, t.1)
        | inr n ↦ absurd (no_fault (length bytes) (x, rest) n.1)
      ]

  when_again : (x : X) (rest : List ℕ) → Q x → when_at test read (spell x ++ rest) ≡ Ok (x, rest)
  when_again x rest h = let b = back x h in rw (r.again x rest b.0, b.1) refl

  when_reads : Reads Q spell (when_at test read)
  when_reads = record { takes = when_takes; again = when_again }

-- what passed the test, whatever the bytes are
when_passes : {X : Type 0} (read : Reader X) (test : X → Bool) (bytes : List ℕ) (x : X) (rest : List ℕ) → when_at test read bytes ≡ Ok (x, rest) → (test x ≡ true) × (read bytes ≡ Ok (x, rest))
when_passes {X} read test bytes x rest e =
    let f : X × List ℕ → Result (X × List ℕ) ℕ = λ a. cond (test a.0) (gives a.0 a.1) (Err (length bytes)) in
    let a = bind_ok (read bytes) f (x, rest) e in
    elim (branch (test a.0.0) (gives a.0.0 a.0.1) (Err (length bytes)) (x, rest) a.2) [
      | inl y ↦ subst (λ (p : X × List ℕ). (test p.0 ≡ true) × (read bytes ≡ Ok p)) (ok_is (a.0.0, a.0.1) (x, rest) y.1) (y.0, a.1)
      | inr n ↦ absurd (no_fault (length bytes) (x, rest) n.1)
    ]

-- ---- slots of rows

abbrev row_fields : RowSlots → List ℕ
row_fields row = four row.table ++ (row.row ++ (eight row.last ++ slots_spelling row.slots))

abbrev AreRowFields : RowSlots → Type 0
AreRowFields row = (row.table < 2 ^ 32) × ((length row.row ≡ 16) × ((row.last < 2 ^ 64) × HasSlots row.slots))

abbrev RowParts : Type 0
RowParts = ℕ × (List ℕ × (ℕ × Slots))

abbrev row_of : RowParts → RowSlots
row_of p = record { table = p.0; row = p.1.0; last = p.1.1.0; slots = p.1.1.1 }

row_fields_codec : Codec AreRowFields row_fields row_fields_at
unfolding row_fields_at
row_fields_codec =
    made row_of AreRowFields row_fields (λ p h. h) (λ p h. refl) (λ z h. ((z.table, (z.row, (z.last, z.slots))), h, refl))
    (both four_codec (both id_codec (both eight_codec slots_codec)))

row_passes : (x : RowSlots) → is_row x ≡ true → IsTable x.table × (x.last ≤ NUMBER_MAX)
row_passes x t =
    let a = both_are (leb 1 x.table && leb x.table tables_most) (leb x.last NUMBER_MAX) t in
    let b = both_are (leb 1 x.table) (leb x.table tables_most) a.0 in
    (record { least = leb-true _ _ b.0; most = leb-true _ _ b.1 }, leb-true _ _ a.1)

row_there : (x : RowSlots) → AreRowFields x → is_row x ≡ true → HasRowSpelling x
row_there x h t = let p = row_passes x t in record { table = p.0; row = h.1.0; last = p.1; slots = h.1.1.1 }

row_back : (x : RowSlots) → HasRowSpelling x → AreRowFields x × (is_row x ≡ true)
row_back x h =
    let least = h.table.least in
    let most = h.table.most in
    let last = h.last in
    let test : is_row x ≡ true = grind (arith, nat_tests) in
    ((omega (arith, most), (h.row, (omega (arith, last), h.slots))), test)

row_reads : Reads HasRowSpelling row_fields row_at
unfolding row_at
row_reads = when_reads AreRowFields HasRowSpelling row_fields row_fields_at is_row row_fields_codec.reads row_there row_back

-- ---- records of tables

abbrev record_fields : TableRecord → List ℕ
record_fields table = four table.table ++ (table.state ∷ (schema_spelling table.schema ++ eight table.position))

abbrev AreRecordFields : TableRecord → Type 0
AreRecordFields table = (table.table < 2 ^ 32) × ((table.state < 256) × (HasSchemaSpelling table.schema × (table.position < 2 ^ 64)))

abbrev RecordParts : Type 0
RecordParts = ℕ × (ℕ × (Schema × ℕ))

abbrev record_of : RecordParts → TableRecord
record_of p = record { table = p.0; state = p.1.0; schema = p.1.1.0; position = p.1.1.1 }

record_fields_codec : Codec AreRecordFields record_fields record_fields_at
unfolding record_fields_at
record_fields_codec =
    made record_of AreRecordFields record_fields (λ p h. h) (λ p h. refl) (λ z h. ((z.table, (z.state, (z.schema, z.position))), h, refl))
    (both four_codec (both byte_codec (both schema_codec eight_codec)))

record_there : (x : TableRecord) → AreRecordFields x → is_record x ≡ true → HasRecordSpelling x
record_there x h t =
    let a = both_are (leb 1 x.table && leb x.table tables_most) (leb 1 x.state && leb x.state 2) t in
    let b = both_are (leb 1 x.table) (leb x.table tables_most) a.0 in
    let c = both_are (leb 1 x.state) (leb x.state 2) a.1 in
    record {
      table = record { least = leb-true _ _ b.0; most = leb-true _ _ b.1 };
      state = record { least = leb-true _ _ c.0; most = leb-true _ _ c.1 };
      schema = h.1.1.0;
      position = h.1.1.1;
    }

record_back : (x : TableRecord) → HasRecordSpelling x → AreRecordFields x × (is_record x ≡ true)
record_back x h =
    let least = h.table.least in
    let most = h.table.most in
    let from = h.state.least in
    let to = h.state.most in
    let test : is_record x ≡ true = grind (arith, nat_tests) in
    ((omega (arith, most), (omega (arith, to), (h.schema, h.position))), test)

record_reads : Reads HasRecordSpelling record_fields record_at
unfolding record_at
record_reads = when_reads AreRecordFields HasRecordSpelling record_fields record_fields_at is_record record_fields_codec.reads record_there record_back

-- ---- whole payloads, read again

row_again : (x : RowSlots) → HasRowSpelling x → row_in (row_payload x) ≡ Ok x
unfolding row_in whole tag_at byte_at
row_again x h =
    let all : row_at (row_fields x) ≡ Ok (x, []) = ap row_at (sym (append-nil (row_fields x))) ∙ row_reads.again x [] h in
    rw all refl

pub says_row : (x : RowSlots) → HasRowSpelling x → said_by (row_payload x) ≡ SaysRow x
unfolding said_by
says_row x h = ap (λ (r : Result RowSlots ℕ). said_row r (said_table (record_in (row_payload x)))) (row_again x h)

record_again : (x : TableRecord) → HasRecordSpelling x → record_in (record_payload x) ≡ Ok x
unfolding record_in whole tag_at byte_at
record_again x h =
    let all : record_at (record_fields x) ≡ Ok (x, []) = ap record_at (sym (append-nil (record_fields x))) ∙ record_reads.again x [] h in
    rw all refl

pub says_table : (x : TableRecord) → HasRecordSpelling x → said_by (record_payload x) ≡ SaysTable x
unfolding said_by row_in tag_at byte_at
says_table x h = ap (λ (r : Result TableRecord ℕ). said_table r) (record_again x h)

pub schema_again : (schema : Schema) → HasSchemaSpelling schema → schema_in (schema_spelling schema) ≡ Ok schema
unfolding schema_in whole
schema_again schema h =
    let all : schema_at (schema_spelling schema) ≡ Ok (schema, []) = ap schema_at (sym (append-nil (schema_spelling schema))) ∙ schema_reads.again schema [] h in
    rw all refl

-- ---- what a payload that says something has in it

pub row_said : (payload : List ℕ) (x : RowSlots) → said_by payload ≡ SaysRow x → row_in payload ≡ Ok x
unfolding said_by
row_said payload x e = split (row_in payload) (record_in payload) e
  where
    split : (r : Result RowSlots ℕ) (t : Result TableRecord ℕ) → said_row r (said_table t) ≡ SaysRow x → r ≡ Ok x
    split (Ok y) t e = let same : y ≡ x = cc in ap (λ (z : RowSlots). Ok z) same
    split (Err left) (Ok y) e = absurd cc
    split (Err left) (Err left') e = absurd cc

pub table_said : (payload : List ℕ) (x : TableRecord) → said_by payload ≡ SaysTable x → record_in payload ≡ Ok x
unfolding said_by
table_said payload x e = split (row_in payload) (record_in payload) e
  where
    split : (r : Result RowSlots ℕ) (t : Result TableRecord ℕ) → said_row r (said_table t) ≡ SaysTable x → t ≡ Ok x
    split (Ok y) t e = absurd cc
    split (Err left) (Ok y) e = let same : y ≡ x = cc in ap (λ (z : TableRecord). Ok z) same
    split (Err left) (Err left') e = absurd cc

tag_is : (tag : ℕ) (payload rest : List ℕ) → tag_at tag payload ≡ Ok rest → payload ≡ tag ∷ rest
unfolding tag_at byte_at
tag_is tag [] rest e = absurd cc
tag_is tag (b ∷ bytes) rest e =
    elim (branch (eqb b tag) (Ok bytes) (Err (length (b ∷ bytes))) rest e) [
      | inl y ↦ let is : b ≡ tag = eqb-true _ _ y.0 in ap (λ (n : ℕ). n ∷ bytes) is ∙ ap (λ (l : List ℕ). tag ∷ l) (ok_is bytes rest y.1)
      | inr n ↦ absurd (no_fault (length (b ∷ bytes)) rest n.1)
    ]

-- the slots in a payload have this payload
pub row_takes : (payload : List ℕ) (x : RowSlots) → IsBytes payload → row_in payload ≡ Ok x → HasRowSpelling x × (payload ≡ row_payload x)
unfolding row_in
row_takes payload x fits e =
    let a = bind_ok (tag_at 1 payload) (λ rest. whole (row_at rest)) x e in
    let tagged = tag_is 1 payload a.0 a.1 in
    let one : List ℕ = 1 ∷ [] in
    let t = whole_found HasRowSpelling row_fields row_at row_reads a.0 (Ok x) (rest_fits one a.0 payload tagged fits) a.2 in
    (t.0, tagged ∙ ap (λ (l : List ℕ). 1 ∷ l) t.1)

-- and so has a table's record
pub record_takes : (payload : List ℕ) (x : TableRecord) → IsBytes payload → record_in payload ≡ Ok x → HasRecordSpelling x × (payload ≡ record_payload x)
unfolding record_in
record_takes payload x fits e =
    let a = bind_ok (tag_at 2 payload) (λ rest. whole (record_at rest)) x e in
    let tagged = tag_is 2 payload a.0 a.1 in
    let two : List ℕ = 2 ∷ [] in
    let t = whole_found HasRecordSpelling record_fields record_at record_reads a.0 (Ok x) (rest_fits two a.0 payload tagged fits) a.2 in
    (t.0, tagged ∙ ap (λ (l : List ℕ). 2 ∷ l) t.1)

pub only_row : (payload : List ℕ) (x : RowSlots) → IsBytes payload → said_by payload ≡ SaysRow x → HasRowSpelling x × (payload ≡ row_payload x)
only_row payload x fits e = row_takes payload x fits (row_said payload x e)

pub only_table : (payload : List ℕ) (x : TableRecord) → IsBytes payload → said_by payload ≡ SaysTable x → HasRecordSpelling x × (payload ≡ record_payload x)
only_table payload x fits e = record_takes payload x fits (table_said payload x e)

-- ---- limits of what is read, whatever the bytes are

made_first : {X Z : Type 0} (make : X → Z) (read : Reader X) (bytes : List ℕ) (z : Z) (rest : List ℕ) → made_at make read bytes ≡ Ok (z, rest) → (x : X) × (make x ≡ z) × (read bytes ≡ Ok (x, rest))
made_first {X} {Z} make read bytes z rest e =
    let a = bind_ok (read bytes) (λ (a : X × List ℕ). gives (make a.0) a.1) (z, rest) e in
    let same = ok_is (make a.0.0, a.0.1) (z, rest) a.2 in
    (a.0.0, ap (λ (p : Z × List ℕ). p.0) same, a.1 ∙ ap (λ (p : Z × List ℕ). gives a.0.0 p.1) same)

then_second : {X Y : Type 0} (first : Reader X) (next : X → Reader Y) (bytes : List ℕ) (p : X × Y) (rest : List ℕ) → then_at first next bytes ≡ Ok (p, rest)
    → (behind : List ℕ) × (next p.0 behind ≡ Ok (p.1, rest))
then_second {X} {Y} first next bytes p rest e =
    let a = bind_ok (first bytes) (λ (a : X × List ℕ). next a.0 a.1 >>= λ (b : Y × List ℕ). gives (a.0, b.0) b.1) (p, rest) e in
    let b = bind_ok (next a.0.0 a.0.1) (λ (b : Y × List ℕ). gives (a.0.0, b.0) b.1) (p, rest) a.2 in
    (a.0.1, subst (λ (q : (X × Y) × List ℕ). next q.0.0 a.0.1 ≡ Ok (q.0.1, q.1)) (ok_is ((a.0.0, b.0.0), b.0.1) (p, rest) b.2) b.1)

then_first : {X Y : Type 0} (first : Reader X) (next : X → Reader Y) (bytes : List ℕ) (p : X × Y) (rest : List ℕ) → then_at first next bytes ≡ Ok (p, rest)
    → (behind : List ℕ) × (first bytes ≡ Ok (p.0, behind))
then_first {X} {Y} first next bytes p rest e =
    let a = bind_ok (first bytes) (λ (a : X × List ℕ). next a.0 a.1 >>= λ (b : Y × List ℕ). gives (a.0, b.0) b.1) (p, rest) e in
    let b = bind_ok (next a.0.0 a.0.1) (λ (b : Y × List ℕ). gives (a.0.0, b.0) b.1) (p, rest) a.2 in
    (a.0.1, subst (λ (q : (X × Y) × List ℕ). first bytes ≡ Ok (q.0.0, a.0.1)) (ok_is ((a.0.0, b.0.0), b.0.1) (p, rest) b.2) a.1)

id_len : (bytes id rest : List ℕ) → id_at bytes ≡ Ok (id, rest) → length id ≡ 16
unfolding id_at
id_len bytes id rest e =
    elim (branch (ltb (length bytes) 16) (Err 0) (gives (take 16 bytes) (drop 16 bytes)) (id, rest) e) [
      | inl y ↦ absurd (no_fault 0 (id, rest) y.1)
      | inr n ↦
          let long : 16 ≤ length bytes = ltb-false _ _ n.0 in
          subst (λ (p : List ℕ × List ℕ). length p.0 ≡ 16) (ok_is (take 16 bytes, drop 16 bytes) (id, rest) n.1) (length-take-le 16 bytes long)
    ]

pub record IsLimited (x : RowSlots) : Type 0 where
  pub table : IsTable x.table
  pub row : length x.row ≡ 16
  pub last : x.last ≤ NUMBER_MAX

limited_at : (bytes : List ℕ) (x : RowSlots) (rest : List ℕ) → row_at bytes ≡ Ok (x, rest) → IsLimited x
unfolding row_at row_fields_at
limited_at bytes x rest e =
    let t = when_passes row_fields_at is_row bytes x rest e in
    let limits = row_passes x t.0 in
    let inner : Reader (ℕ × Slots) = number_at w64 & slots_at in
    let middle : Reader (List ℕ × (ℕ × Slots)) = id_at & inner in
    let m = made_first row_of (number_at w32 & middle) bytes x rest t.1 in
    let s = then_second (number_at w32) (λ (n : ℕ). middle) bytes m.0 rest m.2 in
    let f = then_first id_at (λ (id : List ℕ). inner) s.0 m.0.1 rest s.1 in
    record { table = limits.0; row = subst (λ (y : RowSlots). length y.row ≡ 16) m.1 (id_len s.0 m.0.1.0 f.0 f.1); last = limits.1 }

pub row_limited : (payload : List ℕ) (x : RowSlots) → row_in payload ≡ Ok x → IsLimited x
unfolding row_in whole
row_limited payload x e =
    let a = bind_ok (tag_at 1 payload) (λ rest. whole (row_at rest)) x e in
    let b = bind_ok (row_at a.0) (λ y. cond (eqb (length y.1) 0) (Ok y.0) (Err (length y.1))) x a.2 in
    elim (branch (eqb (length b.0.1) 0) (Ok b.0.0) (Err (length b.0.1)) x b.2) [
      | inl y ↦ subst IsLimited (ok_is b.0.0 x y.1) (limited_at a.0 b.0.0 b.0.1 b.1)
      | inr n ↦ absurd (no_fault (length b.0.1) x n.1)
    ]

-- ---- how long payloads are

pub four_len : (n : ℕ) → length (four n) ≡ 4
unfolding four
four_len n = refl

eight_len : (n : ℕ) → length (eight n) ≡ 8
unfolding eight
eight_len n = refl

pub row_len : (x : RowSlots) → length (row_payload x) ≡ 13 + length x.row + length (slots_spelling x.slots)
row_len x =
    let s = slots_spelling x.slots in
    omega (arith, four_len x.table, eight_len x.last, length-append (four x.table) (x.row ++ (eight x.last ++ s)), length-append x.row (eight x.last ++ s), length-append (eight x.last) s)

pub record_len : (x : TableRecord) → length (record_payload x) ≡ 14 + length (schema_spelling x.schema)
record_len x =
    let s = schema_spelling x.schema in
    omega (arith, four_len x.table, eight_len x.position, length-append (four x.table) (x.state ∷ (s ++ eight x.position)), length-append s (eight x.position))
