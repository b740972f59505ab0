-- Parts of bytes, and the part of a payload that spells a schema.
use Rattle.std.proofs.Common.{◌≡◌, ℕ, ◌+◌, ◌-◌, ◌≤◌, List, [], ◌∷◌, ◌++◌, length, take, drop, Ok, refl, sym, ◌∙◌, ap, subst, arith, length-append, length-drop}
use Rattle.std.proofs.lemmas.List.{take-append-drop, take-append-le, drop-append-le, take_at, drop_at}
use Rattle.row_value.specs.declared.schema.Schema.{Schema}
use Rattle.value_codec.specs.SchemaSpelling.{schema_spelling}
use Rattle.field_codec.specs.Forms.{four, eight}
use Rattle.slot_store.specs.declared.held.TableRecord.{TableRecord}
use Rattle.slot_store.specs.declared.schemas.RecordPlace.{RecordPlace}
use Rattle.slot_store.specs.Spelling.{record_payload}
use Rattle.slot_store.specs.Reading.{schema_in}
use Rattle.slot_store.specs.Memory.{between, IsWithin, schema_part, record_at, IsRecordPlace, schema_or}
use Rattle.slot_store.proofs.Again.{record_len, four_len}

module _ (old new : List ℕ) (grown : take (length old) new ≡ old) where
  abbrev more : List ℕ
  more = drop (length old) new

  new_is : new ≡ old ++ more
  new_is = sym (take-append-drop (length old) new) ∙ ap (λ (l : List ℕ). l ++ more) grown

  pub part_stays : (start end : ℕ) → IsWithin start end old → between start end new ≡ between start end old
  part_stays start end is =
      let rising = is.rising in
      let within = is.within in
      ap (λ (l : List ℕ). take (end - start) (drop start l)) new_is
      ∙ (ap (take (end - start)) (drop-append-le start old more (omega arith))
      ∙ take-append-le (end - start) (drop start old) more (omega (arith, length-drop start old)))

  pub within_stays : (start end : ℕ) → IsWithin start end old → IsWithin start end new
  within_stays start end is = record { rising = is.rising; within = omega (arith, is.within, ap length new_is, length-append old more) }

  pub record_stays : (place : RecordPlace) → IsRecordPlace old place → record_at old place ≡ record_at new place
  record_stays place is = ap (λ (l : List ℕ). record { table = place.table; state = place.state; schema = schema_or (schema_in l); position = place.position }) (sym (part_stays place.start
      place.end is.within))

  pub place_stays : (place : RecordPlace) → IsRecordPlace old place → IsRecordPlace new place
  place_stays place is = record {
    within = within_stays place.start place.end is.within;
    schema = ap schema_in (part_stays place.start place.end is.within) ∙ (is.schema ∙ ap (λ (t : TableRecord). Ok t.schema) (record_stays place is));
  }

-- a table's payload spells the schema behind its first six bytes, and before its last eight
pub part_is : (x : TableRecord) → schema_part (record_payload x) ≡ schema_spelling x.schema
part_is x =
    let s = schema_spelling x.schema in
    let e = eight x.position in
    let front : List ℕ = 2 ∷ (four x.table ++ x.state ∷ []) in
    let six : length front ≡ 6 = omega (arith, length-append (four x.table) (x.state ∷ []), four_len x.table) in
    let parts : record_payload x ≡ front ++ (s ++ e) = ap (λ (l : List ℕ). 2 ∷ l) (behind (four x.table) x.state (s ++ e)) in
    let len : (length (record_payload x) - 8) - 6 ≡ length s = omega (arith, record_len x) in
    ap (λ (n : ℕ). take n (drop 6 (record_payload x))) len
    ∙ (ap (λ (l : List ℕ). take (length s) (drop 6 l)) parts
    ∙ (ap (take (length s)) (drop_at front (s ++ e) 6 six) ∙ take_at s e (length s) refl))
  where
    behind : (a : List ℕ) (n : ℕ) (b : List ℕ) → a ++ n ∷ b ≡ (a ++ n ∷ []) ++ b
    behind [] n b = refl
    behind (x ∷ a) n b = ap (λ (l : List ℕ). x ∷ l) (behind a n b)
