-- What is known of a plan that is worked out.
use Rattle.std.proofs.Common.{◌≡◌, ℕ, ◌+◌, ◌<◌, ◌≤◌, List, [], ◌∷◌, ◌++◌, length, Option, Some, None, refl, subst, arith, length-append}
use Rattle.std.specs.Prelude.{IfSome, option_map, ◌^◌}
use Rattle.vault.specs.Limit.{payload_most}
use Rattle.value_codec.specs.Spelling.{list_spelling}
use Rattle.value_codec.specs.SchemaSpelling.{schema_spelling}
use Rattle.field_codec.specs.Forms.{four, eight, IsOption, option_spelling}
use Rattle.held_codec.specs.Spelling.{local_spelling, slots_spelling, tell_spelling}
use Rattle.slot_store.specs.declared.held.TableRecord.{TableRecord}
use Rattle.slot_store.specs.Spelling.{HasRowSpelling, HasRecordSpelling, record_payload}
use Rattle.slot_store.proofs.Again.{four_len, row_len, record_len}
use Rattle.plan_log.specs.declared.plan.RowChange.{RowChange}
use Rattle.plan_log.specs.declared.plan.RecordChange.{RecordChange}
use Rattle.plan_log.specs.declared.plan.Commit.{Commit}
use Rattle.plan_log.specs.Spelling.{IsTable, row_change_spelling, HasRowChange, record_change_spelling, HasRecordChange, IsPosition, head_spelling, updates_spelling, commit_payload, HasCommit}
use Rattle.client_journal.specs.Redone.{slots_for, row_behind, position_from, position_in, record_from, record_for}
use Rattle.client_journal.specs.Made.{bytes_of_row, bytes_of_record, IsOld}

eight_len : (n : ℕ) → length (eight n) ≡ 8
unfolding eight
eight_len n = refl

-- how long a commit's payload is at least
module _ (commit : Commit) where
  abbrev row_bytes : List ℕ
  row_bytes = option_spelling row_change_spelling commit.row

  abbrev position_bytes : List ℕ
  position_bytes = option_spelling eight commit.position

  abbrev record_bytes : List ℕ
  record_bytes = option_spelling record_change_spelling commit.new_record

  abbrev behind : List ℕ
  behind = list_spelling local_spelling commit.drops ++ list_spelling tell_spelling commit.tells

  head_len : length (head_spelling commit) ≡ 20
  head_len =
      let l = eight commit.last in
      let t = four commit.table in
      omega (arith, eight_len commit.plan, eight_len commit.last, four_len commit.table, length-append (eight commit.plan) (l ++ t), length-append l t)

  pub commit_len : length (commit_payload commit) ≡ 21 + (length row_bytes + (length position_bytes + length record_bytes)) + length behind
  commit_len =
      let updates = updates_spelling commit in
      omega (
        arith,
        head_len,
        length-append (head_spelling commit) (updates ++ behind),
        length-append updates behind,
        length-append row_bytes (position_bytes ++ record_bytes),
        length-append position_bytes record_bytes,
      )

-- ---- the slots of its row

slots_spelled : (commit : Commit) → HasCommit commit → (o : Option RowChange) → IsOption HasRowChange o → IfSome (option_map (slots_for commit) o) HasRowSpelling
slots_spelled commit h None is = tt
slots_spelled commit h (Some change) is = record {
  table = record { least = h.table.least; most = h.table.most };
  row = is.0;
  last = h.last;
  slots = is.1;
}

pub row_spelled : (commit : Commit) → HasCommit commit → IfSome (row_behind commit) HasRowSpelling
row_spelled commit h = slots_spelled commit h commit.row h.row

slots_short : (commit : Commit) (o : Option RowChange) → IsOption HasRowChange o → bytes_of_row (option_map (slots_for commit) o) ≤ 13 + length (option_spelling row_change_spelling o)
slots_short commit None is = omega arith
slots_short commit (Some change) is =
    let row = slots_for commit change in
    omega (arith, row_len row, is.0, length-append change.row (slots_spelling change.slots))

pub row_short : (commit : Commit) → HasCommit commit → length (commit_payload commit) ≤ payload_most → bytes_of_row (row_behind commit) ≤ payload_most
row_short commit h short = omega (arith, slots_short commit commit.row h.row, commit_len commit, short)

-- ---- the record of its table

old_position : (old : Option TableRecord) → IfSome old HasRecordSpelling → position_in old < 2 ^ 64
old_position None is = omega arith
old_position (Some old) is = is.position

new_position : (position : Option ℕ) (old : Option TableRecord) → IsOption IsPosition position → IfSome old HasRecordSpelling → position_from position old < 2 ^ 64
new_position None old is spelled = old_position old spelled
new_position (Some position) old is spelled = is

made_spelled : (table : ℕ) (change : Option RecordChange) (position : Option ℕ) (old : Option TableRecord) → IsTable table → IsOption HasRecordChange change → IsOption IsPosition position → IfSome old HasRecordSpelling
    → IfSome (record_from table change position old) HasRecordSpelling
made_spelled table None None old t c p o = tt
made_spelled table None (Some position) None t c p o = tt
made_spelled table None (Some position) (Some old) t c p o = record {
  table = record { least = t.least; most = t.most };
  state = o.state;
  schema = o.schema;
  position = p;
}
made_spelled table (Some change) position old t c p o = record {
  table = record { least = t.least; most = t.most };
  state = record { least = c.0.0; most = c.0.1 };
  schema = c.1;
  position = new_position position old p o;
}

made_short : (table : ℕ) (change : Option RecordChange) (position : Option ℕ) (old : Option TableRecord) → IfSome old (λ table. length (record_payload table) ≤ payload_most)
    → 12 + length (option_spelling record_change_spelling change) ≤ payload_most
    → bytes_of_record (record_from table change position old) ≤ payload_most
made_short table None None old o short = omega arith
made_short table None (Some position) None o short = omega arith
made_short table None (Some position) (Some old) o short =
    let made : TableRecord = record { table = table; state = old.state; schema = old.schema; position = position } in
    omega (arith, record_len made, record_len old, o)
made_short table (Some change) position old o short =
    let made : TableRecord = record { table = table; state = change.state; schema = change.schema; position = position_from position old } in
    omega (arith, record_len made, short, length-append (change.state ∷ []) (schema_spelling change.schema))

pub record_spelled : (commit : Commit) (old : Option TableRecord) → HasCommit commit → IsOld old → IfSome (record_for old commit) HasRecordSpelling
record_spelled commit old h o = made_spelled commit.table commit.new_record commit.position old h.table h.new_record h.position o.spelled

pub record_short : (commit : Commit) (old : Option TableRecord) → length (commit_payload commit) ≤ payload_most → IsOld old → bytes_of_record (record_for old commit) ≤ payload_most
record_short commit old short o = made_short commit.table commit.new_record commit.position old o.short (omega (arith, commit_len commit, short))

pub old_is : (o found : Option TableRecord) → found ≡ o → IfSome found HasRecordSpelling → IfSome found (λ table. length (record_payload table) ≤ payload_most) → IsOld o
old_is o found is spelled short = subst IsOld is (record { spelled = spelled; short = short })
