-- A plan that is worked out, and the room that its writes need.
use Rattle.std.specs.Prelude.{ℕ, ◌+◌, ◌≤◌, length, Option, Some, None, IfSome}
use Rattle.std.specs.List.{AllByRecursion}
use Rattle.vault.specs.Limit.{payload_most}
use Rattle.slot_store.specs.declared.held.RowSlots.{RowSlots}
use Rattle.slot_store.specs.declared.held.TableRecord.{TableRecord}
use Rattle.slot_store.specs.Spelling.{HasRowSpelling, row_payload, HasRecordSpelling, record_payload}
use Rattle.plan_log.specs.Spelling.{HasCommit, commit_payload}
use Rattle.client_journal.specs.declared.made.Made.{Made}
use Rattle.client_journal.specs.Plan.{chunk_most, changes_most}

abbrev pub bytes_of_row : Option RowSlots → ℕ
bytes_of_row None = 0
bytes_of_row (Some row) = length (row_payload row)

abbrev pub bytes_of_record : Option TableRecord → ℕ
bytes_of_record None = 0
bytes_of_record (Some table) = length (record_payload table)

-- the record that a table has has a spelling, and a short one
pub record IsOld (old : Option TableRecord) : Type 0 where
  pub spelled : IfSome old HasRecordSpelling
  pub short : IfSome old (λ table. length (record_payload table) ≤ payload_most)

pub record IsMade (made : Made) : Type 0 where
  pub spelled : HasCommit made.commit
  pub short : length (commit_payload made.commit) ≤ payload_most
  pub row : IfSome made.row HasRowSpelling
  pub row_short : bytes_of_row made.row ≤ payload_most
  pub table : IfSome made.table HasRecordSpelling
  pub table_short : bytes_of_record made.table ≤ payload_most
  pub chunks : AllByRecursion (λ bytes. length bytes ≤ chunk_most) made.brought.items
  pub few : length made.brought.items + length made.commit.drops ≤ changes_most
