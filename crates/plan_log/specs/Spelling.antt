-- Which intends, commits and ends of plans have a payload, and the one payload of each.
use Rattle.std.specs.Prelude.{◌≡◌, ℕ, ◌<◌, ◌≤◌, ◌^◌, List, [], ◌∷◌, ◌++◌, length}
use Rattle.stab_base.specs.declared.limits.TheConstants.{NUMBER_MAX}
use Rattle.value_codec.specs.Spelling.{flag_spelling, list_spelling}
use Rattle.value_codec.specs.SchemaSpelling.{HasSchemaSpelling, schema_spelling}
use Rattle.field_codec.specs.Forms.{four, eight, IsOption, option_spelling, AreEach}
use Rattle.held_codec.specs.Spelling.{local_spelling, HasLocalSpelling, slots_spelling, HasSlots, tell_spelling}
use Rattle.held_codec.specs.Spelling.{HasTell}
use Rattle.plan_log.specs.declared.plan.Intend.{Intend}
use Rattle.plan_log.specs.declared.plan.RowChange.{RowChange}
use Rattle.plan_log.specs.declared.plan.RecordChange.{RecordChange}
use Rattle.plan_log.specs.declared.plan.Commit.{Commit}

-- the number of a plan
pub record IsPlan (plan : ℕ) : Type 0 where
  pub least : 1 ≤ plan
  pub most : plan ≤ NUMBER_MAX

-- the greatest number of a table
abbrev pub tables_most : ℕ
tables_most = 64

pub record IsTable (table : ℕ) : Type 0 where
  pub least : 1 ≤ table
  pub most : table ≤ tables_most

-- ---- intends

abbrev pub intend_spelling : Intend → List ℕ
intend_spelling intend =
    eight intend.plan ++ (four intend.table ++ (intend.row ++ (flag_spelling intend.server ++ four intend.chunks)))

pub record HasIntend (intend : Intend) : Type 0 where
  pub plan : IsPlan intend.plan
  pub table : IsTable intend.table
  pub row : length intend.row ≡ 16
  pub chunks : intend.chunks < 2 ^ 32

-- an intend is 1 and its spelling
abbrev pub intend_payload : Intend → List ℕ
intend_payload intend = 1 ∷ intend_spelling intend

-- ---- commits

abbrev pub row_change_spelling : RowChange → List ℕ
row_change_spelling change = change.row ++ slots_spelling change.slots

abbrev pub HasRowChange : RowChange → Type 0
HasRowChange change = (length change.row ≡ 16) × HasSlots change.slots

-- 1 opened, 2 closed
abbrev pub IsState : ℕ → Type 0
IsState state = (1 ≤ state) × (state ≤ 2)

abbrev pub record_change_spelling : RecordChange → List ℕ
record_change_spelling change = (change.state ∷ []) ++ schema_spelling change.schema

abbrev pub HasRecordChange : RecordChange → Type 0
HasRecordChange change = IsState change.state × HasSchemaSpelling change.schema

abbrev pub IsPosition : ℕ → Type 0
IsPosition position = position < 2 ^ 64

-- which plan it is, and where it is made
abbrev pub head_spelling : Commit → List ℕ
head_spelling commit = eight commit.plan ++ (eight commit.last ++ four commit.table)

-- what it changes
abbrev pub updates_spelling : Commit → List ℕ
updates_spelling commit =
    option_spelling row_change_spelling commit.row ++ (option_spelling eight commit.position
    ++ option_spelling record_change_spelling commit.new_record)

-- what it drops and tells
abbrev pub commit_spelling : Commit → List ℕ
commit_spelling commit =
    head_spelling commit ++ (updates_spelling commit ++ (list_spelling local_spelling commit.drops
    ++ list_spelling tell_spelling commit.tells))

pub record HasCommit (commit : Commit) : Type 0 where
  pub plan : IsPlan commit.plan
  pub last : commit.last ≤ NUMBER_MAX
  pub table : IsTable commit.table
  pub row : IsOption HasRowChange commit.row
  pub position : IsOption IsPosition commit.position
  pub new_record : IsOption HasRecordChange commit.new_record
  pub drops : AreEach HasLocalSpelling commit.drops
  pub tells : AreEach HasTell commit.tells

-- a commit is 2 and its spelling
abbrev pub commit_payload : Commit → List ℕ
commit_payload commit = 2 ∷ commit_spelling commit

-- ---- ends

-- the end of a plan is 3 and the number of the plan
abbrev pub done_payload : ℕ → List ℕ
done_payload plan = 3 ∷ eight plan
