-- Plans of a row's slots, and what makes them short enough to be taken on.
use Rattle.std.specs.Prelude.{◌≡◌, ℕ, ◌+◌, ◌<◌, ◌≤◌, List, [], length, Some, None}
use Rattle.std.specs.List.{AllByRecursion}
use Rattle.stab_base.specs.declared.limits.TheConstants.{NUMBER_MAX}
use Rattle.vault.specs.Limit.{payload_most}
use Rattle.field_codec.specs.Forms.{IsOption}
use Rattle.held_codec.specs.Spelling.{HasTell}
use Rattle.held_value.specs.declared.local_name.LocalName.{LocalName}
use Rattle.held_value.specs.declared.slots.Slots.{Slots}
use Rattle.held_value.specs.declared.tell.Tell.{Tell}
use Rattle.plan_log.specs.Spelling.{IsPlan as IsPlanNumber, IsTable, IsPosition, HasCommit, commit_payload}
use Rattle.client_journal.specs.declared.plan.Plan.{Plan}
use Rattle.client_journal.specs.Names.{Has, names_in}
use Rattle.client_journal.specs.NamedSlots.{AreDifferent}
use Rattle.client_journal.specs.Plan.{commit_for, changes_most}
use Rattle.held_contents.specs.Holding.{brought_name}

-- a few tells, each with a spelling
pub record AreFewTells (tells : List Tell) : Type 0 where
  pub few : length tells ≤ 3
  pub spelled : AllByRecursion HasTell tells

-- A plan that makes these slots of those before: each brought chunk is named by the slots, and the drops are different
-- names of those before.
pub record IsRowPlan (key : List ℕ) (before behind : Slots) (plan : Plan) : Type 0 where
  pub table : IsTable plan.table
  pub last : plan.last ≤ NUMBER_MAX
  pub id : length key ≡ 16
  pub row : plan.row ≡ Some (record { row = key; slots = behind })
  pub position : IsOption IsPosition plan.position
  pub new_record : plan.new_record ≡ None
  pub brought : (ordinal : ℕ) → ordinal < length plan.brought → Has (names_in behind) (brought_name ordinal)
  pub drops : (name : LocalName) → Has plan.drops name → Has (names_in before) name
  pub different : AreDifferent plan.drops
  pub tells : AreFewTells plan.tells

-- A plan that changes no row, as one of a new position.
pub record IsRowless (plan : Plan) : Type 0 where
  pub table : IsTable plan.table
  pub last : plan.last ≤ NUMBER_MAX
  pub row : plan.row ≡ None
  pub position : IsOption IsPosition plan.position
  pub new_record : plan.new_record ≡ None
  pub brought : plan.brought ≡ []
  pub drops : plan.drops ≡ []
  pub tells : AreFewTells plan.tells

-- Under whichever number its commit has a spelling that is short enough, and it brings and drops few chunks.
pub record IsShort (plan : Plan) : Type 0 where
  pub spelled : (number : ℕ) → IsPlanNumber number → HasCommit (commit_for number plan)
  pub short : (number : ℕ) → IsPlanNumber number → length (commit_payload (commit_for number plan)) ≤ payload_most
  pub few : length plan.brought + length plan.drops ≤ changes_most
