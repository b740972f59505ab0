-- Named slots: each name in a slot is a chunk's, and no chunk is there that nothing names.
use Rattle.std.specs.Prelude.{◌≡◌, ◌⊎◌, ℕ, ◌<◌, ◌≤◌, false, List, [], ◌∷◌, Option, Some, None}
use Rattle.held_value.specs.declared.local_name.LocalName.{LocalName}
use Rattle.slot_store.specs.declared.held.RowSlots.{RowSlots}
use Rattle.slot_store.specs.Data.{SlotData, slots_of}
use Rattle.plan_log.specs.declared.plan.RowChange.{RowChange}
use Rattle.plan_log.specs.Journal.{AtWork, Idle, Intended, Committed}
use Rattle.client_journal.specs.Names.{is_among, names_in, Has}
use Rattle.client_journal.specs.Devs.{ClientDevs, local_in}
use Rattle.client_journal.specs.Redone.{redone}

-- each once
abbrev pub AreDifferent : List LocalName → Type 0
AreDifferent [] = Unit {0}
AreDifferent (name ∷ names) = (is_among names name ≡ false) × AreDifferent names

-- the slots of a row name it
pub record IsNamed (held : SlotData) (name : LocalName) : Type 0 where
  pub table : ℕ
  pub row : List ℕ
  pub stored : RowSlots
  pub there : slots_of held table row ≡ Some stored
  pub among : Has (names_in stored.slots) name

-- one of the chunks of a plan that brings so many
pub record IsNewOf (plan count : ℕ) (name : LocalName) : Type 0 where
  pub plan_is : name.plan ≡ plan
  pub ordinal : name.ordinal < count

-- What is left over of what is at work: the chunks that an intend brings, and the drops of a commit.
abbrev pub IsLeft : AtWork → LocalName → Type 0
IsLeft Idle name = ⊥
IsLeft (Intended intend) name = IsNewOf intend.plan intend.chunks name
IsLeft (Committed commit) name = Has commit.drops name

-- `meaning` is the bytes that each name stands for.
pub record NamedSlots (meaning : LocalName → List ℕ) (d : ClientDevs) : Type 0 where
  -- each name in a slot is on the device, with its bytes
  pub there : (name : LocalName) → IsNamed (redone d) name → local_in d.chunks name ≡ Some (meaning name)
  -- no name is in the slots of two rows, and none is of a plan above the greatest
  pub once : (name : LocalName) (a b : IsNamed (redone d) name) → (a.table ≡ b.table) × (a.row ≡ b.row)
  pub below : (name : LocalName) → IsNamed (redone d) name → name.plan ≤ d.journal.greatest
  -- every other chunk is left over of what is at work
  pub others : (name : LocalName) (bytes : List ℕ) → local_in d.chunks name ≡ Some bytes
      → IsNamed (redone d) name ⊎ IsLeft d.journal.at_work name
  -- and what is left over of it is named by no row
  pub apart : (name : LocalName) → IsLeft d.journal.at_work name → IsNamed (redone d) name → ⊥

abbrev pub IsNotCommitted : AtWork → Type 0
IsNotCommitted Idle = Unit {0}
IsNotCommitted (Intended intend) = Unit {0}
IsNotCommitted (Committed commit) = ⊥

-- Nothing is at work: no plan, or one that is intended and has no chunk on the device.
pub record IsAtRest (d : ClientDevs) : Type 0 where
  pub not_committed : IsNotCommitted d.journal.at_work
  pub none_left : (name : LocalName) (bytes : List ℕ) → IsLeft d.journal.at_work name
      → local_in d.chunks name ≡ Some bytes → ⊥

-- ---- what a commit changes

abbrev pub IsRowOf : Option RowChange → List ℕ → Type 0
IsRowOf None row = ⊥
IsRowOf (Some change) row = change.row ≡ row

-- a change of this table's row changes the slots of that one
abbrev pub IsRow : ℕ → Option RowChange → ℕ → List ℕ → Type 0
IsRow table change at row = (table ≡ at) × IsRowOf change row

abbrev pub names_if : Option RowSlots → List LocalName
names_if None = []
names_if (Some stored) = names_in stored.slots

-- the names in the slots that a row had
abbrev pub names_before : SlotData → ℕ → Option RowChange → List LocalName
names_before held table None = []
names_before held table (Some change) = names_if (slots_of held table change.row)

-- and in its new slots
abbrev pub names_behind : Option RowChange → List LocalName
names_behind None = []
names_behind (Some change) = names_in change.slots
