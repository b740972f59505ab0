-- What a table keeps: its items are numbered, those that are told are its history, and its agenda lands one at most.
use Rattle.std.proofs.Common.{◌≡◌, ◌⊎◌, ℕ, ◌+◌, Bool, false, List, [], ◌∷◌, ◌++◌, length, Option, Some, None}
use Rattle.table_model.specs.declared.entry.Entry.{Entry}
use Rattle.step_tables.specs.Facts.{Fact}
use Rattle.step_tables.specs.Facts as facts
use Rattle.step_tables.specs.Store.{Stored}
use Rattle.step_tables.specs.StoreMoves as store
use Rattle.step_tables.specs.StoreMoves.{StoreDisk, StoreChange, StoreTask, changed}
use Rattle.store_laws.specs.Part.{Counts}
use Rattle.world_tables.specs.World.{Hosted, history_on, tasks_in}
use Rattle.world_tables.specs.Passed.{after_tasks, entries_of}

-- they tell no entry
abbrev pub AreQuiet : List Fact → Type 0
AreQuiet some = (history : List Entry) → history_on history some ≡ history

-- the put of a row lands the pending item, the next, and tells it; no other write does
abbrev pub LandsBy : StoreDisk → StoreChange → List Fact → (Option Stored → Type 0) → Option Stored → Type 0
LandsBy d (store.Put item named old) some rest o =
    (o ≡ Some item) × (d.pending ≡ Some item) × (item.entry.version ≡ length d.items + 1)
    × ((table : ℕ) × (some ≡ facts.Accepted table item.entry ∷ [])) × rest None
LandsBy d store.OpenChunks some rest o = AreQuiet some × rest o
LandsBy d store.OpenRows some rest o = AreQuiet some × rest o
LandsBy d store.OpenLog some rest o = AreQuiet some × rest o
LandsBy d (store.Open item) some rest o = AreQuiet some × rest o
LandsBy d (store.PutChunk name) some rest o = AreQuiet some × rest o
LandsBy d (store.DropChunk name) some rest o = AreQuiet some × rest o
LandsBy d store.Close some rest o = AreQuiet some × rest o
LandsBy d (store.PutBeside put) some rest o = AreQuiet some × rest o

-- these tasks land this item, or none
abbrev pub Lands : StoreDisk → List StoreTask → Option Stored → Type 0
Lands d [] o = o ≡ None
Lands d (task ∷ tasks) o = LandsBy d task.change task.facts (Lands (changed d task.change) tasks) o

-- the last item is pending, and isn't told
pub record IsUntold (h : List Entry) (d : StoreDisk) : Type 0 where
  pub before : List Stored
  pub item : Stored
  pub items : d.items ≡ before ++ item ∷ []
  pub pending : d.pending ≡ Some item
  pub counted : Counts 0 before
  pub next : item.entry.version ≡ length before + 1
  pub told : entries_of before ≡ h

abbrev pub IsAt : List Entry → StoreDisk → Option (List StoreTask) → Type 0
IsAt h d (Some tasks) = (entries_of d.items ≡ h) × ((o : Option Stored) × Lands d tasks o)
IsAt h d None = (entries_of d.items ≡ h) ⊎ IsUntold h d

-- the items behind so many of the writes
abbrev pub behind : StoreDisk → Option (List StoreTask) → ℕ → List Stored
behind d a k = (after_tasks k d (tasks_in a)).items

pub record IsKept (h : List Entry) (d : StoreDisk) (a : Option (List StoreTask)) (made : Bool) : Type 0 where
  pub counted : Counts 0 d.items
  pub at : IsAt h d a
  -- a table that isn't made is down, and has no item
  pub unmade : made ≡ false → (h ≡ []) × (d.items ≡ []) × (a ≡ None)

abbrev pub IsKeptTable : Hosted → Type 0
IsKeptTable x = IsKept x.history x.store.disk x.store.agenda x.made

-- a history, or it with the entry of the item that may land
abbrev pub Near : List Entry → Option Stored → List Entry → Type 0
Near h o es = (es ≡ h) ⊎ ((item : Stored) × (o ≡ Some item) × (es ≡ h ++ item.entry ∷ []))

-- what was told is near a history, and so are the items behind each of the writes
pub record IsWithin (near : List Entry) (o : Option Stored) (h : List Entry) (d : StoreDisk)
    (a : Option (List StoreTask)) : Type 0 where
  pub told : Near near o h
  pub items : (k : ℕ) → Near near o (entries_of (behind d a k))

abbrev pub IsWithinTable : List Entry → Option Stored → Hosted → Type 0
IsWithinTable near o x = IsWithin near o x.history x.store.disk x.store.agenda
