-- The writes of a plan and of a recovery, in their order, and what holds at every moment of them.
use Rattle.std.specs.Prelude.{◌≡◌, ◌⊎◌, ℕ, ◌+◌, ◌<◌, ◌==◌, Bool, true, false, if◌then◌else◌, List, [], ◌∷◌}
use Rattle.std.specs.Prelude.{◌++◌, length, Option, Some, None, IsSome, slice_index_or}
use Rattle.held_value.specs.declared.local_name.LocalName.{LocalName}
use Rattle.slot_store.specs.declared.held.RowSlots.{RowSlots}
use Rattle.slot_store.specs.declared.held.TableRecord.{TableRecord}
use Rattle.slot_store.specs.Data.{SlotData, record_of}
use Rattle.plan_log.specs.declared.plan.Intend.{Intend}
use Rattle.plan_log.specs.declared.plan.Commit.{Commit}
use Rattle.plan_log.specs.Journal.{AtWork, Idle, Intended, Committed}
use Rattle.client_journal.specs.Names.{Has}
use Rattle.client_journal.specs.Devs.{ClientDevs, local_in, changed_by, Write, OpenJournal, OpenSlots, OpenChunks}
use Rattle.client_journal.specs.Devs.{PutIntend, PutChunk, PutCommit, PutSlots, PutRecord, DropChunk, PutDone}
use Rattle.client_journal.specs.Redone.{row_behind, record_for, applied, redone}
use Rattle.client_journal.specs.NamedSlots.{AreDifferent, IsNewOf, IsLeft, NamedSlots, IsAtRest, names_before}
use Rattle.client_journal.specs.NamedSlots.{names_behind}

-- ---- the writes

abbrev pub fresh_name : ℕ → ℕ → LocalName
fresh_name plan ordinal = record { plan = plan; ordinal = ordinal }

-- each brought chunk under its name, from this ordinal on
abbrev pub puts : ℕ → ℕ → List (List ℕ) → List Write
puts plan ordinal [] = []
puts plan ordinal (bytes ∷ brought) = PutChunk (fresh_name plan ordinal) bytes ∷ puts plan (ordinal + 1) brought

abbrev pub drops : List LocalName → List Write
drops [] = []
drops (name ∷ names) = DropChunk name ∷ drops names

abbrev pub slot_writes : Option RowSlots → List Write → List Write
slot_writes None rest = rest
slot_writes (Some row) rest = PutSlots row ∷ rest

abbrev pub record_writes : Option TableRecord → List Write → List Write
record_writes None rest = rest
record_writes (Some table) rest = PutRecord table ∷ rest

-- Behind a commit: the slots of its row and the record of its table are put, these names are dropped, and it is done.
abbrev pub redo_writes : SlotData → Commit → List LocalName → List Write
redo_writes held commit names =
    slot_writes (row_behind commit)
    (record_writes (record_for (record_of held commit.table) commit) (drops names ++ PutDone ∷ []))

-- an intend where chunks are brought, and then each of them
abbrev pub bring_writes : Intend → List (List ℕ) → List Write → List Write
bring_writes intend [] rest = rest
bring_writes intend (bytes ∷ brought) rest = PutIntend intend ∷ (puts intend.plan 0 (bytes ∷ brought) ++ rest)

abbrev pub plan_writes : SlotData → Intend → List (List ℕ) → Commit → List Write
plan_writes held intend brought commit =
    bring_writes intend brought (PutCommit commit ∷ redo_writes held commit commit.drops)

abbrev pub rest_writes : AtWork → SlotData → List LocalName → List Write
rest_writes Idle held names = []
rest_writes (Intended intend) held names = drops names
rest_writes (Committed commit) held names = redo_writes held commit names

-- Opens the three vaults; of an intend drops these names, and redoes a commit.
abbrev pub recovery_writes : ClientDevs → List LocalName → List Write
recovery_writes d names =
    OpenJournal ∷ OpenSlots ∷ OpenChunks ∷ rest_writes d.journal.at_work d.held names

-- ---- what is known of them

-- This commit, with these chunks, may be made behind this intend.
pub record Commits (d : ClientDevs) (intend : Intend) (brought : List (List ℕ)) (commit : Commit) : Type 0 where
  pub plan : intend.plan ≡ commit.plan
  pub count : intend.chunks ≡ length brought
  pub newest : d.journal.greatest < commit.plan
  -- each name in the new slots is of the row's slots, or of a brought chunk, and each brought chunk's is among them
  pub kept_or_new : (name : LocalName) → Has (names_behind commit.row) name
      → Has (names_before d.held commit.table commit.row) name ⊎ IsNewOf commit.plan (length brought) name
  pub all_new : (name : LocalName) → IsNewOf commit.plan (length brought) name → Has (names_behind commit.row) name
  -- the drops are the names in the row's slots which the new ones don't name
  pub dropped : (name : LocalName) → Has commit.drops name
      → Has (names_before d.held commit.table commit.row) name × (Has (names_behind commit.row) name → ⊥)
  pub all_dropped : (name : LocalName) → Has (names_before d.held commit.table commit.row) name
      → (Has (names_behind commit.row) name → ⊥) → Has commit.drops name

-- what names stand for once the brought chunks have theirs
abbrev pub meaning_with : (LocalName → List ℕ) → ℕ → List (List ℕ) → LocalName → List ℕ
meaning_with meaning plan brought name =
    if name.plan == plan then slice_index_or brought name.ordinal [] else meaning name

-- These names are those of the chunks that are left over of what is at work, each once.
pub record AreLeftovers (d : ClientDevs) (names : List LocalName) : Type 0 where
  pub left : (name : LocalName) → Has names name → IsLeft d.journal.at_work name
  pub all : (name : LocalName) (bytes : List ℕ) → IsLeft d.journal.at_work name
      → local_in d.chunks name ≡ Some bytes → Has names name
  pub different : AreDifferent names
  pub there : (name : LocalName) → Has names name → IsSome (local_in d.chunks name)

-- ---- what holds at every moment

-- the commit is still to come
abbrev pub commit_is_to_come : List Write → Bool
commit_is_to_come [] = false
commit_is_to_come (PutCommit commit ∷ ws) = true
commit_is_to_come (_ ∷ ws) = commit_is_to_come ws

-- While these writes are still to come: named slots, and what the devices stand for is what it was before the plan
-- until its commit was put, and what the plan makes of it from then on.
pub record IsMoment (meaning : LocalName → List ℕ) (before : SlotData) (commit : Commit) (ws : List Write)
    (d : ClientDevs) : Type 0 where
  pub named : NamedSlots meaning d
  pub held : redone d ≡ (if commit_is_to_come ws then before else applied commit before)
  -- behind the last of them nothing is at work
  pub rests : ws ≡ [] → IsAtRest d

-- While a recovery's writes are still to come: named slots, and what the devices stood for at its start.
pub record IsRedoing (meaning : LocalName → List ℕ) (before : SlotData) (ws : List Write) (d : ClientDevs)
    : Type 0 where
  pub named : NamedSlots meaning d
  pub held : redone d ≡ before
  -- behind the last of them nothing is at work
  pub rests : ws ≡ [] → IsAtRest d

-- it holds now, and behind each of the writes
abbrev pub Runs : (List Write → ClientDevs → Type 0) → ClientDevs → List Write → Type 0
Runs R d [] = R [] d
Runs R d (w ∷ ws) = R (w ∷ ws) d × Runs R (changed_by d w) ws
