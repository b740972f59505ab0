-- What a scan and the readers of a table's devices promise.
use Rattle.std.specs.Prelude.{◌≡◌, ◌⊎◌, ◌↔◌, ℕ, ◌<◌, List, [], filter, Option, IfErr}
use Rattle.std.specs.Prelude.{Result, IsErrOf, ◌∷◌, ◌++◌}
use Rattle.std.specs.Bool.{MatchBool}
use Rattle.std.specs.Map.{keys_of}
use Rattle.std.specs.BTreeSet.{BTreeSet}
use Rattle.std.specs.List.Sorted.{IsStrictlySortedBy}
use Rattle.disk_trait.specs.Calls.{DiskState}
use Rattle.vault.specs.Standing.{faults, IsDown, IsUp, IsSound, SameFuse}
use Rattle.stab_base.specs.declared.chunk_name.ChunkName.{ChunkName}
use Rattle.row_value.specs.declared.schema.Schema.{Schema}
use Rattle.chunk_store.specs.Standing as chunks
use Rattle.row_store.specs.declared.device.RowDev.{RowDev}
use Rattle.row_store.specs.declared.fault.RowFault.{RowFault}
use Rattle.row_store.specs.declared.fault.RowFault.TheVariants as row_faults
use Rattle.row_store.specs.declared.stored.StoredRow.{StoredRow}
use Rattle.row_store.specs.Data.{TableData, id_cmp}
use Rattle.row_store.specs.Standing as rows
use Rattle.status_log.specs.Standing as logs
use Rattle.store_commit.specs.declared.devs.TableDevs.{TableDevs}
use Rattle.store_commit.specs.declared.there.Found.{Found}
use Rattle.store_commit.specs.declared.fault.CommitFault.{CommitFault}
use Rattle.store_commit.specs.declared.fault.CommitFault.TheVariants.{Disk, Down, Memory}
use Rattle.store_commit.specs.Devs.{Devs}
use Rattle.store_commit.specs.NamedChunks.{is_among, names_of}
use Rattle.store_commit.specs.There.{Chunks, is_not_there, hidden_from, named_from, names_there, HasIds}
use Rattle.store_commit.specs.Agenda.{AreLeftovers}
use Rattle.store_commit.specs.Standing.{devs, writes_of, all_faults, AreUp, IsOneDown, AreSound, DevsLeave}
use Rattle.store_commit.specs.TakesOn.{IsNotDisk, AllLeave}
use Rattle.store_commit.specs.Unset.{KeepsUnset}
use Rattle.store_commit.specs.Update.{HasNames}

-- ---- the device of the rows

-- Rows were read: nothing has changed but room that was added and the count of reads; or the disk failed.
pub record ReadsRows {D T : Type 0} (state : D → DiskState) (images : D → ℕ → List ℕ → Type 0) (old new : RowDev D)
    (result : Result T RowFault) : Type 0 where
  pub stays : (IsErrOf result row_faults.Disk → ⊥) → rows.Stays state old new
  pub counted : (IsErrOf result row_faults.Disk → ⊥) → faults state (rows.vault_of new)
      ≡ faults state (rows.vault_of old)
  pub disk : IsErrOf result row_faults.Disk → IsDown (rows.vault_of new)
      × (faults state (rows.vault_of old) < faults state (rows.vault_of new))
  -- a crash at any moment leaves what was held
  pub any_moment : IsSound state (rows.vault_of old)
      → rows.Leaves state images old new (λ here. here ≡ rows.held state old)
  pub only : IfErr result (λ e. (e ≡ row_faults.Disk) ⊎ (e ≡ row_faults.Memory))
  pub fuse : SameFuse state (rows.vault_of old) (rows.vault_of new)

-- A row is noted: that it isn't there, or its names.
pub record NotesRow (chunks : Chunks) (table : Option (Schema × ℕ)) (row : List ℕ) (stored : StoredRow)
    (old new : Found) : Type 0 where
  pub noted : (before : List ChunkName) (ids : List (List ℕ)) → HasNames before old.named → HasIds ids old.hidden
      → MatchBool (is_not_there chunks table before stored)
      (HasNames before new.named × HasIds (ids ++ row ∷ []) new.hidden)
      (HasNames (before ++ names_of stored.content) new.named × HasIds ids new.hidden)

-- what was found of the rows behind the first ones, which are gone through: the names and ids so far, and those to come
pub record IsScanned (chunks : Chunks) (table : Option (Schema × ℕ)) (all rest : List (List ℕ × StoredRow))
    (found : Found) : Type 0 where
  pub before : List ChunkName
  pub ids : List (List ℕ)
  pub named : HasNames before found.named
  pub hidden : HasIds ids found.hidden
  pub all_named : named_from chunks table [] all ≡ named_from chunks table before rest
  pub all_hidden : hidden_from chunks table [] all ≡ ids ++ hidden_from chunks table before rest

-- the ids of the rows that aren't there, and the names of those that are
pub record IsFound (chunks : Chunks) (held : TableData) (found : Found) : Type 0 where
  pub named : HasNames (named_from chunks held.table [] held.rows) found.named
  pub hidden : HasIds (hidden_from chunks held.table [] held.rows) found.hidden
  pub rising : IsStrictlySortedBy id_cmp (keys_of held.rows)

-- ---- the three devices

-- nothing has changed but room that was added, and the count of reads
pub record AllStay {D : Type 0} (state : D → DiskState) (old new : TableDevs D) : Type 0 where
  pub chunks : chunks.Stays state old.chunks new.chunks
  pub rows : rows.Stays state old.rows new.rows
  pub log : logs.Stays state old.log new.log

-- A call that writes nothing: the devices stay, or a disk failed and its device is down. Each refusal has its cause.
pub record Asks {D T : Type 0} (state : D → DiskState) (images : D → ℕ → List ℕ → Type 0) (old new : TableDevs D)
    (result : Result T CommitFault) : Type 0 where
  pub stay : IsNotDisk result → AllStay state old new
  pub same : IsNotDisk result → devs state new ≡ devs state old
  pub counted : IsNotDisk result → all_faults state new ≡ all_faults state old
  pub disk : IsErrOf result Disk → (all_faults state old < all_faults state new) × IsOneDown new
  pub down : IsErrOf result Down ↔ IsOneDown old
  pub unchanged : IsErrOf result Down → new ≡ old
  pub only : IfErr result (λ e. (e ≡ Disk) ⊎ ((e ≡ Down) ⊎ (e ≡ Memory)))
  -- a crash at any moment leaves what was held
  pub any_moment : AreUp old → AreSound state old → DevsLeave state images old new (λ d. d ≡ devs state old)
  pub agenda : writes_of new ≡ writes_of old
  pub leave : AreUp old → AreSound state old → AllLeave state images old new
  pub fuse : KeepsUnset state old new

-- These names are what is left of the open entry and still there, and what a row that is there names.
abbrev pub AreSpared : Devs → BTreeSet ChunkName → Type 0
AreSpared d spared = (names : List ChunkName) × AreLeftovers d names
    × HasNames (filter (λ name. is_among name (names_there d)) names) spared
