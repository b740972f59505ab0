-- What a crash leaves of the disks of rows of a world's tables, and where that stands in the tables' histories.
use Rattle.std.specs.Prelude.{◌≡◌, ◌⊎◌, ℕ, ◌+◌, true, List, [], ◌∷◌, ◌++◌, Option, Some, None, Result, IfOk}
use Rattle.std.specs.Ordering.{nat_cmp}
use Rattle.std.specs.BTreeMap as tree
use Rattle.disk_trait.specs.Calls.{DiskState}
use Rattle.disk_trait.specs.Fuse.{behind, inner_of}
use Rattle.disk_trait.specs.Image.{IsImage}
use Rattle.vault.specs.File.{StandsForOne}
use Rattle.row_value.specs.declared.schema.Schema.{Schema}
use Rattle.row_store.specs.Data.{TableData, data_of}
use Rattle.store_commit.specs.Standing.{RowsLeave}
use Rattle.table_model.specs.declared.entry.Entry.{Entry}
use Rattle.step_tables.specs.Store.{Stored}
use Rattle.step_tables.specs.StoreMoves.{StoreDisk}
use Rattle.device_laws.specs.Stands.{HasRows}
use Rattle.world_tables.specs.World.{Hosted, WorldStep, Lucks, schema_at, hosted_at, tasks_in}
use Rattle.world_tables.specs.World as moves
use Rattle.world_tables.specs.Passed.{after_tasks, entries_of, IsBetween}
use Rattle.store_host.specs.declared.hosted.Hosted.{Hosted as Kept}
use Rattle.node_steps.specs.declared.fault.WorldFault.{WorldFault}
use Rattle.node_steps.specs.declared.told.Told.{Told}
use Rattle.node_steps.specs.declared.world.World.{World}
use Rattle.node_steps.specs.Holds.{first_disk}
use Rattle.node_steps.specs.Calls.{IsDone}

-- ---- rows in a history

-- These are the rows of a disk whose items go on from one history, and are a front of another, or that with one more.
pub record HasRowsBetween (schema : Schema) (before after : List Entry) (held : TableData) : Type 0 where
  pub disk : StoreDisk
  pub rows : HasRows schema held disk
  pub between : IsBetween before after disk.items

-- Of each table that was declared before, and made: at every moment since the old world, whatever a crash leaves of the
-- disk of its rows are rows between the history that it had and the one that it has.
abbrev pub RowsStay : {D : Type 0} → (D → DiskState) → (D → ℕ → List ℕ → Type 0) → (w v : moves.World)
    → (old new : World D) → Type 0
RowsStay {D} state images w v old new = (table : ℕ) (before after : Hosted) (was is : Kept D)
    → hosted_at w table ≡ Some before → before.made ≡ true → hosted_at v table ≡ Some after
    → tree.get nat_cmp old.store.tables table ≡ Some was → tree.get nat_cmp new.store.tables table ≡ Some is
    → RowsLeave (behind state) (λ f. images (inner_of f)) was.node.devs is.node.devs
    (HasRowsBetween was.node.schema before.history after.history)

-- ---- rows of tables, from call to call

-- the rows of a table's disk behind some of its next writes
abbrev pub HasSome : Hosted → Schema → TableData → Type 0
HasSome hosted schema held =
    (k : ℕ) × HasRows schema held (after_tasks k hosted.store.disk (tasks_in hosted.store.agenda))

-- the same of the table of this number
pub record HasSomeAt (w : moves.World) (table : ℕ) (schema : Schema) (held : TableData) : Type 0 where
  pub hosted : Hosted
  pub at : hosted_at w table ≡ Some hosted
  pub some : HasSome hosted schema held

-- Of each table that was declared before: at every moment since the old tables a crash leaves the rows of its disk
-- behind some of the next writes that it had then, or of those that it has in another world.
pub record AreLeftOver {D : Type 0} (state : D → DiskState) (images : D → ℕ → List ℕ → Type 0) (w v : moves.World)
    (old new : tree.BTreeMap ℕ (Kept D)) : Type 0 where
  pub rows : (table : ℕ) (hosted : Hosted) (before after : Kept D) → hosted_at w table ≡ Some hosted
      → hosted.made ≡ true → tree.get nat_cmp old table ≡ Some before → tree.get nat_cmp new table ≡ Some after
      → RowsLeave (behind state) (λ f. images (inner_of f)) before.node.devs after.node.devs
      (λ held. HasSome hosted before.node.schema held ⊎ HasSomeAt v table before.node.schema held)

-- With some lucks what is told is that of the step, and this is what is left of the rows: the other world is the one
-- behind the first part of the step with these lucks.
abbrev pub ComesLeft : {D : Type 0} → (D → DiskState) → (D → ℕ → List ℕ → Type 0) → moves.World
    → (Lucks → WorldStep) → (Lucks → moves.World) → Result Told WorldFault → (old new : World D) → Type 0
ComesLeft state images w f first result old new = IfOk result (λ told. (lucks : Lucks)
    × IsDone state w (f lucks) told new
    × AreLeftOver state images w (first lucks) old.store.tables new.store.tables)

-- ---- rows of disks that went back

-- items that are a table's whole history, or that with one more
abbrev pub IsNear : List Entry → List Stored → Type 0
IsNear history items =
    (entries_of items ≡ history) ⊎ ((entry : Entry) × (entries_of items ≡ history ++ entry ∷ []))

-- the rows of a disk with such items
pub record HasRowsNear (schema : Schema) (history : List Entry) (held : TableData) : Type 0 where
  pub disk : StoreDisk
  pub rows : HasRows schema held disk
  pub near : IsNear history disk.items

-- The disk of a table's rows came back last under its number. Whatever a crash may leave of it are the rows of the
-- table's history, or of that with the update at work.
pub record IsRowsBack {D : Type 0} (state : D → DiskState) (disks : ℕ → Option D) (w : moves.World) (table : ℕ)
    (history : List Entry) : Type 0 where
  pub schema : Schema
  pub declared : schema_at w table ≡ Some schema
  pub disk : D
  pub back : disks (first_disk table + 1) ≡ Some disk
  pub rows : (image : List ℕ) → IsImage (state disk).pending image
      → StandsForOne (λ list. HasRowsNear schema history (data_of list)) image

-- so of each table that is declared and made
abbrev pub AreRowsBack : {D : Type 0} → (D → DiskState) → (ℕ → Option D) → moves.World → Type 0
AreRowsBack state disks w = (table : ℕ) (hosted : Hosted) → hosted_at w table ≡ Some hosted → hosted.made ≡ true
    → IsRowsBack state disks w table hosted.history
