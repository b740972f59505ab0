-- What a device of rows keeps in memory: for each row its version and the index of its payload, the rows by version,
-- the last payload of the table, and the subscriptions.
use Rattle.std.specs.Prelude.{◌≡◌, ℕ, ◌*◌, ◌<◌, ◌≤◌, ◌==◌, Bool, true, false, min, is_some, List, [], length}
use Rattle.std.specs.Prelude.{slice_index_or, Option, Some, None, Result, Ok, Err}
use Rattle.std.specs.BTreeMap.{is_at}
use Rattle.std.specs.Map.{lookup}
use Rattle.std.specs.List.{Contains}
use Rattle.std.specs.List.Sorted.{IsStrictlySortedBy}
use Rattle.std.specs.Ordering.{nat_cmp}
use Rattle.std.specs.Vec.{vec_capacity}
use Rattle.vault.specs.Limit.{payload_most}
use Rattle.spare_map.specs.Late.{entries_of, spare_of}
use Rattle.spare_map.specs.Values.{AllValues, with_values}
use Rattle.row_value.specs.declared.schema.Schema.{Schema}
use Rattle.row_value.specs.declared.pieces.PieceContent.TheVariants.{Gone}
use Rattle.row_store.specs.declared.stored.StoredRow.{StoredRow}
use Rattle.stab_base.specs.declared.row_version.RowVersion.{RowVersion}
use Rattle.row_store.specs.declared.memory.RowMemory.{RowMemory}
use Rattle.row_store.specs.declared.memory.Place.{Place}
use Rattle.row_store.specs.declared.change.Change.{Change}
use Rattle.row_store.specs.declared.change.Change.TheVariants as changes
use Rattle.row_store.specs.Reading.{Said, SaysRow, SaysTable, SaysSub, SaysNothing, said_by, row_in, table_in}
use Rattle.row_store.specs.Data.{id_cmp, version_cmp, data_of}

abbrev pub no_row : StoredRow
no_row = record { row = []; version = 0; content = Gone; pairs = [] }

abbrev pub stored_or : Result StoredRow ℕ → StoredRow
stored_or (Ok stored) = stored
stored_or (Err left) = no_row

-- the row in the payload of this place
abbrev pub row_at : List (List ℕ) → Place → StoredRow
row_at payloads place = stored_or (row_in (slice_index_or payloads place.index []))

-- the payload of this place is there, and is a row of its version
pub record IsPlace (payloads : List (List ℕ)) (place : Place) : Type 0 where
  pub within : place.index < length payloads
  pub row : row_in (slice_index_or payloads place.index []) ≡ Ok (row_at payloads place)
  pub version : (row_at payloads place).version ≡ place.version

abbrev pub has_version : Option Place → ℕ → Bool
has_version None version = false
has_version (Some place) version = place.version == version

-- rows by version: these are the rows of the places
pub record AreByVersion (places : List (List ℕ × Place)) (versions : List (RowVersion × Unit {0})) : Type 0 where
  pub same : (each : RowVersion) → is_some (lookup (is_at (version_cmp each)) versions)
      ≡ has_version (lookup (is_at (id_cmp each.row)) places) each.version

-- the rows by version that are above a version, in their order
pub record AreAbove (versions : List (RowVersion × Unit {0})) (version : ℕ) (rows : List RowVersion) : Type 0 where
  pub rising : IsStrictlySortedBy version_cmp rows
  pub only : (each : RowVersion) → Contains rows each → (version < each.version)
      × (is_some (lookup (is_at (version_cmp each)) versions) ≡ true)
  pub all : (each : RowVersion) → version < each.version → is_some (lookup (is_at (version_cmp each)) versions) ≡ true
      → Contains rows each

-- the first of the rows by version that have this version or a greater one; an id has sixteen bytes
abbrev pub IsFirstFrom : List (RowVersion × Unit {0}) → ℕ → Option RowVersion → Type 0
IsFirstFrom versions version None = (each : RowVersion) → length each.row ≡ 16
    → is_some (lookup (is_at (version_cmp each)) versions) ≡ true → each.version < version
IsFirstFrom versions version (Some first) = (version ≤ first.version)
    × (is_some (lookup (is_at (version_cmp first)) versions) ≡ true)
    × ((each : RowVersion) → length each.row ≡ 16 → is_some (lookup (is_at (version_cmp each)) versions) ≡ true
    → version ≤ each.version → first.version ≤ each.version)

-- the table in its last payload
abbrev pub table_or : Result (Schema × ℕ) ℕ → Option (Schema × ℕ)
table_or (Ok table) = Some table
table_or (Err left) = None

pub record Fits (memory : RowMemory) (payloads : List (List ℕ)) : Type 0 where
  pub rows : (data_of payloads).rows ≡ with_values (row_at payloads) (entries_of id_cmp memory.places)
  pub places : AllValues (IsPlace payloads) (entries_of id_cmp memory.places)
  pub versions : AreByVersion (entries_of id_cmp memory.places) (entries_of version_cmp memory.versions)
  pub table : (data_of payloads).table ≡ table_or (table_in memory.table.items)
  pub subs : (data_of payloads).subs ≡ entries_of nat_cmp memory.subs

pub record HasSpare (memory : RowMemory) (payloads bytes : ℕ) : Type 0 where
  pub places : payloads ≤ spare_of memory.places
  -- one change takes the old version out, and one puts the new one in
  pub versions : 2 * payloads ≤ spare_of memory.versions
  pub table : min bytes payload_most ≤ vec_capacity memory.table
  pub subs : payloads ≤ spare_of memory.subs

-- what is to be noted of a payload
abbrev pub shape_of : Said → Change
shape_of (SaysRow stored) = changes.Row (record { version = stored.version; row = stored.row })
shape_of (SaysTable schema state) = changes.Table
shape_of (SaysSub change) = changes.Sub change
shape_of SaysNothing = changes.Nothing

abbrev pub Says : List ℕ → Change → Type 0
Says payload change = change ≡ shape_of (said_by payload)
