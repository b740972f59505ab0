-- What a list of payloads says of a table.
use Rattle.std.specs.Prelude.{◌≡◌, ◌⊎◌, ℕ, ◌<◌, ◌≤◌, List, [], map, Option, Some, None, option_map, unwrap_or, fold}
use Rattle.std.specs.declared.cmp.Ordering.{Ordering}
use Rattle.std.specs.Ordering.{nat_cmp, ordering_then}
use Rattle.std.specs.Cmp.Lexicographic.{slice_cmp}
use Rattle.std.specs.BTreeMap.{insert_entry, is_at}
use Rattle.std.specs.Map.{lookup}
use Rattle.std.specs.List.{Contains}
use Rattle.std.specs.List.Sorted.{IsStrictlySortedBy}
use Rattle.spare_map.specs.Late.{changed}
use Rattle.row_value.specs.declared.schema.Schema.{Schema}
use Rattle.row_store.specs.declared.stored.StoredRow.{StoredRow}
use Rattle.stab_base.specs.declared.row_version.RowVersion.{RowVersion}
use Rattle.row_store.specs.declared.stored.Sub.{Sub}
use Rattle.row_store.specs.declared.stored.Terms.{Terms}
use Rattle.row_store.specs.Reading.{Said, SaysRow, SaysTable, SaysSub, SaysNothing, said_by}

-- ids by their bytes
abbrev pub id_cmp : List ℕ → List ℕ → Ordering
id_cmp a b = slice_cmp nat_cmp a b

-- rows by version, then by id
abbrev pub version_cmp : RowVersion → RowVersion → Ordering
version_cmp a b = ordering_then (nat_cmp a.version b.version) (id_cmp a.row b.row)

-- each row by its id, the table's schema and state, and each subscription by its client, in rising order
pub record TableData : Type 0 where
  pub rows : List (List ℕ × StoredRow)
  pub table : Option (Schema × ℕ)
  pub subs : List (ℕ × Terms)

abbrev pub nothing_held : TableData
nothing_held = record { rows = []; table = None; subs = [] }

abbrev pub with_row : TableData → StoredRow → TableData
with_row held stored =
    record { rows = insert_entry id_cmp held.rows stored.row stored; table = held.table; subs = held.subs }

abbrev pub with_table : TableData → Schema → ℕ → TableData
with_table held schema state = record { rows = held.rows; table = Some (schema, state); subs = held.subs }

-- a client's subscription, or that it has none
abbrev pub with_sub : TableData → ℕ → Option Terms → TableData
with_sub held client terms =
    record { rows = held.rows; table = held.table; subs = changed nat_cmp held.subs client terms }

abbrev pub step : TableData → Said → TableData
step held (SaysRow stored) = with_row held stored
step held (SaysTable schema state) = with_table held schema state
step held (SaysSub change) = with_sub held change.client change.terms
step held SaysNothing = held

-- The last payload of a row stands, of the table, and of a client.
unfoldable pub data_of : List (List ℕ) → TableData
data_of payloads = fold (λ held payload. step held (said_by payload)) nothing_held payloads

-- ---- what is asked of it

abbrev pub row_of : TableData → List ℕ → Option StoredRow
row_of held row = lookup (is_at (id_cmp row)) held.rows

-- the version of a row, if it is there
abbrev pub version_if : TableData → List ℕ → Option ℕ
version_if held row = option_map (λ stored. stored.version) (row_of held row)

-- 0 where there is no row
abbrev pub version_of : TableData → List ℕ → ℕ
version_of held row = unwrap_or (version_if held row) 0

-- the greatest version of all rows, 0 where there is none
pub record IsTableVersion (held : TableData) (version : ℕ) : Type 0 where
  pub greatest : (row : List ℕ) (other : ℕ) → version_if held row ≡ Some other → other ≤ version
  pub attained : (version ≡ 0) ⊎ ((row : List ℕ) × (version_if held row ≡ Some version))

-- the rows whose version is above the position, each once, by rising version
pub record AreChangedSince (held : TableData) (position : ℕ) (rows : List RowVersion) : Type 0 where
  pub rising : IsStrictlySortedBy version_cmp rows
  pub only : (each : RowVersion) → Contains rows each → (position < each.version)
      × (version_if held each.row ≡ Some each.version)
  pub all : (each : RowVersion) → position < each.version → version_if held each.row ≡ Some each.version
      → Contains rows each

-- the row with the least version above the position, if one is above it
abbrev pub IsNextChanged : TableData → ℕ → Option RowVersion → Type 0
IsNextChanged held position None = (row : List ℕ) (other : ℕ) → version_if held row ≡ Some other → other ≤ position
IsNextChanged held position (Some next) = (position < next.version) × (version_if held next.row ≡ Some next.version)
    × ((row : List ℕ) (other : ℕ) → version_if held row ≡ Some other → position < other → next.version ≤ other)

abbrev pub sub_of : ℕ × Terms → Sub
sub_of entry = record { client = entry.0; gate = entry.1.gate; period = entry.1.period; tolerance = entry.1.tolerance }

abbrev pub subs_of : TableData → List Sub
subs_of held = map sub_of held.subs
