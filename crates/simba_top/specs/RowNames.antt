-- The rows that a script names, table by table.
use Rattle.std.specs.Prelude.{◌≡◌, ℕ, ◌==◌, ◌<◌, ◌≤◌, List, [], ◌∷◌, ◌++◌, length, Option, Some, None, if◌then◌else◌}
use Rattle.std.specs.Borrow.{Bor}
use Rattle.std.specs.Ordering.{nat_cmp}
use Rattle.std.specs.Cmp.Lexicographic.{slice_cmp}
use Rattle.std.specs.BTreeMap as tree
use Rattle.std.specs.BTreeSet.{BTreeSet, insert_key}
use Rattle.table_model.specs.declared.event.Event.{Event}
use Rattle.table_model.specs.declared.event.Event.TheVariants as events
use Rattle.simba_top.specs.declared.row_names.RowNames.{RowNames}
use Rattle.simba_top.specs.declared.row_names.TheConstants.{MOST_ROWS}
use Rattle.simba_top.specs.declared.stop.Stop.{Stop}
use Rattle.simba_top.specs.declared.stop.Stop.TheVariants.{Read, Put, Depot, Memory, BadLine, Limit, Sent}

-- the row that an event names, and its table
abbrev pub row_in : Event → Option (ℕ × List ℕ)
row_in (events.Write client table row content) = Some (table, row)
row_in (events.Edit client table row edit) = Some (table, row)
row_in (events.Show client table row) = Some (table, row)
row_in (events.Sum client table row) = Some (table, row)
row_in (events.Resolve client table row seen choice) = Some (table, row)
row_in (events.StoreShow table row) = Some (table, row)
row_in (events.Store store) = None
row_in (events.Gate gate) = None
row_in (events.Table table schema) = None
row_in (events.Draft table schema) = None
row_in (events.Client client gate tables) = None
row_in (events.Link client up) = None
row_in (events.Create node table) = None
row_in (events.Drop node table) = None
row_in (events.Save store table client terms) = None
row_in (events.Ask client table) = None
row_in (events.Net it) = None
row_in (events.Sync client table) = None
row_in (events.Pull client table) = None
row_in (events.BeginCr client table) = None
row_in (events.Conflicts client table) = None
row_in (events.EndCr client table) = None
row_in (events.ResolveAll client table by) = None
row_in (events.Deliver packet) = None
row_in (events.History table) = None
row_in (events.Chunks table) = None
row_in (events.Hold node) = None
row_in (events.Free node) = None
row_in (events.Work node) = None
row_in (events.WorkAll node) = None
row_in (events.Crash node calls pick) = None
row_in (events.Start node) = None

abbrev pub seen : Option (ℕ × Bor (List ℕ)) → Option (ℕ × List ℕ)
seen None = None
seen (Some p) = Some (p.0, p.1.now)

-- a table's rows, with the row that is named
abbrev pub with_row : Option (ℕ × List ℕ) → ℕ → List (List ℕ) → List (List ℕ)
with_row None table rows = rows
with_row (Some named) table rows = if named.0 == table then insert_key (slice_cmp nat_cmp) rows named.1 else rows

abbrev pub rows_after : ℕ → List (List ℕ) → List Event → List (List ℕ)
rows_after table rows [] = rows
rows_after table rows (event ∷ more) = rows_after table (with_row (row_in event) table rows) more

-- the different rows of a table that a script names, in the order of their ids
abbrev pub rows_named : ℕ → List Event → List (List ℕ)
rows_named table script = rows_after table [] script

-- no table has more of them than a script may name
abbrev pub FewRows : List Event → Type 0
FewRows script = (table : ℕ) → length (rows_named table script) ≤ MOST_ROWS

-- the event names one row too many in its table
abbrev pub NamesTooMany : List Event → Event → Type 0
NamesTooMany script event = (table : ℕ) × (MOST_ROWS < length (rows_named table (script ++ event ∷ [])))

abbrev pub keys_or_none : Option (BTreeSet (List ℕ)) → List (List ℕ)
keys_or_none None = []
keys_or_none (Some rows) = rows.keys

abbrev pub rows_in : RowNames → ℕ → List (List ℕ)
rows_in names table = keys_or_none (tree.get nat_cmp names.tables table)

-- these are the rows that the script names
abbrev pub HasRows : List Event → RowNames → Type 0
HasRows script names = (table : ℕ) → rows_in names table ≡ rows_named table script

abbrev pub IsRowCause : List Event → Event → Stop → Type 0
IsRowCause script event Memory = Unit {0}
IsRowCause script event (Limit limit) = (limit ≡ 9) × NamesTooMany script event
IsRowCause script event Read = ⊥
IsRowCause script event Put = ⊥
IsRowCause script event Depot = ⊥
IsRowCause script event (BadLine fault) = ⊥
IsRowCause script event Sent = ⊥
