-- What the program keeps, table by table.
use Rattle.std.specs.Prelude.{◌≡◌, ◌⊎◌, ℕ, false, List, [], filter, Option, Some, None, option_map, option_to_list}
use Rattle.std.specs.List.{find, list_any}
use Rattle.std.specs.Ordering.{nat_cmp}
use Rattle.std.specs.BTreeMap as tree
use Rattle.std.specs.BTreeSet as set
use Rattle.step_tables.specs.Client.{row_cmp}
use Rattle.step_tables.specs.Travels.{message_of}
use Rattle.part_tables.specs.ClientParts.{Answering, is_of_table}
use Rattle.part_tables.specs.ClientParts as at_client
use Rattle.part_tables.specs.Arriving.{WholeRow, Arrived, same_torn, is_of_row}
use Rattle.part_tables.specs.Arriving as arrivals
use Rattle.part_client.specs.declared.arriving.Arriving.{Arriving}
use Rattle.part_client.specs.declared.pulls.Pulling.{Pulling}
use Rattle.part_client.specs.declared.rows.TornRow.{TornRow}
use Rattle.part_client.specs.declared.taken.Taken.{Taken}
use Rattle.part_client.specs.declared.taken.Taken.TheVariants as takens
use Rattle.part_client.specs.declared.table.TableParts.{TableParts}
use Rattle.part_tables.specs.Parts.{Part}
use Rattle.part_client.specs.Weighing.{answering_of, whole_of}
use Rattle.part_client.specs.Calls.{let_go}

-- ---- of a table: the answer to a pull that waits, the rows that were asked for whole, and those that are torn

abbrev pub KeepsPull : ℕ → List Answering → Option Pulling → Type 0
KeepsPull table pulls pull = filter (is_of_table table) pulls ≡ option_to_list (option_map answering_of pull)

abbrev pub KeepsRows : ℕ → List WholeRow → tree.BTreeMap (List ℕ) TornRow → Type 0
KeepsRows table rows held =
    (row : List ℕ) → find (is_of_row table row) rows ≡ option_map whole_of (tree.get row_cmp held row)

abbrev pub KeepsTorn : ℕ → List (ℕ × List ℕ) → set.BTreeSet (List ℕ) → Type 0
KeepsTorn table torn held = (row : List ℕ) → list_any (same_torn table row) torn ≡ set.contains row_cmp held row

pub record KeepsTable (table : ℕ) (a : arrivals.Arriving) (it : TableParts) : Type 0 where
  pub pull : KeepsPull table a.pulls it.pull
  pub rows : KeepsRows table a.rows it.rows
  pub torn : KeepsTorn table a.torn it.torn

-- nothing is kept of the table
pub record HasNothing (table : ℕ) (a : arrivals.Arriving) : Type 0 where
  pub pull : filter (is_of_table table) a.pulls ≡ []
  pub rows : (row : List ℕ) → find (is_of_row table row) a.rows ≡ None
  pub torn : (row : List ℕ) → list_any (same_torn table row) a.torn ≡ false

abbrev pub KeepsIn : ℕ → arrivals.Arriving → Option TableParts → Type 0
KeepsIn table a None = HasNothing table a
KeepsIn table a (Some it) = KeepsTable table a it

-- ---- of all tables

pub record Keeps (it : Arriving) (a : arrivals.Arriving) : Type 0 where
  pub tables : (table : ℕ) → KeepsIn table a (tree.get nat_cmp it.tables table)

-- ---- what a part came to

abbrev pub taken_of : Taken → at_client.Taken
taken_of (takens.Whole message) = at_client.Whole (message_of message)
taken_of (takens.Tears row) = at_client.Tears row
taken_of takens.Waits = at_client.Waits

pub record IsTakenAt (table : ℕ) (x : Arrived) (it : TableParts) (told : Taken) : Type 0 where
  pub taken : taken_of told ≡ x.taken
  pub kept : KeepsTable table x.arriving it

pub record IsTaken (x : Arrived) (it : Arriving) (told : Taken) : Type 0 where
  pub taken : taken_of told ≡ x.taken
  pub kept : Keeps it x.arriving

-- ---- what is left where memory is refused: all of it, or all but what a fragment would have completed

abbrev pub IsLeft : ℕ → arrivals.Arriving → Part → TableParts → Type 0
IsLeft table a part it = KeepsTable table a it ⊎ KeepsTable table (let_go a part) it

abbrev pub IsKept : arrivals.Arriving → Part → Arriving → Type 0
IsKept a part it = Keeps it a ⊎ Keeps it (let_go a part)
