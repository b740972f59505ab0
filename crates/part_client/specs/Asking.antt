-- What a pull of a table asks for.
use Rattle.std.specs.Prelude.{◌≡◌, ℕ, ◌||◌, Bool, false, List, Option, Some, None, is_some}
use Rattle.std.specs.BTreeMap as tree
use Rattle.std.specs.BTreeMap.{is_at}
use Rattle.std.specs.BTreeSet as set
use Rattle.step_tables.specs.Client.{row_cmp}
use Rattle.part_tables.specs.Arriving.{unfinished, asking, torn_rows}
use Rattle.part_tables.specs.Arriving as arrivals
use Rattle.part_client.specs.declared.pulls.Pulling.{Pulling}
use Rattle.part_client.specs.declared.table.TableParts.{TableParts}
use Rattle.part_client.specs.declared.taken.Asks.{Asks}
use Rattle.part_client.specs.Keeping.{KeepsTable}

abbrev pub is_pulled_row : Option Pulling → List ℕ → Bool
is_pulled_row None q = false
is_pulled_row (Some x) q = is_at (row_cmp q) x.came.row.row

-- the rows of a table that wait for fragments
abbrev pub HasUnfinished : TableParts → set.BTreeSet (List ℕ) → Type 0
HasUnfinished it rows =
    (q : List ℕ) → set.contains row_cmp rows q ≡ (is_some (tree.get row_cmp it.rows q) || is_pulled_row it.pull q)

-- as the definition has it
pub record AreAsks (table : ℕ) (a : arrivals.Arriving) (told : Asks) : Type 0 where
  pub tears : told.tears.items ≡ unfinished table a
  pub whole : told.asks.items ≡ torn_rows table (asking table a)

pub record IsAsked (table : ℕ) (a : arrivals.Arriving) (it : TableParts) (told : Asks) : Type 0 where
  pub asks : AreAsks table a told
  pub kept : KeepsTable table (asking table a) it
