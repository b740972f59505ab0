-- The rows of a table that are in conflict.
use Rattle.std.specs.Prelude.{◌≡◌, ℕ, ◌++◌, Bool, List, [], ◌∷◌, Option, Some, None, option_to_list}
use Rattle.std.specs.Prelude.{if◌then◌else◌, length, Result, Ok, Err, IfSome}
use Rattle.std.specs.List.{AllByRecursion}
use Rattle.row_value.specs.declared.fit.FitFault.{FitFault}
use Rattle.conflicts.specs.declared.stored.Stored.{Stored}
use Rattle.table_model.specs.declared.line.RowPair.{RowPair}
use Rattle.held_value.specs.declared.slots.Main.{Main as HeldMain}
use Rattle.held_value.specs.declared.slots.Shadow.{Shadow as HeldShadow}
use Rattle.client_journal.specs.Devs.{ClientDevs}
use Rattle.step_tables.specs.Facts.{Answer}
use Rattle.step_tables.specs.Facts as facts
use Rattle.step_tables.specs.ClientMoves.{TableDisk, ClientDisk, ClientTask, table_at, seen, pairs_of, can_resolve}
use Rattle.client_node.specs.Answers.{held_at}

-- a row in conflict, with the client's write and the version of the Store's row
abbrev pub pair_held : List ℕ → Option HeldMain → Option HeldShadow → Option RowPair
pair_held row None conflict = None
pair_held row (Some main) None = None
pair_held row (Some main) (Some x) = Some (record { row = row; number = main.number; version = x.version })

-- those of these rows that are in conflict
abbrev pub pairs_held : ClientDevs → ℕ → List (List ℕ) → List RowPair
pairs_held d table [] = []
pairs_held d table (row ∷ rows) =
    option_to_list (pair_held row (held_at d table row).main (held_at d table row).conflict) ++ pairs_held d table rows

-- a row that is in no conflict
abbrev pub calm_held : List ℕ → Option HeldShadow → List (List ℕ)
calm_held row None = row ∷ []
calm_held row (Some x) = []

-- none of these rows is in conflict
abbrev pub AreCalm : ClientDevs → ℕ → List (List ℕ) → Type 0
AreCalm d table rows = AllByRecursion (λ row. (held_at d table row).conflict ≡ None) rows

-- what is answered of a table: its rows in conflict, in a phase
abbrev pub listed : Bool → Option TableDisk → Answer
listed is_open None = facts.Refuses facts.NoTable
listed is_open (Some table) =
    if is_open then facts.Pairs (pairs_of table.rows) else facts.Refuses facts.NotInResolution

-- what is answered where they are all to be resolved in one way, with this plan at work: how many there are
abbrev pub counted_if : Bool → ℕ → List ClientTask → TableDisk → Result (Unit {0}) FitFault → Answer
counted_if is_open plan tasks table (Err fault) = facts.Refuses (facts.Unfit fault)
counted_if is_open plan (task ∷ more) table (Ok fits) = facts.Refuses (facts.Busy plan)
counted_if is_open plan [] table (Ok fits) =
    if is_open then facts.Number (length (pairs_of table.rows)) else facts.Refuses facts.NotInResolution

abbrev pub counted : Bool → ℕ → List ClientTask → Stored → Option TableDisk → Answer
counted is_open plan tasks by None = facts.Refuses facts.NoTable
counted is_open plan tasks by (Some table) = counted_if is_open plan tasks table (can_resolve table.schema by)

-- these are the rows of an opened table that are in conflict, by rising id
abbrev pub AreContended : ClientDisk → ℕ → List RowPair → Type 0
AreContended disk table pairs = IfSome (table_at (seen disk) table) (λ opened. pairs ≡ pairs_of opened.rows)
