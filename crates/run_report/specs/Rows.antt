-- What is told of a table by its history, which is the list of its entries in their order.
use Rattle.std.specs.Prelude.{ℕ, List, [], ◌∷◌, ◌-◌, length, filter, not, slice_get}
use Rattle.row_value.specs.declared.schema.Scheme.{Scheme}
use Rattle.table_model.specs.History.{same_row, version_of}
use Rattle.table_model.specs.declared.entry.Entry.{Entry}
use Rattle.run_report.specs.declared.table.TableReport.{TableReport}

-- each row once, in the order of their first entries
abbrev pub rows_in : List Entry → List (List ℕ)
rows_in [] = []
rows_in (entry ∷ later) = entry.row ∷ filter (λ row. not (same_row entry.row row)) (rows_in later)

-- the version of the last entry, 0 where there is none
abbrev pub last_version : List Entry → ℕ
last_version history = version_of (slice_get history (length history - 1))

abbrev pub table_report : ℕ → List ℕ → Scheme → List Entry → TableReport
table_report table name scheme history = record {
  table = table;
  name = name;
  scheme = scheme;
  rows = length (rows_in history);
  version = last_version history;
}
