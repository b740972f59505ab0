use Rattle.slot_store.proofs.Few.{row_put, other_row, table_put, other_table}
use Rattle.slot_store.proofs.laws.puts_change_one_value.Goals as goal

pub returns-clause-row : goal.returns-clause-row
returns-clause-row c = row_put

pub returns-clause-other_row : goal.returns-clause-other_row
returns-clause-other_row c = other_row

pub returns-clause-table : goal.returns-clause-table
returns-clause-table c = table_put

pub returns-clause-other_table : goal.returns-clause-other_table
returns-clause-other_table c = other_table
