use Rattle.slot_store.proofs.Few.{none_held, passed_over, one_row, one_table, row_twice, table_twice}
use Rattle.slot_store.proofs.laws.data_follows_its_payloads.Goals as goal

pub returns-clause-nothing : goal.returns-clause-nothing
returns-clause-nothing c = none_held

pub returns-clause-passed_over : goal.returns-clause-passed_over
returns-clause-passed_over c = passed_over

pub returns-clause-row : goal.returns-clause-row
returns-clause-row c = one_row

pub returns-clause-table : goal.returns-clause-table
returns-clause-table c = one_table

pub returns-clause-row_again : goal.returns-clause-row_again
returns-clause-row_again c = row_twice

pub returns-clause-table_again : goal.returns-clause-table_again
returns-clause-table_again c = table_twice
