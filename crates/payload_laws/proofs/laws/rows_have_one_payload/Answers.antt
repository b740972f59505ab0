use Rattle.row_store.proofs.Again.{says_row, says_table, says_sub}
use Rattle.payload_laws.proofs.Rows.{only_row, only_table}
use Rattle.payload_laws.proofs.Subs.{only_sub}
use Rattle.payload_laws.proofs.laws.rows_have_one_payload.Goals as goal

pub returns-clause-row : goal.returns-clause-row
returns-clause-row c = says_row

pub returns-clause-only_row : goal.returns-clause-only_row
returns-clause-only_row c = only_row

pub returns-clause-table : goal.returns-clause-table
returns-clause-table c = says_table

pub returns-clause-only_table : goal.returns-clause-only_table
returns-clause-only_table c = only_table

pub returns-clause-sub : goal.returns-clause-sub
returns-clause-sub c = says_sub

pub returns-clause-only_sub : goal.returns-clause-only_sub
returns-clause-only_sub c = only_sub
