use Rattle.slot_store.proofs.Again.{says_row, says_table, only_row, only_table}
use Rattle.slot_store.proofs.laws.slots_have_one_payload.Goals as goal

pub returns-clause-row : goal.returns-clause-row
returns-clause-row c = says_row

pub returns-clause-only_row : goal.returns-clause-only_row
returns-clause-only_row c = only_row

pub returns-clause-table : goal.returns-clause-table
returns-clause-table c = says_table

pub returns-clause-only_table : goal.returns-clause-only_table
returns-clause-only_table c = only_table
