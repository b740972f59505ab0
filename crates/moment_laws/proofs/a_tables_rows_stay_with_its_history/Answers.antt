use Rattle.moment_laws.proofs.Stays.{rows_stay_before, rows_stay_between}
use Rattle.moment_laws.proofs.a_tables_rows_stay_with_its_history.Goals as goal

pub returns-clause-before : goal.returns-clause-before
returns-clause-before c = λ run event lucks table k before after. rows_stay_before run event lucks table k before after

pub returns-clause-between : goal.returns-clause-between
returns-clause-between c = λ run event lucks table k before middle after. rows_stay_between run event lucks table k before middle after
