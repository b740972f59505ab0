use Rattle.std.proofs.Common.{◌≡◌, true, false, true≢false, ap, arith}
use Rattle.std.specs.Prelude.{is_some}
use Rattle.step_tables.specs.ClientMoves.{Slots}
use Rattle.journal_laws.specs.Worked.{row_id}
use Rattle.journal_laws.proofs.devices_that_do_not_stand.Goals as goal

pub returns-clause-number : goal.returns-clause-number
returns-clause-number k = λ meaning st. let is = st.held.last_is in absurd (omega arith)

pub returns-clause-position : goal.returns-clause-position
returns-clause-position k = λ meaning st. let is = (st.held.records 1).position in absurd (omega arith)

pub returns-clause-no_table : goal.returns-clause-no_table
returns-clause-no_table k = λ meaning st. st.held.records 1

pub returns-clause-written : goal.returns-clause-written
returns-clause-written k = λ meaning st. let e : true ≡ false = ap (λ (slots : Slots). is_some slots.main) (st.held.rows 1 row_id) in absurd (true≢false e)
