use Rattle.std.proofs.Common.{sym, subst}
use Rattle.store_commit.specs.There.{WholeRows}
use Rattle.store_commit.specs.Agenda.{row_is_to_come}
use Rattle.store_commit.proofs.Wholes.{moment_whole}
use Rattle.store_commit.proofs.laws.rows_stay_whole.Goals as goal

pub returns-clause-update : goal.returns-clause-update
returns-clause-update c meaning before stored ws d moment may = moment_whole meaning before stored (row_is_to_come ws) d.held moment.rows may

pub returns-clause-recovery : goal.returns-clause-recovery
returns-clause-recovery c meaning before ws d moment whole = subst (WholeRows meaning) (sym moment.rows) whole
