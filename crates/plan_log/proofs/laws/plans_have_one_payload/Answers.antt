use Rattle.plan_log.proofs.Again.{says_intend, says_commit, says_done, only_intend, only_commit, only_done}
use Rattle.plan_log.proofs.laws.plans_have_one_payload.Goals as goal

pub returns-clause-intend : goal.returns-clause-intend
returns-clause-intend c = says_intend

pub returns-clause-only_intend : goal.returns-clause-only_intend
returns-clause-only_intend c = only_intend

pub returns-clause-commit : goal.returns-clause-commit
returns-clause-commit c = says_commit

pub returns-clause-only_commit : goal.returns-clause-only_commit
returns-clause-only_commit c = only_commit

pub returns-clause-done : goal.returns-clause-done
returns-clause-done c = says_done

pub returns-clause-only_done : goal.returns-clause-only_done
returns-clause-only_done c = only_done
