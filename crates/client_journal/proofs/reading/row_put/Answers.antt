use Rattle.std.proofs.Common.{◌≡◌, Option, Some, None, sym}
use Rattle.plan_log.specs.declared.plan.RowChange.{RowChange}
use Rattle.client_journal.proofs.Behind.{none_row, its_slots, other_slots}
use Rattle.client_journal.proofs.reading.row_put.Goals as goal

pub returns-then-not-is_row-clause-others : goal.returns-then-not-is_row-clause-others
returns-then-not-is_row-clause-others c = λ held. other_slots c.args.commit held c.args.table c.args.row.now c.if-not-is_row.ensures

pub returns-in-None-clause-others : goal.returns-in-None-clause-others
returns-in-None-clause-others c = let is : c.args.commit.row ≡ None = cc c.in-None.is in absurd (none_row c.args.commit.row c.args.row.now c.if-not-is_row.ensures.1 is)

pub returns-clause-its : goal.returns-clause-its
returns-clause-its c = λ held. let is : c.args.commit.row ≡ Some c.in-Some.change = cc c.in-Some.is in its_slots c.args.commit held c.args.table c.args.row.now c.in-Some.change is c.if-not-is_row.ensures
