use Rattle.std.proofs.Common.{◌≡◌, Some, None, arith}
use Rattle.std.proofs.lemmas.Bool.Decides.{nat_tests}
use Rattle.client_journal.proofs.Behind.{none_row, other_slots, row_more}
use Rattle.client_journal.proofs.reading.row_in.Goals as goal

pub returns-then-commit-table-clause-others : goal.returns-then-commit-table-clause-others
returns-then-commit-table-clause-others c = λ held id. other_slots c.args.commit.now held c.args.table id (λ its. let same = its.0 in grind (arith, nat_tests, same, c.if-commit-table.true))

pub returns-in-None-clause-others : goal.returns-in-None-clause-others
returns-in-None-clause-others c = λ held id. let is : c.args.commit.now.row ≡ None = cc c.in-None.is in other_slots c.args.commit.now held c.args.table id (λ its. none_row c.args.commit.now.row id its.1 is)

pub returns-in-Some-clause-some : goal.returns-in-Some-clause-some
returns-in-Some-clause-some c = λ held.
    let of : c.args.commit.now.table ≡ c.args.table = grind (arith, nat_tests, c.if-commit-table.false) in
    let is : c.args.commit.now.row ≡ Some c.in-Some.change = cc c.in-Some.is in
    row_more c.args.commit.now held c.args.table c.in-Some.change is of
