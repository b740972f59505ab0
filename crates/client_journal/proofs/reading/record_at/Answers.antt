use Rattle.std.proofs.Common.{◌∙◌, arith}
use Rattle.std.proofs.lemmas.Bool.Decides.{nat_tests}
use Rattle.client_journal.proofs.Behind.{other_record}
use Rattle.client_journal.proofs.reading.record_at.Goals as goal

pub returns-else-commit-table : goal.returns-else-commit-table
returns-else-commit-table c = λ held is. other_record c.args.commit.now held c.args.table (λ same. grind (arith, nat_tests, same, c.if-commit-table.false)) ∙ is
