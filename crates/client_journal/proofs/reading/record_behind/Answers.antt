use Rattle.std.proofs.Common.{sym, ◌∙◌}
use Rattle.client_journal.proofs.Behind.{its_records, no_record}
use Rattle.client_journal.proofs.reading.record_behind.Goals as goal

pub returns-then-is_still : goal.returns-then-is_still
returns-then-is_still c = λ held is. no_record c.args.commit.now held c.args.old is (sym c.is_still.ensures ∙ c.if-is_still.true)

pub returns : goal.returns
returns c = its_records c.args.commit.now c.args.old c.record_from.result (sym c.is_still.ensures ∙ c.if-is_still.false) c.record_from.ensures
