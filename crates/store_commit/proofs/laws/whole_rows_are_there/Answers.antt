use Rattle.store_commit.proofs.Wholes.{whole_shown, whole_spared}
use Rattle.store_commit.proofs.laws.whole_rows_are_there.Goals as goal

pub returns-clause-rows : goal.returns-clause-rows
returns-clause-rows c meaning d n w rising = whole_shown meaning d n w rising

pub returns-clause-names : goal.returns-clause-names
returns-clause-names c meaning d spared n w rising s = whole_spared meaning d n w rising spared s
