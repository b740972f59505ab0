use Rattle.std.proofs.Common.{◌≡◌, Option, Some, None, refl, sym, ◌∙◌, ap, subst}
use Rattle.client_journal.proofs.Scans.{keys_behind, keys_still}
use Rattle.client_journal.proofs.scan.key_put.Goals as goal

pub returns-in-None-clause-none : goal.returns-in-None-clause-none
returns-in-None-clause-none c = λ held. rw c.in-None.is refl

pub returns-in-None-row-clause-none : goal.returns-in-None-row-clause-none
returns-in-None-row-clause-none c = λ held. let is : c.in-Some.commit.row ≡ None = cc c.in-None-row.is in rw c.in-Some.is (keys_still c.in-Some.commit is held)

pub returns-in-Some-row-clause-some : goal.returns-in-Some-row-clause-some
returns-in-Some-row-clause-some c = λ held. let is : c.in-Some.commit.row ≡ Some c.in-Some-row.change = cc c.in-Some-row.is in rw c.in-Some.is (keys_behind c.in-Some.commit c.in-Some-row.change is held)
