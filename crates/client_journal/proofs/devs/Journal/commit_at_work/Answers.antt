use Rattle.std.proofs.Common.{inl, None, Ok, refl, sym, ap}
use Rattle.std.proofs.lemmas.Result.{err_from_is_err_and}
use Rattle.plan_log.specs.Journal.{AtWork}
use Rattle.client_journal.specs.Asking.{commit_of}
use Rattle.client_journal.proofs.Asking.{reads_none, reads_other, reads_err}
use Rattle.client_journal.proofs.Behind.{no_commit}
use Rattle.client_journal.proofs.Rolling.{some_committed}
use Rattle.client_journal.proofs.devs.Journal.commit_at_work.Goals as goal

pub committed-requires-clause-at_work : goal.committed-requires-clause-at_work
committed-requires-clause-at_work g c = some_committed _ _ (c.in-Some.ensures c.requires.up.journal)

pub returns-in-None-clause-reads : goal.returns-in-None-clause-reads
returns-in-None-clause-reads g c = reads_none g.D.Disk.state g.D.Disk.images g.met.D.Disk.only_now c.args.self.now c.requires.up c.requires.looked (Ok None) (λ is. cc) tt

pub returns-in-None-clause-commit : goal.returns-in-None-clause-commit
returns-in-None-clause-commit g c = sym (no_commit _ (c.in-None.ensures c.requires.up.journal))

pub returns-in-None-clause-once : goal.returns-in-None-clause-once
returns-in-None-clause-once g c = inl refl

pub returns-in_err-commit-in-Some-clause-reads : goal.returns-in_err-commit-in-Some-clause-reads
returns-in_err-commit-in-Some-clause-reads g c =
    let p = err_from_is_err_and c.from_residual.result c.from_residual.ensures.1 in
    rw (p.1, p.2) (reads_err g.D.Disk.state g.D.Disk.images c.args.self.now c.committed.new.self c.in_err-commit-in-Some.field-0.0 c.in_err-commit-in-Some.ensures.reads)

pub returns-in_ok-commit-in-Some-clause-reads : goal.returns-in_ok-commit-in-Some-clause-reads
returns-in_ok-commit-in-Some-clause-reads g c = reads_other g.D.Disk.state g.D.Disk.images c.args.self.now c.committed.new.self c.in_ok-commit-in-Some.commit c.in_ok-commit-in-Some.ensures.reads _ (λ is. cc) tt

pub returns-in_ok-commit-in-Some-clause-commit : goal.returns-in_ok-commit-in-Some-clause-commit
returns-in_ok-commit-in-Some-clause-commit g c = sym (ap (λ (w : AtWork). commit_of w) c.in_ok-commit-in-Some.ensures.commit)
