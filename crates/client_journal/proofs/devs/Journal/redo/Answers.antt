use Rattle.std.proofs.Common.{map, sym, ◌∙◌, ap, subst}
use Rattle.std.proofs.lemmas.Result.{err_from_is_err_and}
use Rattle.plan_log.specs.Journal.{AtWork}
use Rattle.client_journal.specs.Devs.{ClientDevs}
use Rattle.client_journal.specs.Standing.{write_of}
use Rattle.client_journal.specs.Recover.{AreRecoveryWrites, rolled_of}
use Rattle.client_journal.proofs.Starting.{starts_then, starts_err, starts_other}
use Rattle.client_journal.proofs.devs.Journal.redo.Goals as goal

pub returns-in_err-commit-clause-starts : goal.returns-in_err-commit-clause-starts
returns-in_err-commit-clause-starts g c =
    let p = err_from_is_err_and c.from_residual.result c.from_residual.ensures.1 in
    rw (p.1, p.2) (starts_err g.D.Disk.state g.D.Disk.images c.args.self.now c.read_commit.new.self c.in_err-commit.field-0.0 c.in_err-commit.ensures.starts)

pub returns-in_err-tasks-clause-starts : goal.returns-in_err-tasks-clause-starts
returns-in_err-tasks-clause-starts g c =
    let p = err_from_is_err_and c.from_residual-in_err-tasks.result c.from_residual-in_err-tasks.ensures.1 in
    rw (p.1, p.2) (starts_err g.D.Disk.state g.D.Disk.images c.args.self.now c.redo_tasks.new.self c.in_err-tasks.field-0.0
    (starts_then g.D.Disk.state g.D.Disk.images c.args.self.now c.read_commit.new.self c.redo_tasks.new.self _ (λ is. cc) c.in_ok-commit.ensures.starts _ c.in_err-tasks.ensures.starts))

pub returns-clause-starts : goal.returns-clause-starts
returns-clause-starts g c =
    starts_other g.D.Disk.state g.D.Disk.images c.args.self.now c.redo_tasks.new.self _ (λ is. cc)
    (starts_then g.D.Disk.state g.D.Disk.images c.args.self.now c.read_commit.new.self c.redo_tasks.new.self _ (λ is. cc) c.in_ok-commit.ensures.starts _ c.in_ok-tasks.ensures.starts) _ (λ is. cc) tt

pub returns-clause-answer : goal.returns-clause-answer
returns-clause-answer g c = c.redone_of.ensures ∙ ap (λ (w : AtWork). rolled_of w) (sym c.in_ok-commit.ensures.commit)

pub returns-clause-tasks : goal.returns-clause-tasks
returns-clause-tasks g c =
    subst (λ (d : ClientDevs). AreRecoveryWrites d (map write_of c.in_ok-tasks.tasks.items)) (c.in_ok-commit.ensures.starts.same (λ is. cc)) c.in_ok-tasks.ensures.tasks

pub redo_tasks-requires-clause-starting : goal.redo_tasks-requires-clause-starting
redo_tasks-requires-clause-starting g c = c.in_ok-commit.ensures.starts.starting (λ is. cc)

pub redo_tasks-requires-clause-at_work : goal.redo_tasks-requires-clause-at_work
redo_tasks-requires-clause-at_work g c = ap (λ (d : ClientDevs). d.journal.at_work) (c.in_ok-commit.ensures.starts.same (λ is. cc)) ∙ c.in_ok-commit.ensures.commit
