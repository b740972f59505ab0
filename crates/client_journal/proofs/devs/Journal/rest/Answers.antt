use Rattle.std.proofs.Common.{List, Err, inr, refl, sym, ap, subst}
use Rattle.std.proofs.lemmas.Result.{err_from_is_err_and}
use Rattle.plan_log.specs.Journal.{AtWork}
use Rattle.client_journal.specs.declared.fault.JournalFault.TheVariants.{Memory}
use Rattle.client_journal.specs.Devs.{Write}
use Rattle.client_journal.specs.Standing.{devs, IsReady}
use Rattle.client_journal.specs.Recover.{AreRecoveryWrites, rolled_of}
use Rattle.client_journal.proofs.Starting.{none_starts}
use Rattle.client_journal.proofs.Recovers.{idle_ready}
use Rattle.client_journal.proofs.Rolling.{idle_writes}
use Rattle.client_journal.proofs.devs.Journal.rest.Goals as goal

pub returns-in_err-tasks-clause-starts : goal.returns-in_err-tasks-clause-starts
returns-in_err-tasks-clause-starts g c =
    let p = err_from_is_err_and c.from_residual.result c.from_residual.ensures.1 in
    rw (p.1, p.2) (none_starts g.D.Disk.state g.D.Disk.images g.met.D.Disk.only_now c.args.self.now c.requires.starting (Err Memory) (λ is. cc) (inr refl))

pub returns-clause-starts : goal.returns-clause-starts
returns-clause-starts g c = none_starts g.D.Disk.state g.D.Disk.images g.met.D.Disk.only_now c.args.self.now c.requires.starting _ (λ is. cc) tt

pub returns-clause-answer : goal.returns-clause-answer
returns-clause-answer g c = ap (λ (w : AtWork). rolled_of w) (sym c.requires.at_work)

pub returns-clause-tasks : goal.returns-clause-tasks
returns-clause-tasks g c =
    let d = devs g.D.Disk.state c.args.self.now in
    subst (λ (l : List Write). AreRecoveryWrites d l) (sym c.in_ok-tasks.ensures) (idle_writes d c.requires.at_work)

pub returns-clause-ready : goal.returns-clause-ready
returns-clause-ready g c = subst (λ (l : List Write). IsReady g.D.Disk.state c.args.self.now l) (sym c.in_ok-tasks.ensures) (idle_ready g.D.Disk.state c.args.self.now c.requires.starting)
