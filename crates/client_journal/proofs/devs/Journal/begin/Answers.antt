use Rattle.std.proofs.Common.{◌≡◌, ◌+◌, ℕ, List, [], refl, sym, ◌∙◌, subst, arith}
use Rattle.std.proofs.lemmas.Result.{err_from_is_err_and}
use Rattle.stab_base.specs.declared.limits.TheConstants.{NUMBER_MAX}
use Rattle.client_journal.specs.Devs.{ClientDevs, Write}
use Rattle.client_journal.specs.Agenda.{plan_writes, meaning_with, IsMoment, Runs}
use Rattle.client_journal.specs.Standing.{devs, writes_of, IsReady}
use Rattle.client_journal.specs.Plan.{commit_for, intend_for}
use Rattle.client_journal.proofs.Works.{same_ready}
use Rattle.client_journal.proofs.Planning.{plan_runs}
use Rattle.client_journal.proofs.Numbers.{plan_commits}
use Rattle.client_journal.proofs.Begins.{isnt_free, none_left, wasnt_taken, was_taken}
use Rattle.client_journal.proofs.Resting.{rests_all, waits_all}
use Rattle.client_journal.proofs.devs.Journal.begin.Goals as goal

pub returns-in_err-free-clause-takes : goal.returns-in_err-free-clause-takes
returns-in_err-free-clause-takes g c =
    let s = g.D.Disk.state in
    let old = c.args.self.now in
    let plan = c.args.plan in
    let p = err_from_is_err_and c.from_residual.result c.from_residual.ensures.1 in
    rw (p.1, p.2) (isnt_free s g.D.Disk.images g.met.D.Disk.only_now ((devs s old).journal.greatest ≡ NUMBER_MAX) (λ (number : ℕ). plan_writes (devs s old).held (intend_for number plan) plan.brought (commit_for number plan)) old c.in_err-free.field-0.0 c.requires.ready c.in_err-free.ensures)

pub returns-then-last-eq-NUMBER_MAX-clause-takes : goal.returns-then-last-eq-NUMBER_MAX-clause-takes
returns-then-last-eq-NUMBER_MAX-clause-takes g c =
    let s = g.D.Disk.state in
    let old = c.args.self.now in
    let plan = c.args.plan in
    let f = c.in_ok-free.ensures.free in
    let rests : IsReady s old [] = subst (λ (l : List Write). IsReady s old l) f.1 (c.requires.ready f.0) in
    rw c.if-last-eq-NUMBER_MAX.true (none_left s g.D.Disk.images g.met.D.Disk.only_now ((devs s old).journal.greatest ≡ NUMBER_MAX) (λ (number : ℕ). plan_writes (devs s old).held (intend_for number plan) plan.brought (commit_for number plan)) old f.0 f.1 rests
    (sym (c.greatest-last.ensures.greatest f.0.journal) ∙ c.if-last-eq-NUMBER_MAX.true))

pub returns-in_err-tasks-clause-takes : goal.returns-in_err-tasks-clause-takes
returns-in_err-tasks-clause-takes g c =
    let s = g.D.Disk.state in
    let old = c.args.self.now in
    let plan = c.args.plan in
    let f = c.in_ok-free.ensures.free in
    let rests : IsReady s old [] = subst (λ (l : List Write). IsReady s old l) f.1 (c.requires.ready f.0) in
    let p = err_from_is_err_and c.from_residual-in_err-tasks.result c.from_residual-in_err-tasks.ensures.1 in
    rw (p.1, p.2) (wasnt_taken s g.D.Disk.images g.met.D.Disk.only_now ((devs s old).journal.greatest ≡ NUMBER_MAX) (λ (number : ℕ). plan_writes (devs s old).held (intend_for number plan) plan.brought (commit_for number plan)) old f.0 f.1 rests
    (λ is. c.if-last-eq-NUMBER_MAX.false (c.greatest-last.ensures.greatest f.0.journal ∙ is))
    c.prepare.new.self c.in_err-tasks.field-0.0 c.in_err-tasks.ensures.waits)

pub returns-clause-takes : goal.returns-clause-takes
returns-clause-takes g c =
    let s = g.D.Disk.state in
    let old = c.args.self.now in
    let plan = c.args.plan in
    let f = c.in_ok-free.ensures.free in
    let mid = c.prepare.new.self in
    let new = record mid { agenda = c.in_ok-tasks.tasks } in
    let rests : IsReady s old [] = subst (λ (l : List Write). IsReady s old l) f.1 (c.requires.ready f.0) in
    was_taken s g.D.Disk.images g.met.D.Disk.only_now ((devs s old).journal.greatest ≡ NUMBER_MAX) (λ (number : ℕ). plan_writes (devs s old).held (intend_for number plan) plan.brought (commit_for number plan)) old f.0 f.1 rests
    (λ is. c.if-last-eq-NUMBER_MAX.false (c.greatest-last.ensures.greatest f.0.journal ∙ is))
    new mid _ (c.greatest-last.result + 1) c.in_ok-tasks.ensures.waits refl refl refl c.in_ok-tasks.ensures.tasks (same_ready s g.D.Disk.images mid new refl refl refl _ c.in_ok-tasks.ensures.ready)

pub prepare-requires-clause-newest : goal.prepare-requires-clause-newest
prepare-requires-clause-newest g c =
    let f = c.in_ok-free.ensures.free in
    omega (arith, c.greatest-last.ensures.greatest f.0.journal)

pub returns-clause-commits : goal.returns-clause-commits
returns-clause-commits g c meaning n =
    let s = g.D.Disk.state in
    let old = c.args.self.now in
    let f = c.in_ok-free.ensures.free in
    plan_commits (c.greatest-last.result + 1) meaning (devs s old) c.args.plan n (c.requires.rests f.0 f.1) (omega (arith, c.greatest-last.ensures.greatest f.0.journal)) (c.requires.plan f.0 f.1)

pub returns-clause-moments : goal.returns-clause-moments
returns-clause-moments g c meaning n rest =
    let s = g.D.Disk.state in
    let old = c.args.self.now in
    let plan = c.args.plan in
    let f = c.in_ok-free.ensures.free in
    let number : ℕ = c.greatest-last.result + 1 in
    let k = plan_commits number meaning (devs s old) plan n (c.requires.rests f.0 f.1) (omega (arith, c.greatest-last.ensures.greatest f.0.journal)) (c.requires.plan f.0 f.1) in
    let R : List Write → ClientDevs → Type 0 = IsMoment (meaning_with meaning number plan.brought) (devs s old).held (commit_for number plan) in
    let runs : Runs R (devs s old) (plan_writes (devs s old).held (intend_for number plan) plan.brought (commit_for number plan)) =
    plan_runs meaning (devs s old) (intend_for number plan) plan.brought (commit_for number plan) n rest k in
    let new = record c.prepare.new.self { agenda = c.in_ok-tasks.tasks } in
    subst (λ (d : ClientDevs). Runs R d (writes_of new)) (sym (c.in_ok-tasks.ensures.waits.same (λ is. cc))) (subst (λ (l : List Write). Runs R (devs s old) l) (sym c.in_ok-tasks.ensures.tasks) runs)

pub returns-in_err-free-clause-leave : goal.returns-in_err-free-clause-leave
returns-in_err-free-clause-leave g c = λ up. rests_all g.D.Disk.state g.D.Disk.images g.met.D.Disk.only_now c.args.self.now (writes_of c.args.self.now) (c.requires.ready up)

pub returns-then-last-eq-NUMBER_MAX-clause-leave : goal.returns-then-last-eq-NUMBER_MAX-clause-leave
returns-then-last-eq-NUMBER_MAX-clause-leave g c = λ up. rests_all g.D.Disk.state g.D.Disk.images g.met.D.Disk.only_now c.args.self.now (writes_of c.args.self.now) (c.requires.ready up)

pub returns-in_err-tasks-clause-leave : goal.returns-in_err-tasks-clause-leave
returns-in_err-tasks-clause-leave g c = λ up. waits_all g.D.Disk.state g.D.Disk.images c.args.self.now c.prepare.new.self c.prepare.new.self _ refl refl refl c.in_err-tasks.ensures.waits

pub returns-clause-leave : goal.returns-clause-leave
returns-clause-leave g c = λ up. let mid = c.prepare.new.self in
    waits_all g.D.Disk.state g.D.Disk.images c.args.self.now mid (record mid { agenda = c.in_ok-tasks.tasks }) _ refl refl refl c.in_ok-tasks.ensures.waits
