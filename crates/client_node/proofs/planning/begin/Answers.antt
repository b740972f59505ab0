use Rattle.std.proofs.Common.{◌≡◌, ℕ, List, Ok, Err, refl, sym, ◌∙◌, ap, subst}
use Rattle.std.proofs.lemmas.Result.{err_from_is_err_and}
use Rattle.stab_base.specs.declared.limits.TheConstants.{NUMBER_MAX}
use Rattle.held_value.specs.declared.local_name.LocalName.{LocalName}
use Rattle.client_journal.specs.Devs.{Write}
use Rattle.client_journal.specs.Agenda.{plan_writes, meaning_with, IsMoment, Runs}
use Rattle.client_journal.specs.NamedSlots.{NamedSlots, IsAtRest}
use Rattle.client_journal.specs.Plan.{commit_for, intend_for}
use Rattle.client_journal.specs.Standing.{devs, writes_of}
use Rattle.client_node.proofs.Begun.{serves_begun, serves_refused, refused_begin}
use Rattle.client_node.proofs.planning.begin.Goals as goal

pub begin-requires-clause-ready : goal.begin-requires-clause-ready
begin-requires-clause-ready g c = λ up. c.requires.ready

pub begin-requires-clause-rests : goal.begin-requires-clause-rests
begin-requires-clause-rests g c = λ up idle. c.requires.rests.not_committed

pub begin-requires-clause-plan : goal.begin-requires-clause-plan
begin-requires-clause-plan g c = λ up idle. c.requires.plan

pub returns-in_err-begin-clause-serves : goal.returns-in_err-begin-clause-serves
returns-in_err-begin-clause-serves g c =
    let s = g.D.Disk.state in
    let old = c.args.devs.now in
    let plan = c.args.planned.plan in
    let p = err_from_is_err_and c.from_residual.result c.from_residual.ensures.1 in
    rw (p.1, p.2) (serves_refused s g.D.Disk.images ((devs s old).journal.greatest ≡ NUMBER_MAX) (λ (number : ℕ). plan_writes (devs s old).held (intend_for number plan) plan.brought (commit_for number plan)) old c.begin.new.self c.requires.up c.requires.idle c.requires.ready
    (c.in_err-begin.ensures.leave c.requires.up) c.in_err-begin.field-0.0 c.in_err-begin.ensures.takes)

pub returns-in_err-begin-clause-refused : goal.returns-in_err-begin-clause-refused
returns-in_err-begin-clause-refused g c =
    let s = g.D.Disk.state in
    let old = c.args.devs.now in
    let plan = c.args.planned.plan in
    let p = err_from_is_err_and c.from_residual.result c.from_residual.ensures.1 in
    rw (p.1, p.2) (refused_begin s g.D.Disk.images ((devs s old).journal.greatest ≡ NUMBER_MAX) (λ (number : ℕ). plan_writes (devs s old).held (intend_for number plan) plan.brought (commit_for number plan)) old c.begin.new.self c.requires.up c.requires.idle c.requires.ready
    (c.in_err-begin.ensures.leave c.requires.up) c.in_err-begin.field-0.0 c.in_err-begin.ensures.takes)

pub returns-clause-serves : goal.returns-clause-serves
returns-clause-serves g c =
    let s = g.D.Disk.state in
    let old = c.args.devs.now in
    let plan = c.args.planned.plan in
    serves_begun s g.D.Disk.images ((devs s old).journal.greatest ≡ NUMBER_MAX) (λ (number : ℕ). plan_writes (devs s old).held (intend_for number plan) plan.brought (commit_for number plan)) old c.begin.new.self c.requires.up c.requires.idle c.requires.ready
    (c.in_ok-begin.ensures.leave c.requires.up) _ _ c.in_ok-begin.ensures.takes

pub returns-clause-begins : goal.returns-clause-begins
returns-clause-begins g c =
    let s = g.D.Disk.state in
    let old = c.args.devs.now in
    let plan = c.args.planned.plan in
    let new = c.begin.new.self in
    let is = c.in_ok-begin.ensures.number in
    record {
      writes = subst (λ (n : ℕ). writes_of new ≡ plan_writes (devs s old).held (intend_for n plan) plan.brought (commit_for n plan)) is c.in_ok-begin.ensures.takes.taken;
      moments = subst (λ (n : ℕ). (meaning : LocalName → List ℕ) → NamedSlots meaning (devs s old) → IsAtRest (devs s old) → Runs (IsMoment (meaning_with meaning n plan.brought) (devs s old).held (commit_for n plan)) (devs s new) (writes_of new)) is c.in_ok-begin.ensures.moments;
    }
