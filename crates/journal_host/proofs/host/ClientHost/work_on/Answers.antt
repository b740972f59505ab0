use Rattle.std.proofs.Common.{◌≡◌, ℕ, true, false, refl, sym, ◌∙◌, rules}
use Rattle.std.proofs.lemmas.Result.{err_from_is_err_and}
use Rattle.stab_base.specs.declared.step.Step.{Step}
use Rattle.journal_host.proofs.Draining.{drains, drains_next, drained, drained_badly, err_cause}
use Rattle.journal_host.proofs.host.ClientHost.work_on.Goals as goal

pub loop-count-init : goal.loop-count-init
loop-count-init g c = record { drained = λ w h. drains g.D.Disk.state w c.args.self.now c.args.client h; some = c.requires; counted = λ q. refl; plans = λ n below. below }

pub loop-count-preserved : goal.loop-count-preserved
loop-count-preserved g c = record {
  drained = λ w h.
      let d = c.loop-count.invariant.drained w h in
      let is_so : c.is_busy.result ≡ true = search rules in
      drains_next g.D.Disk.state w c.args.self.now c.args.client c.loop-count.self c.loop-count.count d c.work_once.new.self (sym (c.is_busy.ensures d.here d.held) ∙ is_so)
      (c.in_ok-work_once.ensures.done d.here d.held).0;
  some = let n = c.loop-count.invariant.some in let x = c.in_ok-work_once.ensures.done n.0 n.1 in (_, x.0.held);
  counted = λ q. c.in_ok-work_once.ensures.cause.counted (λ bad. absurd cc) q ∙ c.loop-count.invariant.counted q;
  plans = λ n below. c.work_once.ensures.plans n (c.loop-count.invariant.plans n below);
}

pub returns-in_err-work_once-clause-failed : goal.returns-in_err-work_once-clause-failed
returns-in_err-work_once-clause-failed g c w h =
    let p = err_from_is_err_and c.from_residual.result c.from_residual.ensures.1 in
    let d = c.loop-count.invariant.drained w h in
    let is_so : c.is_busy.result ≡ true = search rules in
    rw (p.1, p.2) (λ failed.
    let x = c.in_err-work_once.ensures.failed d.here d.held (let is = failed in cc) in
    drained_badly g.D.Disk.state w c.args.self.now c.args.client c.loop-count.self c.loop-count.count d c.work_once.new.self x.0 (sym (c.is_busy.ensures d.here d.held) ∙ is_so) x.1 x.2)

pub returns-in_err-work_once-clause-cause : goal.returns-in_err-work_once-clause-cause
returns-in_err-work_once-clause-cause g c =
    let p = err_from_is_err_and c.from_residual.result c.from_residual.ensures.1 in
    rw (p.1, p.2) (err_cause {S = Step} {T = ℕ} g.D.Disk.state c.args.client c.args.self.now.clients c.loop-count.self.clients c.work_once.new.self.clients c.in_err-work_once.field-0.0
    c.loop-count.invariant.counted c.in_err-work_once.ensures.cause)

pub returns-then-not-is_busy-clause-done : goal.returns-then-not-is_busy-clause-done
returns-then-not-is_busy-clause-done g c w h =
    let d = c.loop-count.invariant.drained w h in
    let is_so : c.is_busy.result ≡ false = search rules in
    drained g.D.Disk.state w c.args.self.now c.args.client c.loop-count.self c.loop-count.count d (sym (c.is_busy.ensures d.here d.held) ∙ is_so)

pub returns-in_err-work_once-clause-plans : goal.returns-in_err-work_once-clause-plans
returns-in_err-work_once-clause-plans g c n below = c.work_once.ensures.plans n (c.loop-count.invariant.plans n below)

pub returns-then-not-is_busy-clause-plans : goal.returns-then-not-is_busy-clause-plans
returns-then-not-is_busy-clause-plans g c n below = c.loop-count.invariant.plans n below
