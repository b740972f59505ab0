use Rattle.std.proofs.Common.{ℕ, refl, ap, ◌∙◌, ⊎_elim}
use Rattle.std.specs.Ordering.{nat_cmp}
use Rattle.std.specs.BTreeMap as tree
use Rattle.std.proofs.lemmas.Result.{err_from_is_err_and}
use Rattle.stab_base.specs.declared.step.Step.{Step}
use Rattle.step_tables.specs.Messages as messages
use Rattle.store_host.specs.Holds.{is_up_by}
use Rattle.store_host.proofs.Draining.{drains, drains_next, drained, drained_badly, err_cause}
use Rattle.disk_trait.specs.Fuse.{inner_of}
use Rattle.store_host.proofs.Froms.{GoesOn}
use Rattle.store_host.proofs.Lefts.{none_still, still_left, left_then}
use Rattle.store_host.proofs.host.StoreHost.work_all.Goals as goal

pub loop-count-init : goal.loop-count-init
loop-count-init g c = record {
  drained = λ w h. drains g.D.Disk.state c.args.store w c.args.self.now h;
  left = λ w h. still_left g.D.Disk.state g.D.Disk.images w c.args.self.now.tables c.args.self.now.tables
      (none_still g.D.Disk.state g.D.Disk.images (λ d image left. g.met.D.Disk.only_now (inner_of d) image left) w c.args.self.now.tables h.tables);
  stores = refl;
  counted = λ q. refl;
}

pub work-requires-clause-held : goal.work-requires-clause-held
work-requires-clause-held g c = let n = c.requires.held in let d = c.loop-count.invariant.drained n.0 n.1 in (d.here, d.held)

pub work-requires-clause-up : goal.work-requires-clause-up
work-requires-clause-up g c = ap (λ m. is_up_by (tree.get nat_cmp m c.args.store)) c.loop-count.invariant.stores ∙ c.requires.up

pub loop-count-preserved : goal.loop-count-preserved
loop-count-preserved g c = record {
  drained = λ w h.
      let d = c.loop-count.invariant.drained w h in
      drains_next g.D.Disk.state c.args.store w c.args.self.now c.loop-count.self c.loop-count.count d c.work.new.self c.in-Some._table (c.in-Some.ensures d.here d.held)
      (c.in_ok-work.ensures.done d.here d.held).0;
  left = λ w h.
      let d = c.loop-count.invariant.drained w h in
      left_then g.D.Disk.state g.D.Disk.images GoesOn w d.here c.args.self.now.tables c.loop-count.self.tables c.work.new.self.tables h.tables
      d.held.tables d.from (λ s t q. q)
      (c.loop-count.invariant.left w h) (c.in_ok-work.ensures.left d.here d.held);
  stores = c.in_ok-work.ensures.up ∙ c.loop-count.invariant.stores;
  counted = λ q. c.in_ok-work.ensures.cause.counted (λ e. absurd cc) q ∙ c.loop-count.invariant.counted q;
}

pub returns-in_default-clause-done : goal.returns-in_default-clause-done
returns-in_default-clause-done g c w h =
    let d = c.loop-count.invariant.drained w h in
    drained g.D.Disk.state c.args.store w c.args.self.now c.loop-count.self c.loop-count.count d (c.in_default.ensures d.here d.held)

pub returns-in_err-work-clause-failed : goal.returns-in_err-work-clause-failed
returns-in_err-work-clause-failed g c w h =
    let p = err_from_is_err_and c.from_residual.result c.from_residual.ensures.1 in
    let d = c.loop-count.invariant.drained w h in
    let busy = c.in-Some.ensures d.here d.held in
    rw (p.1, p.2) (λ failed.
    ⊎_elim
    (drained_badly g.D.Disk.state c.args.store w c.args.self.now c.loop-count.self c.loop-count.count d c.work.new.self c.in-Some._table messages.FailedBefore (λ v hosted. refl) busy)
    (drained_badly g.D.Disk.state c.args.store w c.args.self.now c.loop-count.self c.loop-count.count d c.work.new.self c.in-Some._table messages.FailedAfter (λ v hosted. refl) busy)
    (c.in_err-work.ensures.failed d.here d.held (let is = failed in cc)))

pub returns-in_err-work-clause-cause : goal.returns-in_err-work-clause-cause
returns-in_err-work-clause-cause g c =
    let p = err_from_is_err_and c.from_residual.result c.from_residual.ensures.1 in
    rw (p.1, p.2) (err_cause g.D.Disk.state c.args.self.now.tables c.loop-count.self.tables c.work.new.self.tables Step ℕ c.in_err-work.field-0.0 c.loop-count.invariant.counted c.in_err-work.ensures.cause)

pub returns-in_default-clause-left : goal.returns-in_default-clause-left
returns-in_default-clause-left g c w h = c.loop-count.invariant.left w h

pub returns-in_err-work-clause-left : goal.returns-in_err-work-clause-left
returns-in_err-work-clause-left g c w h =
    let d = c.loop-count.invariant.drained w h in
    left_then g.D.Disk.state g.D.Disk.images GoesOn w d.here c.args.self.now.tables c.loop-count.self.tables c.work.new.self.tables h.tables
    d.held.tables d.from (λ s t q. q)
    (c.loop-count.invariant.left w h) (c.in_err-work.ensures.left d.here d.held)

pub returns-clause-left : goal.returns-clause-left
returns-clause-left g c w h = c.loop-count.invariant.left w h
