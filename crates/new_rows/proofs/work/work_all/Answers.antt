use Rattle.std.proofs.Common.{Ok, refl, ◌∙◌}
use Rattle.store_commit.specs.Standing.{writes_of}
use Rattle.new_rows.proofs.NewRows.{does_one}
use Rattle.new_rows.proofs.work.work_all.Goals as goal

pub loop-devs-smaller : goal.loop-devs-smaller
loop-devs-smaller g c =
    let old = c.loop-devs.devs in
    (does_one g.D.Disk.state g.D.Disk.images old c.work.new.self (Ok c.in_ok-work.field-0) (writes_of old) refl c.loop-devs-test.ensures (c.in_ok-work.ensures.works c.loop-devs.invariant.0)).fewer

pub loop-devs-preserved : goal.loop-devs-preserved
loop-devs-preserved g c =
    let old = c.loop-devs.devs in
    let one = does_one g.D.Disk.state g.D.Disk.images old c.work.new.self (Ok c.in_ok-work.field-0) (writes_of old) refl c.loop-devs-test.ensures (c.in_ok-work.ensures.works c.loop-devs.invariant.0) in
    (one.up, one.ready, one.same ∙ c.loop-devs.invariant.2)
