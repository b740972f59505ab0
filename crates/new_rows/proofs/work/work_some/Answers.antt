use Rattle.std.proofs.Common.{Ok, refl}
use Rattle.store_commit.specs.Standing.{writes_of}
use Rattle.new_rows.proofs.NewRows.{still_ready}
use Rattle.new_rows.proofs.work.work_some.Goals as goal

pub loop-preserved : goal.loop-preserved
loop-preserved g c =
    let old = c.loop.devs in
    still_ready g.D.Disk.state g.D.Disk.images old c.work.new.self (Ok c.in_ok-work.field-0) (writes_of old) refl (c.in_ok-work.ensures.works c.loop.invariant.0) c.loop.invariant.0 c.loop.invariant.1
