use Rattle.std.proofs.Common.{refl}
use Rattle.node_steps.proofs.Moved.{badly_answered}
use Rattle.node_steps.proofs.moves.work_all.Goals as goal

pub returns-in-Err-Disk-clause-done : goal.returns-in-Err-Disk-clause-done
returns-in-Err-Disk-clause-done g c w h =
    let k = c.in-Err-Disk.ensures.failed w h (let is = c.in-Err-Disk.field-0-is in cc) in (k.0, badly_answered g.D.Disk.state _ _ _ _ _ k.2 k.1 refl)
