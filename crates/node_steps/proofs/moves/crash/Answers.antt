use Rattle.std.proofs.Common.{refl}
use Rattle.node_steps.proofs.Moved.{well_answered, crashes_well}
use Rattle.node_steps.proofs.moves.crash.Goals as goal

pub returns-clause-crashed : goal.returns-clause-crashed
returns-clause-crashed g c w h =
    let k = c.crash.ensures.crashed w h in (k.0, well_answered g.D.Disk.state _ _ _ _ _ k.1 (crashes_well c.args.store c.args.calls k.0 w) refl, k.2)
