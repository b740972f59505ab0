use Rattle.net_steps.proofs.Deeded.{crash_promises}
use Rattle.net_steps.proofs.world.World.crash_gate.Goals as goal

pub returns-clause-promises : goal.returns-clause-promises
returns-clause-promises g c is_out n calls pick b =
    crash_promises g.D.Disk.state g.D.Disk.images g.met.D.Disk.only_now n c.args.gate is_out c.args.self.now c.crash.new.self c.only.result c.only.ensures.lines c.only.ensures.memory calls pick b
    c.requires.up (c.crash.ensures n.wire.world.stores n.wire.world.schemas n.gates b.held.gates)
