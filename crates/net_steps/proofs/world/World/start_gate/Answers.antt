use Rattle.std.proofs.Common.{refl}
use Rattle.gate_host.specs.Moves.{most_starts}
use Rattle.net_steps.proofs.Deeded.{start_promises, start_spends}
use Rattle.net_steps.proofs.world.World.start_gate.Goals as goal

pub returns-in-Err-clause-promises : goal.returns-in-Err-clause-promises
returns-in-Err-clause-promises g c is_out n b =
    start_spends g.D.Disk.state g.D.Disk.images g.met.D.Disk.only_now n c.args.gate is_out c.args.self.now b c.start.new.self
    (c.in-Err.ensures.kept n.wire.world.stores n.wire.world.schemas n.gates b.held.gates) _ c.in-Err.fault refl c.in-Err.ensures.only
    (c.in-Err.ensures.spent n.wire.world.stores n.wire.world.schemas n.gates b.held.gates most_starts) c.spent_of.result c.spent_of.ensures

pub returns-clause-promises : goal.returns-clause-promises
returns-clause-promises g c is_out n b =
    start_promises g.D.Disk.state g.D.Disk.images g.met.D.Disk.only_now n c.args.gate is_out c.args.self.now c.start.new.self c.only.result c.only.ensures.lines c.only.ensures.memory b
    (c.in_default.ensures.held n.wire.world.stores n.wire.world.schemas n.gates b.held.gates)
