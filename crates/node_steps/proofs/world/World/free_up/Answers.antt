use Rattle.std.proofs.Common.{refl}
use Rattle.step_tables.specs.Facts as facts
use Rattle.world_tables.specs.World.{without_node}
use Rattle.node_steps.proofs.Holding.{answers, off_hold}
use Rattle.node_steps.proofs.world.World.free_up.Goals as goal

pub returns-clause-done : goal.returns-clause-done
returns-clause-done g c w h =
    answers g.D.Disk.state w (record w { holds = without_node w.holds c.args.node }) facts.Done c.only.result _
    (off_hold g.D.Disk.state w c.args.self.now h c.args.node c.remove.new.self c.remove.ensures) (λ table. refl) (λ q. refl) c.only.ensures.lines
