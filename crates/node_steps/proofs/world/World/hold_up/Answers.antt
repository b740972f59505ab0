use Rattle.std.proofs.Common.{◌∷◌, refl}
use Rattle.step_tables.specs.Facts as facts
use Rattle.node_steps.proofs.Holding.{answers, on_hold}
use Rattle.node_steps.proofs.world.World.hold_up.Goals as goal

pub returns-clause-done : goal.returns-clause-done
returns-clause-done g c w h =
    answers g.D.Disk.state w (record w { holds = c.args.node ∷ w.holds }) facts.Done c.only.result _
    (on_hold g.D.Disk.state w c.args.self.now h c.args.node c.add.new.self c.in_ok-add.ensures.added) (λ table. refl) (λ q. refl) c.only.ensures.lines
