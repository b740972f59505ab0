use Rattle.wire_steps.proofs.Started.{forgotten_held, forgotten_none}
use Rattle.wire_steps.proofs.world.World.forget_gathered.Goals as goal

pub returns-clause-held : goal.returns-clause-held
returns-clause-held g c v h =
    let at = c.keep_up.ensures v.world h.nodes in
    (forgotten_held g.D.Disk.state v c.args.self.now h c.keep_up.new.gathered at, forgotten_none v.world c.args.self.now.gathered c.keep_up.new.gathered at)
