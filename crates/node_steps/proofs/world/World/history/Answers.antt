use Rattle.node_steps.proofs.Showing.{history_comes, no_history}
use Rattle.node_steps.proofs.world.World.history.Goals as goal

pub returns-in-Some-clause-done : goal.returns-in-Some-clause-done
returns-in-Some-clause-done g c w h =
    history_comes g.D.Disk.state w c.args.self.now h c.args.table _ (c.in-Some.ensures w h.store) c.listed.result c.listed.ensures.lines

pub returns-in-None-clause-done : goal.returns-in-None-clause-done
returns-in-None-clause-done g c w h =
    no_history g.D.Disk.state w c.args.self.now h c.args.table (c.in-None.ensures w h.store) c.only.result c.only.ensures.lines
