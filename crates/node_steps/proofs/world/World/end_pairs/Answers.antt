use Rattle.node_steps.proofs.Clients.{pairs_told}
use Rattle.node_steps.proofs.world.World.end_pairs.Goals as goal

pub returns-in-Ok-clause-told : goal.returns-in-Ok-clause-told
returns-in-Ok-clause-told g c =
    pairs_told g.D.Disk.state c.args.self.now c.tell_pairs.new.self c.args.pairs c.in-Ok.answer c.args.found c.tell_pairs.result c.in-Ok.is c.tell_pairs.ensures.told
