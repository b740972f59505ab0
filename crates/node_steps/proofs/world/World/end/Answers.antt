use Rattle.node_steps.proofs.Clients.{answer_told}
use Rattle.node_steps.proofs.world.World.end.Goals as goal

pub returns-in-Ok-clause-told : goal.returns-in-Ok-clause-told
returns-in-Ok-clause-told g c =
    answer_told g.D.Disk.state c.args.self.now c.tell_clients.new.self c.in-Ok.answer c.args.found c.tell_clients.result c.in-Ok.is c.tell_clients.ensures.told
