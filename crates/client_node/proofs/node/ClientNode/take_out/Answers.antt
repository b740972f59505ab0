use Rattle.client_node.proofs.Rooms.{taken_out}
use Rattle.client_node.proofs.node.ClientNode.take_out.Goals as goal

pub returns-clause-kept : goal.returns-clause-kept
returns-clause-kept g c s t = taken_out g.D.Disk.state c.args.self.now c.take-2.new.self c.take.new.self c.take-2.ensures.room c.take.ensures.room s.disk s.agenda t
