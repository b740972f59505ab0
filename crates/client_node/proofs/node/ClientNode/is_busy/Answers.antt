use Rattle.client_node.proofs.Rooms.{busy_is}
use Rattle.client_node.proofs.node.ClientNode.is_busy.Goals as goal

pub returns : goal.returns
returns g c s t = busy_is g.D.Disk.state c.args.self.now s.disk s.agenda c.idle-is_idle.result t c.idle-is_idle.ensures
