use Rattle.store_node.proofs.Handing.{busy_is}
use Rattle.store_node.proofs.node.TableNode.is_busy.Goals as goal

pub returns : goal.returns
returns g c s t = busy_is g.D.Disk.state g.D.Disk.images c.args.self.now s.disk s.agenda c.idle-is_idle.result t c.idle-is_idle.ensures
