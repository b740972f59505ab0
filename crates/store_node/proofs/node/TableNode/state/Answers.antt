use Rattle.store_node.proofs.Handing.{state_is}
use Rattle.store_node.proofs.node.TableNode.state.Goals as goal

pub returns : goal.returns
returns g c s t = state_is g.D.Disk.state g.D.Disk.images c.args.self.now s.disk s.agenda t c.requires.up
