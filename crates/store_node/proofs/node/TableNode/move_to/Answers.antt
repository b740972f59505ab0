use Rattle.store_node.proofs.Handing.{moved_node}
use Rattle.store_node.proofs.node.TableNode.move_to.Goals as goal

pub returns-clause-kept : goal.returns-clause-kept
returns-clause-kept g c s t = moved_node g.D.Disk.state c.args.self.now c.args.store s.disk s.agenda t
