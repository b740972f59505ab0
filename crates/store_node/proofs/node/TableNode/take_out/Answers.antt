use Rattle.store_node.proofs.Handing.{taken_out}
use Rattle.store_node.proofs.node.TableNode.take_out.Goals as goal

pub returns-clause-kept : goal.returns-clause-kept
returns-clause-kept g c s t =
    taken_out g.D.Disk.state g.D.Disk.images c.args.self.now c.take-2.new.self c.take.new.self c.take-2.ensures.room c.take.ensures.room s.disk s.agenda t
