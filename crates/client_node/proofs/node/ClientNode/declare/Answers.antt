use Rattle.client_node.proofs.Declaring.{declares_node}
use Rattle.client_node.proofs.node.ClientNode.declare.Goals as goal

pub returns-clause-node : goal.returns-clause-node
returns-clause-node g c = let n = c.requires.node in declares_node g.D.Disk.state n.0 c.args.self.now c.make.new.self c.make.result (c.make.ensures.declares n.0 n.1)
