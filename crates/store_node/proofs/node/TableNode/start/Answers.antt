use Rattle.disk_trait.specs.Fuse.{inner_of}
use Rattle.store_node.proofs.Beginning.{start_up, start_recovers, start_declares}
use Rattle.store_node.proofs.Nodes.{starts_node}
use Rattle.store_node.proofs.node.TableNode.start.Goals as goal

pub returns-then-self-clause-starts : goal.returns-then-self-clause-starts
returns-then-self-clause-starts g c s t = start_up g.D.Disk.state g.D.Disk.images (λ d image left. g.met.D.Disk.only_now (inner_of d) image left) c.args.self.now s.disk s.agenda t c.if-self.true

pub returns-then-self-2-clause-starts : goal.returns-then-self-2-clause-starts
returns-then-self-2-clause-starts g c s t = start_recovers g.D.Disk.state g.D.Disk.images c.args.self.now c.recover.new.self s c.recover.result c.if-self-2.true (c.recover.ensures.recovers s t)

pub returns-else-self-2-clause-starts : goal.returns-else-self-2-clause-starts
returns-else-self-2-clause-starts g c s t = start_declares g.D.Disk.state g.D.Disk.images c.args.self.now c.declare_late.new.self s c.declare_late.result c.if-self-2.false (c.declare_late.ensures.declares s t)

pub returns-then-self-2-clause-node : goal.returns-then-self-2-clause-node
returns-then-self-2-clause-node g c = let n = c.requires in starts_node g.D.Disk.state g.D.Disk.images n.0 c.args.self.now c.recover.new.self c.recover.result (returns-then-self-2-clause-starts g c n.0 n.1)

pub returns-else-self-2-clause-node : goal.returns-else-self-2-clause-node
returns-else-self-2-clause-node g c = let n = c.requires in starts_node g.D.Disk.state g.D.Disk.images n.0 c.args.self.now c.declare_late.new.self c.declare_late.result (returns-else-self-2-clause-starts g c n.0 n.1)
