use Rattle.disk_trait.specs.Fuse.{inner_of}
use Rattle.client_node.proofs.Resuming.{start_up, starts_node}
use Rattle.client_node.proofs.node.ClientNode.start.Goals as goal

pub returns-then-self-clause-starts : goal.returns-then-self-clause-starts
returns-then-self-clause-starts g c s t = start_up g.D.Disk.state g.D.Disk.images (λ f image left. g.met.D.Disk.only_now (inner_of f) image left) c.args.self.now s.disk s.agenda t c.if-self.true

pub returns-then-self-2-clause-node : goal.returns-then-self-2-clause-node
returns-then-self-2-clause-node g c = let n = c.requires.node in starts_node g.D.Disk.state g.D.Disk.images (λ f image left. g.met.D.Disk.only_now (inner_of f) image left) n.0 c.args.self.now c.recover.new.self c.recover.result (c.recover.ensures.starts n.0 n.1)

pub returns-else-self-2-clause-node : goal.returns-else-self-2-clause-node
returns-else-self-2-clause-node g c = let n = c.requires.node in starts_node g.D.Disk.state g.D.Disk.images (λ f image left. g.met.D.Disk.only_now (inner_of f) image left) n.0 c.args.self.now c.declare_late.new.self c.declare_late.result (c.declare_late.ensures.starts n.0 n.1)
