use Rattle.client_node.proofs.Rooms.{devices_up, node_ready}
use Rattle.client_node.proofs.node.ClientNode.plan_at_work.Goals as goal

pub plan_at_work-requires-clause-up : goal.plan_at_work-requires-clause-up
plan_at_work-requires-clause-up g c = let n = c.requires.node in (devices_up g.D.Disk.state c.args.self.now n.0.disk n.0.agenda n.1).journal

pub plan_at_work-requires-clause-looked : goal.plan_at_work-requires-clause-looked
plan_at_work-requires-clause-looked g c = let n = c.requires.node in (node_ready g.D.Disk.state c.args.self.now n.0.disk n.0.agenda n.1 c.requires.up).journal_looked
