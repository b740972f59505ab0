use Rattle.journal_host.proofs.Ends.{was_joined, others_same}
use Rattle.journal_host.proofs.Clients.{plans_put}
use Rattle.journal_host.proofs.host.ClientHost.join.Goals as goal

pub returns-clause-joined : goal.returns-clause-joined
returns-clause-joined g c w h has =
    was_joined g.D.Disk.state w c.args.self.now (record c.args.self.now { clients = c.insert.new.self }) c.args.client c.args.tables.now c.in_ok-node.node c.in_ok-insert.ensures.updates.0
    c.args.disks h c.requires.absent c.in_ok-node.ensures.phases (c.in_ok-node.ensures.joined w has)

pub returns-clause-others : goal.returns-clause-others
returns-clause-others g c q off = others_same g.D.Disk.state c.args.self.now.clients c.insert.new.self c.args.client c.in_ok-node.node c.in_ok-insert.ensures.updates.0 q off

pub returns-clause-plans : goal.returns-clause-plans
returns-clause-plans g c n below =
    plans_put g.D.Disk.state c.args.self.now.clients c.insert.new.self c.args.client c.in_ok-node.node c.in_ok-insert.ensures.updates.0 n below (c.in_ok-node.ensures.plans n)
