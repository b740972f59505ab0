use Rattle.std.proofs.Common.{refl, ap}
use Rattle.journal_host.specs.Holds.{faults_at}
use Rattle.journal_host.proofs.Clients.{some_there, same_counts, plans_there, plans_stay}
use Rattle.journal_host.proofs.Cuts.{link_there, link_nowhere}
use Rattle.journal_host.proofs.host.ClientHost.link.Goals as goal

pub returns-in-Some-clause-called : goal.returns-in-Some-clause-called
returns-in-Some-clause-called g c w h =
    link_there g.D.Disk.state w c.args.self.now (record c.args.self.now { clients = c.get_mut.follows.lender c.link.new.node }) c.args.client c.args.up h c.in-Some.node.now c.link.new.node
    c.in-Some.ensures.value
    ((c.get_mut.follows.holds c.link.new.node).3 (some_there _ _ c.in-Some.ensures.value)).0 refl c.link.result c.link.ensures.phases c.link.ensures.linked c.link.ensures.down

pub returns-in-Some-clause-counted : goal.returns-in-Some-clause-counted
returns-in-Some-clause-counted g c =
    same_counts g.D.Disk.state c.args.self.now.clients (c.get_mut.follows.lender c.link.new.node) c.args.client c.in-Some.node.now c.link.new.node c.in-Some.ensures.value
    ((c.get_mut.follows.holds c.link.new.node).3 (some_there _ _ c.in-Some.ensures.value)).0 c.link.ensures.counted

pub returns-in-None-clause-called : goal.returns-in-None-clause-called
returns-in-None-clause-called g c w h = link_nowhere g.D.Disk.state w c.args.self.now _ c.args.client c.args.up h c.in-None.ensures.value c.get_mut.follows.holds-at-none refl

pub returns-in-None-clause-counted : goal.returns-in-None-clause-counted
returns-in-None-clause-counted g c q = ap (λ m. faults_at g.D.Disk.state m q) c.get_mut.follows.holds-at-none

pub returns-in-Some-clause-plans : goal.returns-in-Some-clause-plans
returns-in-Some-clause-plans g c n below =
    plans_there g.D.Disk.state c.args.self.now.clients (c.get_mut.follows.lender c.link.new.node) c.args.client c.link.new.node
    ((c.get_mut.follows.holds c.link.new.node).3 (some_there _ _ c.in-Some.ensures.value)).0 c.in-Some.node.now c.in-Some.ensures.value n below (c.link.ensures.plans n)

pub returns-in-None-clause-plans : goal.returns-in-None-clause-plans
returns-in-None-clause-plans g c n below = plans_stay g.D.Disk.state c.args.self.now.clients _ c.get_mut.follows.holds-at-none n below
