use Rattle.std.proofs.Common.{refl, ap}
use Rattle.journal_host.specs.Holds.{faults_at}
use Rattle.journal_host.proofs.Clients.{some_there, found_node, plans_there, plans_stay}
use Rattle.journal_host.proofs.Ends.{crash_moved, crash_none, others_same}
use Rattle.journal_host.proofs.host.ClientHost.crash.Goals as goal

pub crash-requires : goal.crash-requires
crash-requires g c = found_node g.D.Disk.state c.args.self.now c.args.client c.in-Some.node.now c.requires c.in-Some.ensures.value

pub returns-in-Some-clause-crashed : goal.returns-in-Some-clause-crashed
returns-in-Some-clause-crashed g c w h =
    crash_moved g.D.Disk.state w c.args.self.now (record c.args.self.now { clients = c.get_mut.follows.lender c.crash.new.node }) c.args.client c.args.calls h c.in-Some.node.now c.crash.new.node
    c.in-Some.ensures.value
    ((c.get_mut.follows.holds c.crash.new.node).3 (some_there _ _ c.in-Some.ensures.value)).0 refl c.crash.ensures.phases c.crash.ensures.crashed

pub returns-in-Some-clause-others : goal.returns-in-Some-clause-others
returns-in-Some-clause-others g c q off =
    others_same g.D.Disk.state c.args.self.now.clients (c.get_mut.follows.lender c.crash.new.node) c.args.client c.crash.new.node
    ((c.get_mut.follows.holds c.crash.new.node).3 (some_there _ _ c.in-Some.ensures.value)).0 q off

pub returns-in_default-clause-crashed : goal.returns-in_default-clause-crashed
returns-in_default-clause-crashed g c w h = crash_none g.D.Disk.state w c.args.self.now _ c.args.client c.args.calls h c.in_default.ensures.value c.get_mut.follows.holds-at-none refl

pub returns-in_default-clause-others : goal.returns-in_default-clause-others
returns-in_default-clause-others g c q off = ap (λ m. faults_at g.D.Disk.state m q) c.get_mut.follows.holds-at-none

pub returns-in-Some-clause-plans : goal.returns-in-Some-clause-plans
returns-in-Some-clause-plans g c n below =
    plans_there g.D.Disk.state c.args.self.now.clients (c.get_mut.follows.lender c.crash.new.node) c.args.client c.crash.new.node
    ((c.get_mut.follows.holds c.crash.new.node).3 (some_there _ _ c.in-Some.ensures.value)).0 c.in-Some.node.now c.in-Some.ensures.value n below (c.crash.ensures.plans n)

pub returns-in_default-clause-plans : goal.returns-in_default-clause-plans
returns-in_default-clause-plans g c n below = plans_stay g.D.Disk.state c.args.self.now.clients _ c.get_mut.follows.holds-at-none n below
