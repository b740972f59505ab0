use Rattle.std.proofs.Common.{refl, ap}
use Rattle.journal_host.specs.Holds.{faults_at}
use Rattle.journal_host.proofs.Clients.{some_there, found_node, move_cause, plans_there, plans_stay}
use Rattle.journal_host.proofs.Draining.{work_moved, work_failed, none_moved}
use Rattle.journal_host.proofs.host.ClientHost.work_once.Goals as goal

pub work-requires : goal.work-requires
work-requires g c = found_node g.D.Disk.state c.args.self.now c.args.client c.in-Some.node.now c.requires c.in-Some.ensures.value

pub returns-in-Some-clause-done : goal.returns-in-Some-clause-done
returns-in-Some-clause-done g c w h =
    work_moved g.D.Disk.state w c.args.self.now (record c.args.self.now { clients = c.get_mut.follows.lender c.work.new.node; outs = c.work.new.outs }) c.args.client c.in-Some.node.now
    c.work.new.node h c.in-Some.ensures.value
    ((c.get_mut.follows.holds c.work.new.node).3 (some_there _ _ c.in-Some.ensures.value)).0 c.work.ensures.phases c.work.result c.work.ensures.done

pub returns-in-Some-clause-failed : goal.returns-in-Some-clause-failed
returns-in-Some-clause-failed g c w h is =
    work_failed g.D.Disk.state w c.args.self.now (record c.args.self.now { clients = c.get_mut.follows.lender c.work.new.node; outs = c.work.new.outs }) c.args.client c.in-Some.node.now
    c.work.new.node h c.in-Some.ensures.value
    ((c.get_mut.follows.holds c.work.new.node).3 (some_there _ _ c.in-Some.ensures.value)).0 c.work.ensures.phases (λ cut s k. c.work.ensures.failed cut s k is) (λ s t. c.work.ensures.busy s t is)

pub returns-in-Some-clause-cause : goal.returns-in-Some-clause-cause
returns-in-Some-clause-cause g c =
    move_cause g.D.Disk.state c.args.self.now.clients (c.get_mut.follows.lender c.work.new.node) c.args.client c.in-Some.node.now c.work.new.node c.in-Some.ensures.value
    ((c.get_mut.follows.holds c.work.new.node).3 (some_there _ _ c.in-Some.ensures.value)).0 c.work.result c.work.ensures.cause

pub returns-in-None-clause-done : goal.returns-in-None-clause-done
returns-in-None-clause-done g c w h = none_moved g.D.Disk.state w c.args.self.now _ c.args.client h c.in-None.ensures.value c.get_mut.follows.holds-at-none refl

pub returns-in-None-clause-failed : goal.returns-in-None-clause-failed
returns-in-None-clause-failed g c w h is = absurd cc

pub returns-in-None-clause-cause : goal.returns-in-None-clause-cause
returns-in-None-clause-cause g c = record { counted = λ is q. ap (λ m. faults_at g.D.Disk.state m q) c.get_mut.follows.holds-at-none; cause = λ bad. absurd cc; only = tt }

pub returns-in-Some-clause-plans : goal.returns-in-Some-clause-plans
returns-in-Some-clause-plans g c n below =
    plans_there g.D.Disk.state c.args.self.now.clients (c.get_mut.follows.lender c.work.new.node) c.args.client c.work.new.node
    ((c.get_mut.follows.holds c.work.new.node).3 (some_there _ _ c.in-Some.ensures.value)).0 c.in-Some.node.now c.in-Some.ensures.value n below (c.work.ensures.plans n)

pub returns-in-None-clause-plans : goal.returns-in-None-clause-plans
returns-in-None-clause-plans g c n below = plans_stay g.D.Disk.state c.args.self.now.clients _ c.get_mut.follows.holds-at-none n below
