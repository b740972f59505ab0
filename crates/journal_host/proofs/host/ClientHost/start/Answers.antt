use Rattle.std.proofs.Common.{refl}
use Rattle.table_model.specs.declared.line.Answer.TheVariants as answers
use Rattle.journal_host.proofs.Clients.{some_there, found_node, found_told, client_cause, none_failed, plans_there, plans_stay}
use Rattle.journal_host.proofs.Ends.{start_called, start_stays, start_none}
use Rattle.journal_host.proofs.host.ClientHost.start.Goals as goal

pub start-requires : goal.start-requires
start-requires g c = record {
  node = found_node g.D.Disk.state c.args.self.now c.args.client c.in-Some.node.now c.requires c.in-Some.ensures.value;
  quiet = found_told g.D.Disk.state c.args.self.now c.args.client c.in-Some.node.now c.requires c.in-Some.ensures.value;
}

pub returns-in-Some-clause-called : goal.returns-in-Some-clause-called
returns-in-Some-clause-called g c w h =
    start_called g.D.Disk.state w c.args.self.now (record c.args.self.now { clients = c.get_mut.follows.lender c.start.new.node; outs = c.start.new.outs }) c.args.client h c.in-Some.node.now
    c.start.new.node
    c.in-Some.ensures.value
    ((c.get_mut.follows.holds c.start.new.node).3 (some_there _ _ c.in-Some.ensures.value)).0 c.start.ensures.phases c.start.result c.start.ensures.started

pub returns-in-Some-clause-kept : goal.returns-in-Some-clause-kept
returns-in-Some-clause-kept g c w h =
    start_stays g.D.Disk.state w c.args.self.now (record c.args.self.now { clients = c.get_mut.follows.lender c.start.new.node; outs = c.start.new.outs }) c.args.client h c.in-Some.node.now
    c.start.new.node
    c.in-Some.ensures.value
    ((c.get_mut.follows.holds c.start.new.node).3 (some_there _ _ c.in-Some.ensures.value)).0 c.start.ensures.phases c.start.result c.start.ensures.kept

pub returns-in-Some-clause-cause : goal.returns-in-Some-clause-cause
returns-in-Some-clause-cause g c =
    client_cause g.D.Disk.state c.args.self.now.clients (c.get_mut.follows.lender c.start.new.node) c.args.client c.in-Some.node.now c.start.new.node c.in-Some.ensures.value
    ((c.get_mut.follows.holds c.start.new.node).3 (some_there _ _ c.in-Some.ensures.value)).0 c.start.result c.start.ensures.cause

pub returns-in-Some-clause-memory : goal.returns-in-Some-clause-memory
returns-in-Some-clause-memory g c = c.start.ensures.memory

pub returns-in-None-clause-called : goal.returns-in-None-clause-called
returns-in-None-clause-called g c w h = start_none g.D.Disk.state w c.args.self.now _ c.args.client h c.in-None.ensures.value c.get_mut.follows.holds-at-none refl

pub returns-in-None-clause-kept : goal.returns-in-None-clause-kept
returns-in-None-clause-kept g c w h = tt

pub returns-in-None-clause-cause : goal.returns-in-None-clause-cause
returns-in-None-clause-cause g c = none_failed g.D.Disk.state c.args.client c.args.self.now.clients _ c.get_mut.follows.holds-at-none answers.Done (λ bad. absurd cc)

pub returns-in-None-clause-memory : goal.returns-in-None-clause-memory
returns-in-None-clause-memory g c = tt

pub returns-in-Some-clause-plans : goal.returns-in-Some-clause-plans
returns-in-Some-clause-plans g c n below =
    plans_there g.D.Disk.state c.args.self.now.clients (c.get_mut.follows.lender c.start.new.node) c.args.client c.start.new.node
    ((c.get_mut.follows.holds c.start.new.node).3 (some_there _ _ c.in-Some.ensures.value)).0 c.in-Some.node.now c.in-Some.ensures.value n below (c.start.ensures.plans n)

pub returns-in-None-clause-plans : goal.returns-in-None-clause-plans
returns-in-None-clause-plans g c n below = plans_stay g.D.Disk.state c.args.self.now.clients _ c.get_mut.follows.holds-at-none n below
