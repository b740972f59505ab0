use Rattle.std.proofs.Common.{Option, subst, ◌∙◌}
use Rattle.std.specs.Prelude.{IfSome}
use Rattle.client_node.specs.declared.node.ClientNode.{ClientNode}
use Rattle.journal_host.specs.Holds.{IsPlanAt}
use Rattle.journal_host.proofs.Clients.{found, found_node, busy_is}
use Rattle.journal_host.proofs.host.ClientHost.plan_at.Goals as goal

pub plan_at-requires : goal.plan_at-requires
plan_at-requires g c = found_node g.D.Disk.state c.args.self.now c.args.client c.in-Some.node.now c.requires c.in-Some.ensures.value

pub returns-in-Some-clause-busy : goal.returns-in-Some-clause-busy
returns-in-Some-clause-busy g c w h =
    let f = found g.D.Disk.state w c.args.self.now.clients c.args.client h.there c.in-Some.node.now c.in-Some.ensures.value in
    c.plan_at.ensures.busy f.0 f.2.client ∙ busy_is w c.args.client f.0 f.1

pub returns-in-Some-clause-plan : goal.returns-in-Some-clause-plan
returns-in-Some-clause-plan g c =
    subst (λ (o : Option (ClientNode _)). IfSome c.plan_at.result (IsPlanAt g.D.Disk.state o)) c.in-Some.ensures.value c.plan_at.ensures.plan
