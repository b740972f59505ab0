use Rattle.std.proofs.Common.{◌+◌, sym, subst}
use Rattle.table_model.specs.declared.event.Event.{Event}
use Rattle.net_steps.specs.Calls.{IsLimited}
use Rattle.net_steps.specs.Holds.{IsAt}
use Rattle.net_steps.specs.Steps.{HavePlansBelow, may_begin}
use Rattle.net_steps.proofs.world.World.join.Goals as goal

pub returns-clause-limit : goal.returns-clause-limit
returns-clause-limit g c n m at below =
    let out = (g.P.Depot.state c.args.depot.now).is_out in
    subst (λ (e : Event). IsLimited m n e c.join_by.result) (sym c.in-Client.is)
    (c.join_by.ensures.limit n m (subst (λ (e : Event). IsAt g.D.Disk.state out e n c.args.self.now) c.in-Client.is at) below)

pub returns-clause-plans : goal.returns-clause-plans
returns-clause-plans g c n m at below =
    let out = (g.P.Depot.state c.args.depot.now).is_out in
    subst (λ (e : Event). HavePlansBelow g.D.Disk.state (may_begin n e + m) c.join_by.new.self) (sym c.in-Client.is)
    (c.join_by.ensures.plans n m (subst (λ (e : Event). IsAt g.D.Disk.state out e n c.args.self.now) c.in-Client.is at) below)
