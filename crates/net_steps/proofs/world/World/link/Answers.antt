use Rattle.std.proofs.Common.{◌≡◌, ◌⊎◌, Some, refl, sym}
use Rattle.table_model.specs.declared.event.Event.TheVariants as events
use Rattle.node_steps.specs.declared.fault.WorldFault.TheVariants.{Depot as DepotFailed}
use Rattle.wire_steps.specs.Steps.{IsWhole}
use Rattle.wire_steps.proofs.Answered.{send_limited}
use Rattle.wire_steps.proofs.Started.{sends_alone, sends_counted}
use Rattle.net_steps.specs.Devices.{device_of}
use Rattle.net_steps.specs.Steps.{IsUndone, Spends}
use Rattle.net_steps.proofs.Passing.{stands_at}
use Rattle.net_steps.proofs.Relinked.{link_carried, link_comes, link_overruns, plan_more}
use Rattle.net_steps.proofs.world.World.link.Goals as goal

pub link_gated-requires : goal.link_gated-requires
link_gated-requires g c =
    let k = c.requires.held in
    let is_out = (g.P.Depot.state c.args.depot.now).is_out in
    record { here = (is_out, k.0, record { stood = stands_at g.D.Disk.state is_out (events.Link c.args.client c.args.up) k.0 c.args.self.now k.1; device = sym (c.in-Some.ensures k.0 k.1.held) }) }

pub carry_out-requires-clause-held : goal.carry_out-requires-clause-held
carry_out-requires-clause-held g c =
    let k = c.requires.held in
    (k.0, k.1, link_carried k.0 c.args.client c.args.up (sym (c.in-None.ensures k.0 k.1.held)))

pub returns-in-Some-clause-done : goal.returns-in-Some-clause-done
returns-in-Some-clause-done g c n x =
    let is_out = (g.P.Depot.state c.args.depot.now).is_out in
    let at = sym (c.in-Some.ensures n x.held) in
    link_comes g.D.Disk.state g.D.Disk.images n c.args.client c.args.up is_out c.args.self.now c.link_gated.new.self (Some (device_of c.in-Some.device)) at c.link_gated.result
    (c.link_gated.ensures.done is_out n (record { stood = stands_at g.D.Disk.state is_out (events.Link c.args.client c.args.up) n c.args.self.now x; device = at }))

pub returns-in-Some-clause-over : goal.returns-in-Some-clause-over
returns-in-Some-clause-over g c n x =
    let is_out = (g.P.Depot.state c.args.depot.now).is_out in
    let at = sym (c.in-Some.ensures n x.held) in
    link_overruns g.D.Disk.state g.D.Disk.images n c.args.client c.args.up is_out c.args.self.now c.link_gated.new.self (Some (device_of c.in-Some.device)) at c.link_gated.result
    (c.link_gated.ensures.done is_out n (record { stood = stands_at g.D.Disk.state is_out (events.Link c.args.client c.args.up) n c.args.self.now x; device = at }))

pub returns-in-Some-clause-limit : goal.returns-in-Some-clause-limit
returns-in-Some-clause-limit g c n m x below = send_limited (Spends m n (events.Link c.args.client c.args.up)) c.link_gated.result c.link_gated.ensures.only

pub returns-in-Some-clause-plans : goal.returns-in-Some-clause-plans
returns-in-Some-clause-plans g c n m x below = plan_more g.D.Disk.state m c.link_gated.new.self (c.link_gated.ensures.plans m below)

pub returns-in-Some-clause-left : goal.returns-in-Some-clause-left
returns-in-Some-clause-left g c n x =
    sends_alone (IsUndone g.D.Disk.state n (g.P.Depot.state c.args.depot.now).is_out c.args.self.now c.link_gated.new.self)
    (λ e. IsWhole (events.Link c.args.client c.args.up) ⊎ (e ≡ DepotFailed)) c.link_gated.result c.link_gated.ensures.only

pub returns-in-Some-clause-depot : goal.returns-in-Some-clause-depot
returns-in-Some-clause-depot g c = sends_counted _ _ c.link_gated.result refl c.link_gated.ensures.only

pub returns-in-None-clause-done : goal.returns-in-None-clause-done
returns-in-None-clause-done g c n x = c.carry_out.ensures.done n x (link_carried n c.args.client c.args.up (sym (c.in-None.ensures n x.held)))

pub returns-in-None-clause-over : goal.returns-in-None-clause-over
returns-in-None-clause-over g c n x = c.carry_out.ensures.over n x (link_carried n c.args.client c.args.up (sym (c.in-None.ensures n x.held)))

pub returns-in-None-clause-limit : goal.returns-in-None-clause-limit
returns-in-None-clause-limit g c n m x below = c.carry_out.ensures.limit n m x (link_carried n c.args.client c.args.up (sym (c.in-None.ensures n x.held))) below
