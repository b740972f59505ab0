use Rattle.std.proofs.Common.{refl, sym}
use Rattle.step_tables.specs.Facts as facts
use Rattle.world_tables.specs.World.{client_at}
use Rattle.gated_tables.specs.Net.{agenda_in, device_at, if_idle, of_session}
use Rattle.net_steps.proofs.Delivered.{delivers_as, still_delivers}
use Rattle.net_steps.proofs.Sessions.{with_plan, busy_idle, idle_on}
use Rattle.net_steps.proofs.world.World.take_idle.Goals as goal

pub plan_at-requires : goal.plan_at-requires
plan_at-requires g c = let k = c.requires.here in (k.1.wire, k.2.held.wire)

pub of_session-requires : goal.of_session-requires
of_session-requires g c = record { here = c.requires.here }

pub returns-in-Some : goal.returns-in-Some
returns-in-Some g c is_out n x device =
    let step = of_session n c.args.client c.args.answer.now (device_at n c.args.client) in
    still_delivers g.D.Disk.state g.D.Disk.images n g.met.D.Disk.only_now is_out c.args.self.now x.reached x.held x.out
    (λ lucks. if_idle n lucks (agenda_in (client_at n.wire.world c.args.client)) step) (with_plan c.in-Some.with) (facts.Refuses (facts.Busy c.in-Some.with)) refl
    (busy_idle n (client_at n.wire.world c.args.client) c.in-Some.with (λ lucks. step) (sym (c.in-Some.ensures.busy n.wire x.held.wire)))
    c.only.result c.only.ensures.lines c.only.ensures.memory

pub returns : goal.returns
returns g c is_out n x device =
    let step = of_session n c.args.client c.args.answer.now (device_at n c.args.client) in
    delivers_as g.D.Disk.state g.D.Disk.images n (λ lucks. if_idle n lucks (agenda_in (client_at n.wire.world c.args.client)) step) (λ lucks. step)
    (λ lucks. idle_on n lucks (client_at n.wire.world c.args.client) step (sym (c.in_default.ensures.busy n.wire x.held.wire)))
    c.of_session.result is_out c.args.self.now c.of_session.new.self (c.of_session.ensures is_out n x device)
