use Rattle.std.proofs.Common.{refl, sym, ap, ◌∙◌}
use Rattle.std.specs.Prelude.{option_map}
use Rattle.step_tables.specs.Facts as facts
use Rattle.world_tables.specs.World.{no_lucks}
use Rattle.gated_tables.specs.Net.{answered, device_at, of_session}
use Rattle.net_steps.specs.Devices.{device_of}
use Rattle.net_steps.proofs.Delivered.{delivers_as, still_delivers}
use Rattle.net_steps.proofs.world.World.of_session.Goals as goal

pub take_session-requires : goal.take_session-requires
take_session-requires g c =
    let k = c.requires.here in
    record { here = (k.0, k.1, record { here = k.2; device = sym k.3 ∙ ap (option_map device_of) c.in-Some.is }) }

pub returns-in-Some : goal.returns-in-Some
returns-in-Some g c is_out n x device =
    let at = sym device ∙ ap (option_map device_of) c.in-Some.is in
    delivers_as g.D.Disk.state g.D.Disk.images n (λ lucks. of_session n c.args.client c.args.answer.now (device_at n c.args.client))
    (λ lucks. answered n c.args.client c.args.answer.now (device_of c.in-Some.device)) (λ lucks. ap (of_session n c.args.client c.args.answer.now) at)
    c.take_session.result is_out c.args.self.now c.take_session.new.self (c.take_session.ensures is_out n (record { here = x; device = at }))

pub returns-in-None : goal.returns-in-None
returns-in-None g c is_out n x device =
    still_delivers g.D.Disk.state g.D.Disk.images n g.met.D.Disk.only_now is_out c.args.self.now x.reached x.held x.out
    (λ lucks. of_session n c.args.client c.args.answer.now (device_at n c.args.client)) no_lucks facts.Done refl
    (ap (of_session n c.args.client c.args.answer.now) (sym device ∙ ap (option_map device_of) c.in-None.is)) c.only.result c.only.ensures.lines c.only.ensures.memory
