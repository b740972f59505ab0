use Rattle.std.proofs.Common.{Some, refl}
use Rattle.step_tables.specs.Facts as facts
use Rattle.world_tables.specs.World.{no_lucks}
use Rattle.gated_tables.specs.Net.{still, with_device}
use Rattle.net_steps.specs.Devices.{device_of}
use Rattle.net_steps.specs.Delivering.{step_begun}
use Rattle.net_steps.proofs.Delivered.{delivers_as, still_delivers}
use Rattle.net_steps.proofs.Sessions.{begins_is, begins_not}
use Rattle.net_steps.proofs.world.World.take_begun.Goals as goal

pub returns-then-begins_session : goal.returns-then-begins_session
returns-then-begins_session g c is_out n x =
    let d = device_of c.args.device in
    delivers_as g.D.Disk.state g.D.Disk.images n (λ lucks. step_begun n c.args.client c.args.answer.now d)
    (λ lucks. still (with_device c.args.client (record d { token = Some c.args.answer.now.token }) n) facts.Done)
    (λ lucks. begins_is n c.args.client c.args.answer.now d c.begins_session.result c.begins_session.ensures c.if-begins_session.true)
    c.begin_session.result is_out c.args.self.now c.begin_session.new.self (c.begin_session.ensures is_out n x)

pub returns : goal.returns
returns g c is_out n x =
    let d = device_of c.args.device in
    still_delivers g.D.Disk.state g.D.Disk.images n g.met.D.Disk.only_now is_out c.args.self.now x.here.reached x.here.held x.here.out (λ lucks. step_begun n c.args.client c.args.answer.now d)
    no_lucks facts.Done refl (begins_not n c.args.client c.args.answer.now d c.begins_session.result c.begins_session.ensures c.if-begins_session.false)
    c.only.result c.only.ensures.lines c.only.ensures.memory
