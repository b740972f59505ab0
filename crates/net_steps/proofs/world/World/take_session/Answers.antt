use Rattle.std.proofs.Common.{None}
use Rattle.gated_tables.specs.Net.{answered, asks_session, with_device}
use Rattle.net_steps.specs.Devices.{device_of}
use Rattle.net_steps.specs.Delivering.{step_begun}
use Rattle.net_steps.proofs.Delivered.{delivers_as}
use Rattle.net_steps.proofs.Sessions.{ends_is, ends_not}
use Rattle.net_steps.proofs.world.World.take_session.Goals as goal

pub returns-then-ends_session : goal.returns-then-ends_session
returns-then-ends_session g c is_out n x =
    let d = device_of c.args.device in
    delivers_as g.D.Disk.state g.D.Disk.images n (λ lucks. answered n c.args.client c.args.answer.now d)
    (λ lucks. asks_session (with_device c.args.client (record d { token = None }) n) c.args.client d)
    (λ lucks. ends_is n c.args.client c.args.answer.now d c.ends_session.result c.ends_session.ensures c.if-ends_session.true)
    c.end_session.result is_out c.args.self.now c.end_session.new.self (c.end_session.ensures is_out n x)

pub returns : goal.returns
returns g c is_out n x =
    let d = device_of c.args.device in
    delivers_as g.D.Disk.state g.D.Disk.images n (λ lucks. answered n c.args.client c.args.answer.now d) (λ lucks. step_begun n c.args.client c.args.answer.now d)
    (λ lucks. ends_not n c.args.client c.args.answer.now d c.ends_session.result c.ends_session.ensures c.if-ends_session.false)
    c.take_begun.result is_out c.args.self.now c.take_begun.new.self (c.take_begun.ensures is_out n x)
