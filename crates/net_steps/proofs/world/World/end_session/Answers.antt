use Rattle.std.proofs.Common.{◌∙◌, None}
use Rattle.std.proofs.lemmas.Result.{err_from_is_err_and}
use Rattle.gated_tables.specs.Net.{asks_session, with_device}
use Rattle.net_steps.specs.Devices.{device_of}
use Rattle.net_steps.proofs.Delivered.{memory_delivers}
use Rattle.net_steps.proofs.Sessions.{is_there, is_client, asks_delivers, asks_fails}
use Rattle.net_steps.proofs.world.World.end_session.Goals as goal

pub ask-requires : goal.ask-requires
ask-requires g c =
    let k = c.requires.here in
    record { client = is_client g.D.Disk.state g.D.Disk.images g.met.D.Disk.only_now k.0 k.1 c.args.client (device_of c.args.device) c.args.self.now k.2 }

pub returns-in_err-lines : goal.returns-in_err-lines
returns-in_err-lines g c is_out n x =
    let p = err_from_is_err_and c.from_residual.result c.from_residual.ensures.1 in
    rw p.1 (memory_delivers g.D.Disk.state g.D.Disk.images n (λ lucks. asks_session (with_device c.args.client (record (device_of c.args.device) { token = None }) n) c.args.client (device_of c.args.device))
    p.0 (p.2 ∙ c.in_err-lines.ensures.memory) is_out c.args.self.now c.args.self.now (λ m below. below))

pub returns-in_err-set_device : goal.returns-in_err-set_device
returns-in_err-set_device g c is_out n x =
    let p = err_from_is_err_and c.from_residual-in_err-set_device.result c.from_residual-in_err-set_device.ensures.1 in
    rw p.1 (memory_delivers g.D.Disk.state g.D.Disk.images n (λ lucks. asks_session (with_device c.args.client (record (device_of c.args.device) { token = None }) n) c.args.client (device_of c.args.device))
    p.0 p.2 is_out c.args.self.now c.set_device.new.self c.in_err-set_device.ensures.plans)

pub returns-in_err-ask : goal.returns-in_err-ask
returns-in_err-ask g c is_out n x =
    let p = err_from_is_err_and c.from_residual-in_err-ask.result c.from_residual-in_err-ask.ensures.1 in
    let k = c.in_ok-set_device.ensures in
    let there = is_there g.D.Disk.state g.D.Disk.images g.met.D.Disk.only_now is_out n c.args.client (device_of c.args.device) c.args.self.now x in
    let client = is_client g.D.Disk.state g.D.Disk.images g.met.D.Disk.only_now is_out n c.args.client (device_of c.args.device) c.args.self.now x in
    let held = k.held n x.here.held there client in
    rw (p.1, p.2) (asks_fails g.D.Disk.state g.D.Disk.images g.met.D.Disk.only_now is_out n c.args.client (device_of c.args.device) c.args.self.now x (record (device_of c.args.device) { token = None })
    c.set_device.new.self held k.store k.faults k.plans c.ask.new.self c.in_err-ask.ensures.same c.in_err-ask.field-0.0 c.in_err-ask.ensures.only
    (c.in_err-ask.ensures.over _ _ held.sent))

pub returns : goal.returns
returns g c is_out n x =
    let k = c.in_ok-set_device.ensures in
    let there = is_there g.D.Disk.state g.D.Disk.images g.met.D.Disk.only_now is_out n c.args.client (device_of c.args.device) c.args.self.now x in
    let client = is_client g.D.Disk.state g.D.Disk.images g.met.D.Disk.only_now is_out n c.args.client (device_of c.args.device) c.args.self.now x in
    let held = k.held n x.here.held there client in
    asks_delivers g.D.Disk.state g.D.Disk.images g.met.D.Disk.only_now is_out n c.args.client (device_of c.args.device) c.args.self.now x (record (device_of c.args.device) { token = None })
    c.set_device.new.self held k.store k.faults k.plans c.ask.new.self c.in_ok-ask.ensures.same c.in_ok-lines.lines c.ask.new.lines c.in_ok-lines.ensures.lines
    (c.in_ok-ask.ensures.sent _ _ held.sent)
