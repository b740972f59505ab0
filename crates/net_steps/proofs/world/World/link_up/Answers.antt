use Rattle.std.proofs.Common.{◌∙◌, true, Ok, refl, ap}
use Rattle.std.proofs.lemmas.Result.{err_from_is_err_and}
use Rattle.step_tables.specs.Facts as facts
use Rattle.world_tables.specs.World.{no_lucks}
use Rattle.gated_tables.specs.Net.{relinked}
use Rattle.net_steps.specs.Devices.{device_of}
use Rattle.net_steps.proofs.Delivered.{memory_delivers, still_delivers}
use Rattle.net_steps.proofs.Sessions.{is_there, is_client}
use Rattle.net_steps.proofs.Relinked.{linked_already, asks_linked, asks_not_linked}
use Rattle.net_steps.specs.declared.world.World.{World}
use Rattle.net_steps.proofs.Passing.{plans_too}
use Rattle.net_steps.proofs.world.World.link_up.Goals as goal

pub ask-requires : goal.ask-requires
ask-requires g c =
    let k = c.requires.here in
    record { client = is_client g.D.Disk.state g.D.Disk.images g.met.D.Disk.only_now k.0 k.1 c.args.client (device_of c.args.device) c.args.self.now k.2 }

pub returns-in_err-lines-clause-done : goal.returns-in_err-lines-clause-done
returns-in_err-lines-clause-done g c is_out n x =
    let p = err_from_is_err_and c.from_residual.result c.from_residual.ensures.1 in
    rw p.1 (memory_delivers g.D.Disk.state g.D.Disk.images n (λ lucks. relinked n c.args.client true (device_of c.args.device)) p.0 (p.2 ∙ c.in_err-lines.ensures.memory) is_out c.args.self.now
    c.args.self.now (λ m below. below))

pub returns-then-device-clause-done : goal.returns-then-device-clause-done
returns-then-device-clause-done g c is_out n x =
    still_delivers g.D.Disk.state g.D.Disk.images n g.met.D.Disk.only_now is_out c.args.self.now x.here.reached x.here.held x.here.out
    (λ lucks. relinked n c.args.client true (device_of c.args.device)) no_lucks facts.Done refl (linked_already n c.args.client (device_of c.args.device) c.if-device.true)
    (Ok c.in_ok-lines.lines) c.in_ok-lines.ensures.lines tt

pub returns-in_err-set_device-clause-done : goal.returns-in_err-set_device-clause-done
returns-in_err-set_device-clause-done g c is_out n x =
    let p = err_from_is_err_and c.from_residual-in_err-set_device.result c.from_residual-in_err-set_device.ensures.1 in
    rw p.1 (memory_delivers g.D.Disk.state g.D.Disk.images n (λ lucks. relinked n c.args.client true (device_of c.args.device)) p.0 p.2 is_out c.args.self.now c.set_device.new.self
    c.in_err-set_device.ensures.plans)

pub returns-in_err-ask-clause-done : goal.returns-in_err-ask-clause-done
returns-in_err-ask-clause-done g c is_out n x =
    let p = err_from_is_err_and c.from_residual-in_err-ask.result c.from_residual-in_err-ask.ensures.1 in
    let k = c.in_ok-set_device.ensures in
    let there = is_there g.D.Disk.state g.D.Disk.images g.met.D.Disk.only_now is_out n c.args.client (device_of c.args.device) c.args.self.now x in
    let client = is_client g.D.Disk.state g.D.Disk.images g.met.D.Disk.only_now is_out n c.args.client (device_of c.args.device) c.args.self.now x in
    let held = k.held n x.here.held there client in
    rw (p.1, p.2) (asks_not_linked g.D.Disk.state g.D.Disk.images g.met.D.Disk.only_now is_out n c.args.client (device_of c.args.device) c.args.self.now x c.if-device.false
    c.set_device.new.self held k.store k.faults k.plans c.ask.new.self c.in_err-ask.ensures.same c.in_err-ask.field-0.0 c.in_err-ask.ensures.only
    (c.in_err-ask.ensures.over _ _ held.sent))

pub returns-clause-done : goal.returns-clause-done
returns-clause-done g c is_out n x =
    let k = c.in_ok-set_device.ensures in
    let there = is_there g.D.Disk.state g.D.Disk.images g.met.D.Disk.only_now is_out n c.args.client (device_of c.args.device) c.args.self.now x in
    let client = is_client g.D.Disk.state g.D.Disk.images g.met.D.Disk.only_now is_out n c.args.client (device_of c.args.device) c.args.self.now x in
    let held = k.held n x.here.held there client in
    asks_linked g.D.Disk.state g.D.Disk.images g.met.D.Disk.only_now is_out n c.args.client (device_of c.args.device) c.args.self.now x c.if-device.false
    c.set_device.new.self held k.store k.faults k.plans c.ask.new.self c.in_ok-ask.ensures.same c.in_ok-lines.lines c.ask.new.lines c.in_ok-lines.ensures.lines
    (c.in_ok-ask.ensures.sent _ _ held.sent)

pub returns-in_err-ask-clause-plans : goal.returns-in_err-ask-clause-plans
returns-in_err-ask-clause-plans g c m below =
    plans_too g.D.Disk.state m c.set_device.new.self c.ask.new.self (ap (λ (y : World g.row.D.Denot). y.wire) c.in_err-ask.ensures.same) (c.in_ok-set_device.ensures.plans m below)

pub returns-clause-plans : goal.returns-clause-plans
returns-clause-plans g c m below =
    plans_too g.D.Disk.state m c.set_device.new.self c.ask.new.self (ap (λ (y : World g.row.D.Denot). y.wire) c.in_ok-ask.ensures.same) (c.in_ok-set_device.ensures.plans m below)
