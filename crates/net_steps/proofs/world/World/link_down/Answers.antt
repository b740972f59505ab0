use Rattle.std.proofs.Common.{false, refl}
use Rattle.std.proofs.lemmas.Result.{err_from_is_err_and}
use Rattle.gated_tables.specs.Net.{relinked}
use Rattle.net_steps.specs.Devices.{device_of}
use Rattle.net_steps.proofs.Delivered.{memory_delivers, all_send}
use Rattle.net_steps.proofs.Sessions.{is_there, is_client, begun_delivers}
use Rattle.net_steps.proofs.world.World.link_down.Goals as goal

pub returns-in_err-set_device-clause-done : goal.returns-in_err-set_device-clause-done
returns-in_err-set_device-clause-done g c is_out n x =
    let p = err_from_is_err_and c.from_residual.result c.from_residual.ensures.1 in
    rw p.1 (memory_delivers g.D.Disk.state g.D.Disk.images n (λ lucks. relinked n c.args.client false (device_of c.args.device)) p.0 p.2 is_out c.args.self.now c.set_device.new.self
    c.in_err-set_device.ensures.plans)

pub returns-clause-done : goal.returns-clause-done
returns-clause-done g c is_out n x =
    let k = c.in_ok-set_device.ensures in
    let there = is_there g.D.Disk.state g.D.Disk.images g.met.D.Disk.only_now is_out n c.args.client (device_of c.args.device) c.args.self.now x in
    let client = is_client g.D.Disk.state g.D.Disk.images g.met.D.Disk.only_now is_out n c.args.client (device_of c.args.device) c.args.self.now x in
    let e = record (device_of c.args.device) { linked = false } in
    begun_delivers g.D.Disk.state g.D.Disk.images g.met.D.Disk.only_now is_out n c.args.client (device_of c.args.device) c.args.self.now x e
    c.set_device.new.self (k.held n x.here.held there client) k.store k.faults k.plans (λ lucks. relinked n c.args.client false (device_of c.args.device)) refl
    c.only.result c.only.ensures.lines c.only.ensures.memory

pub returns-clause-only : goal.returns-clause-only
returns-clause-only g c = all_send c.only.result c.only.ensures.memory
