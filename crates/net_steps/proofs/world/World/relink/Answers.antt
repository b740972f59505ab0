use Rattle.std.proofs.Common.{Bool, sym, subst}
use Rattle.gated_tables.specs.Net.{relinked}
use Rattle.net_steps.specs.Delivering.{Delivers}
use Rattle.net_steps.specs.Devices.{device_of}
use Rattle.net_steps.proofs.world.World.relink.Goals as goal

pub returns-then-up-clause-done : goal.returns-then-up-clause-done
returns-then-up-clause-done g c is_out n x =
    subst (λ (b : Bool). Delivers g.D.Disk.state g.D.Disk.images n (λ lucks. relinked n c.args.client b (device_of c.args.device)) c.link_up.result is_out c.args.self.now c.link_up.new.self)
    (sym c.if-up.true) (c.link_up.ensures.done is_out n x)

pub returns-clause-done : goal.returns-clause-done
returns-clause-done g c is_out n x =
    subst (λ (b : Bool). Delivers g.D.Disk.state g.D.Disk.images n (λ lucks. relinked n c.args.client b (device_of c.args.device)) c.link_down.result is_out c.args.self.now c.link_down.new.self)
    (sym c.if-up.false) (c.link_down.ensures.done is_out n x)
