use Rattle.std.proofs.Common.{Option, sym, ◌∙◌, ap}
use Rattle.std.specs.Prelude.{not, option_map}
use Rattle.gated_tables.specs.Net.{is_linked}
use Rattle.net_steps.specs.Devices.{device_of}
use Rattle.net_steps.specs.declared.device.Device.{Device}
use Rattle.net_steps.proofs.world.World.is_linked.Goals as goal

pub returns-in-Some : goal.returns-in-Some
returns-in-Some g c n h = ap (λ (o : Option Device). is_linked n c.args.client (option_map device_of o)) (sym c.in-Some.is)

pub returns-in-None : goal.returns-in-None
returns-in-None g c n h = ap not (c.is_cut.ensures n.wire h.wire) ∙ ap (λ (o : Option Device). is_linked n c.args.client (option_map device_of o)) (sym c.in-None.is)
