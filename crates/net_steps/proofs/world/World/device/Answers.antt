use Rattle.std.proofs.Common.{ap, sym, ◌∙◌}
use Rattle.std.specs.Prelude.{option_map}
use Rattle.net_steps.specs.Devices.{device_of}
use Rattle.net_steps.proofs.world.World.device.Goals as goal

pub returns : goal.returns
returns g c n h = ap (option_map device_of) c.copied.ensures ∙ (ap (option_map device_of) c.get.ensures.value ∙ sym (h.devices c.args.client))
