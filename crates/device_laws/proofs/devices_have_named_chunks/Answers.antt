use Rattle.device_laws.proofs.NamedDevices.{meaning, named_chunks}
use Rattle.device_laws.proofs.devices_have_named_chunks.Goals as goal

pub returns : goal.returns
returns c = λ schema d disk some st. (meaning schema d disk st, named_chunks schema d disk st)
