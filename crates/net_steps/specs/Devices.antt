-- What the program has of the clients with gateways.
use Rattle.std.specs.Prelude.{◌≡◌, ℕ, List, option_map}
use Rattle.std.specs.Ordering.{nat_cmp}
use Rattle.std.specs.Map.{lookup}
use Rattle.std.specs.BTreeMap as tree
use Rattle.std.specs.BTreeMap.{is_at}
use Rattle.gated_tables.specs.Devices as tables
use Rattle.net_steps.specs.declared.device.Device.{Device}

abbrev pub device_of : Device → tables.Device
device_of it = record { gate = it.gate; linked = it.linked; token = it.token }

-- of each client
abbrev pub HoldsDevices : List (ℕ × tables.Device) → tree.BTreeMap ℕ Device → Type 0
HoldsDevices devices held =
    (c : ℕ) → lookup (is_at (nat_cmp c)) devices ≡ option_map device_of (tree.get nat_cmp held c)
