-- What a gateway is, as its table has it.
use Rattle.std.specs.Prelude.{ℕ}
use Rattle.gate_tables.specs.Gate as gate
use Rattle.gate_tables.specs.Gate.{Sends}
use Rattle.gateway_core.specs.declared.gateway.Gateway.{Gateway}

abbrev pub state_of : Gateway → gate.Gateway
state_of gateway = record { starts = gateway.site.starts; running = gateway.running }

-- what is gathered to be sent
abbrev pub gathered : Gateway → Sends
gathered gateway = gateway.messages.items

abbrev pub number_of : Gateway → ℕ
number_of gateway = gateway.site.number

abbrev pub directory_of : Gateway → gate.Directory
directory_of gateway = gateway.site.directory
