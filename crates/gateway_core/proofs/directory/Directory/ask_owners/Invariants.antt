use Rattle.std.proofs.Common.{◌≡◌, ◌++◌, map}
use Rattle.gate_tables.specs.Gate.{asks}
use Rattle.gateway_core.proofs.directory.Directory.ask_owners.Given as goal

abbrev pub invariant-loop-store : goal.invariant-loop-store
invariant-loop-store l = l.sent.items ++ map (asks l.number l.client) l.store-iterator ≡ map (asks l.number l.client) l.self.owners
