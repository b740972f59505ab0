use Rattle.std.proofs.Common.{◌≡◌, ◌++◌}
use Rattle.gate_tables.specs.Gate.{notices, told_of_change}
use Rattle.gateway_core.specs.Sessions.{sessions_in}
use Rattle.gateway_core.proofs.sessions.Sessions.told_of_change.Given as goal

abbrev pub invariant-loop-client : goal.invariant-loop-client
invariant-loop-client l = l.sent.items ++ notices (told_of_change l.table l.strong) (sessions_in l.self-inside.slab l.client-iterator)
    ≡ notices (told_of_change l.table l.strong) (sessions_in l.self-inside.slab l.self-inside.places.entries)
