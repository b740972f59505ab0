use Rattle.std.proofs.Common.{◌≡◌, ◌++◌}
use Rattle.gate_tables.specs.Gate.{notices, told_at_tick}
use Rattle.gateway_core.specs.Sessions.{sessions_in}
use Rattle.gateway_core.proofs.sessions.Sessions.told_at_tick.Given as goal

abbrev pub invariant-loop-client : goal.invariant-loop-client
invariant-loop-client l = l.sent.items ++ notices told_at_tick (sessions_in l.self-inside.slab l.client-iterator)
    ≡ notices told_at_tick (sessions_in l.self-inside.slab l.self-inside.places.entries)
