use Rattle.std.proofs.Common.{◌≡◌, ◌++◌, drop}
use Rattle.std.specs.Prelude.{map}
use Rattle.step_tables.specs.ClientMoves.{torn_from}
use Rattle.step_tables.specs.Travels.{send_of}
use Rattle.client_node.proofs.calls.pulling.requests_whole.Given as goal

abbrev pub invariant-loop-row : goal.invariant-loop-row
invariant-loop-row l = map send_of l.requests.items ++ map (torn_from l.client l.table) (drop l.row-index l.asks) ≡ map (torn_from l.client l.table) l.asks
