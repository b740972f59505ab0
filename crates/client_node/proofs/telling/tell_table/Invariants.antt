use Rattle.std.proofs.Common.{None, drop}
use Rattle.client_node.proofs.Retelling.{TellsOn}
use Rattle.client_node.proofs.telling.tell_table.Given as goal

abbrev pub invariant-loop-tell : goal.invariant-loop-tell
invariant-loop-tell l = TellsOn l.client l.table None l.tells (drop l.tell-index l.tells) l.told.items
