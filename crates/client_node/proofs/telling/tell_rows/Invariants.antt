use Rattle.std.proofs.Common.{drop}
use Rattle.client_node.proofs.Retelling.{TellsRow}
use Rattle.client_node.proofs.telling.tell_rows.Given as goal

abbrev pub invariant-loop-tell : goal.invariant-loop-tell
invariant-loop-tell g l = TellsRow g.D.Disk.state g.D.Disk.images l.put.client l.put.table l.put.row l.put.slots l.tells l.fn.devs (drop l.tell-index l.tells) l.devs l.told.items
