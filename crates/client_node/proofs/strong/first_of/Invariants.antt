use Rattle.client_node.proofs.Outstanding.{NoneBefore}
use Rattle.client_node.proofs.strong.first_of.Given as goal

abbrev pub invariant-loop-row : goal.invariant-loop-row
invariant-loop-row g l = NoneBefore g.D.Disk.state g.D.Disk.images l.fn.devs l.table l.rows l.devs l.row-index l.fn.stale.items l.stale.items
