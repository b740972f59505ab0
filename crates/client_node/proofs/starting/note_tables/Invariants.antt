use Rattle.client_node.proofs.NotedAtStart.{HaveHeld}
use Rattle.client_node.proofs.starting.note_tables.Given as goal

abbrev pub invariant-loop-table : goal.invariant-loop-table
invariant-loop-table g l = HaveHeld g.D.Disk.state g.D.Disk.images l.fn.devs l.rolled l.table l.devs l.waiting
