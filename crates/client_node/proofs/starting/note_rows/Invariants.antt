use Rattle.client_node.proofs.NotedAtStart.{HaveNoted}
use Rattle.client_node.proofs.starting.note_rows.Given as goal

abbrev pub invariant-loop-row : goal.invariant-loop-row
invariant-loop-row g l = HaveNoted g.D.Disk.state g.D.Disk.images l.fn.devs l.table l.rows l.fn.waiting l.row-index l.devs l.waiting
