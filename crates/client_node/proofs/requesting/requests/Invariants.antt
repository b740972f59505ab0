use Rattle.client_node.proofs.AskedAgain.{HaveAsked}
use Rattle.client_node.proofs.requesting.requests.Given as goal

abbrev pub invariant-loop-row : goal.invariant-loop-row
invariant-loop-row g l = HaveAsked g.D.Disk.state g.D.Disk.images l.fn.devs l.client l.table l.rows l.devs l.row-index l.sends.items l.fn.stale.items l.stale.items
