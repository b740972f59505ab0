use Rattle.client_node.proofs.AskedAgain.{HavePassed}
use Rattle.client_node.proofs.requesting.first_between.Given as goal

abbrev pub invariant-loop-key : goal.invariant-loop-key
invariant-loop-key g l = HavePassed g.D.Disk.state g.D.Disk.images l.fn.devs l.table l.initial.key-iterator l.devs l.key-iterator l.fn.stale.items l.stale.items
