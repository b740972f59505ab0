use Rattle.client_events.proofs.Each.{Resolving}
use Rattle.client_events.proofs.resolving.resolve_each.Given as goal

abbrev pub invariant-loop-pair : goal.invariant-loop-pair
invariant-loop-pair g l = Resolving g.D.Disk.state l.fn.clients l.clients l.client l.table l.by l.fn.pairs l.pair-iterator.rest.items
