use Rattle.client_node.proofs.Contended.{HavePairs}
use Rattle.client_node.proofs.calls.listing.pairs_of.Given as goal

abbrev pub invariant-loop-row : goal.invariant-loop-row
invariant-loop-row g l = HavePairs g.D.Disk.state g.D.Disk.images l.fn.devs l.table l.rows l.devs l.row-index l.pairs.items l.fn.calm.items l.calm.items
