use Rattle.std.proofs.Common.{drop}
use Rattle.store_host.proofs.Renewing.{AreRenewed}
use Rattle.store_host.proofs.joining.renew_all.Given as goal

abbrev pub invariant-loop-store : goal.invariant-loop-store
invariant-loop-store g l = AreRenewed l.tables l.fn.stores l.stores (drop l.store-index l.store-items)
