use Rattle.std.proofs.Common.{eqb, refl}
use Rattle.std.specs.Ordering.{nat_cmp}
use Rattle.std.specs.BTreeMap as tree
use Rattle.gateway_core.proofs.Placing.{on_no_ring}
use Rattle.gateway_core.proofs.directory.place.Goals as goal

pub returns-in_default : goal.returns-in_default
returns-in_default c = λ table found before. on_no_ring c.args.ring.now c.args.named.now (c.in_default.ensures.none.0 refl)
    (eqb c.args.named.now.table table) found (tree.get nat_cmp c.args.places.now table) before
