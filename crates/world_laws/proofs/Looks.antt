-- What a world finds behind a change of one of its maps.
use Rattle.std.proofs.Common.{◌≡◌, ◌≢◌, ◌⊎◌, ℕ, List, Option, Some, None, arith}
use Rattle.std.proofs.lemmas.Bool.Decides.{nat_tests}
use Rattle.std.specs.Ordering.{nat_cmp}
use Rattle.std.specs.Map.{lookup}
use Rattle.std.specs.BTreeMap.{is_at, insert_entry}
use Rattle.step_tables.proofs.Lists.{lookup-insert_nat}

pub look_cases : {V : Type 0} (es : List (ℕ × V)) (k : ℕ) (v : V) (q : ℕ)
    → ((q ≡ k) × (lookup (is_at (nat_cmp q)) (insert_entry nat_cmp es k v) ≡ Some v))
    ⊎ ((q ≢ k) × (lookup (is_at (nat_cmp q)) (insert_entry nat_cmp es k v) ≡ lookup (is_at (nat_cmp q)) es))
look_cases es k v q = grind (arith, nat_tests, lookup-insert_nat es k v q)
