use Rattle.std.proofs.Common.{ℕ, take}
use Rattle.std.specs.Ordering.{nat_cmp}
use Rattle.std.specs.BTreeMap as tree
use Rattle.gateway_core.specs.Directories.{IsPlacedBy, last_named}
use Rattle.gateway_core.proofs.directory.place_all.Given as goal

abbrev pub invariant-loop-named : goal.invariant-loop-named
invariant-loop-named l = (table : ℕ) → IsPlacedBy l.ring (last_named table (take l.named-index l.tables)) (tree.get nat_cmp l.places table)
