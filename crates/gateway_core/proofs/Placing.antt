-- Tables put into a directory one by one.
use Rattle.std.proofs.Common.{◌≡◌, Bool, true, false, cond, Option, Some, None, sym, ap, ◌∙◌}
use Rattle.std.specs.Ordering.{nat_cmp}
use Rattle.std.specs.FinSet as set
use Rattle.gate_tables.specs.declared.timer.Placed.{Placed}
use Rattle.gateway_core.specs.declared.directory.NamedTable.{NamedTable}
use Rattle.gateway_core.specs.Directories.{IsPlacedBy}

module _ (stores : set.FinSet nat_cmp) (named : NamedTable) where
  pub on_no_ring : stores ≡ set.empty → (same : Bool) (found : Option NamedTable) (old : Option Placed)
      → IsPlacedBy stores found old → IsPlacedBy stores (cond same (Some named) found) old
  on_no_ring is false found old before = before
  on_no_ring is true found None before = is
  on_no_ring is true None (Some place) before = absurd before
  on_no_ring is true (Some other) (Some place) before = let none = ap (λ (s : set.FinSet nat_cmp). set.contains s place.owner) is ∙ set.contains-empty nat_cmp place.owner in
      let there : true ≡ false = sym before.0.on_ring ∙ none in absurd (cc)
