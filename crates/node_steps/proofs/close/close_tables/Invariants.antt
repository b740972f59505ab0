use Rattle.std.proofs.Common.{◌≡◌, ◌≤◌, ℕ, length}
use Rattle.std.specs.Ordering.{nat_cmp}
use Rattle.std.specs.Map.{keys_of}
use Rattle.std.specs.List.Sorted.{IsStrictlySortedBy}
use Rattle.node_steps.proofs.Closing.{AreTablesClosing}
use Rattle.node_steps.proofs.close.close_tables.Given as goal

abbrev pub invariant-tables : goal.invariant-tables
invariant-tables g l = record {
  closing : AreTablesClosing l.fn.store.tables l.store.tables (g.P.Depot.state l.depot).is_out (g.P.Depot.returned l.depot);
  rising : IsStrictlySortedBy nat_cmp (keys_of l.store.tables.entries);
  others : (k : ℕ) → 192 ≤ k → (g.P.Depot.state l.depot).is_out k ≡ (g.P.Depot.state l.fn.depot).is_out k;
  faults : (g.P.Depot.state l.depot).faults ≡ (g.P.Depot.state l.fn.depot).faults;
}

abbrev pub decreases-tables : goal.decreases-tables
decreases-tables g l = length l.store.tables.entries
