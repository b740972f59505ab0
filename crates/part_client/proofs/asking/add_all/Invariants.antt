use Rattle.std.proofs.Common.{◌≡◌, List, ℕ}
use Rattle.std.specs.Prelude.{◌||◌}
use Rattle.std.specs.List.{list_any}
use Rattle.std.specs.BTreeMap.{is_at}
use Rattle.std.specs.BTreeSet.{contains}
use Rattle.step_tables.specs.Client.{row_cmp}
use Rattle.part_client.proofs.asking.add_all.Given as goal

abbrev pub invariant-loop-row : goal.invariant-loop-row
invariant-loop-row l =
    (q : List ℕ) → (contains row_cmp l.rows q || list_any (is_at (row_cmp q)) l.row-iterator) ≡ (contains row_cmp l.fn.rows q || contains row_cmp l.more q)
