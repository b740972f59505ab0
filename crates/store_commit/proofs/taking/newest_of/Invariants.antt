use Rattle.std.proofs.Common.{take}
use Rattle.std.specs.BTreeSet.{contains}
use Rattle.row_store.specs.Data.{id_cmp}
use Rattle.store_commit.specs.TakesOn.{IsNewestOf}
use Rattle.store_commit.proofs.taking.newest_of.Given as goal

abbrev pub invariant-loop-row : goal.invariant-loop-row
invariant-loop-row l = IsNewestOf (contains id_cmp l.hidden) (take l.row-index l.rows) l.newest
