use Rattle.std.proofs.Common.{◌≡◌, ◌++◌}
use Rattle.store_host.specs.Joining.{kept_by}
use Rattle.store_host.proofs.tables.numbers_of.Given as goal

abbrev pub invariant-loop-table : goal.invariant-loop-table
invariant-loop-table g l = l.numbers ++ kept_by l.store l.table-iterator ≡ kept_by l.store l.tables.entries
