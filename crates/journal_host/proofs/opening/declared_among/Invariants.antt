use Rattle.std.proofs.Common.{◌≡◌, ◌++◌, drop}
use Rattle.journal_host.specs.Opening.{declared_among}
use Rattle.journal_host.proofs.opening.declared_among.Given as goal

abbrev pub invariant-loop-table : goal.invariant-loop-table
invariant-loop-table l = l.found.items ++ declared_among l.schemas (drop l.table-index l.tables) ≡ declared_among l.schemas l.tables
