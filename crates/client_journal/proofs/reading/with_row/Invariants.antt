use Rattle.std.proofs.Common.{take}
use Rattle.std.specs.BTreeSet.{keys}
use Rattle.client_journal.specs.Asking.{HaveSameIds}
use Rattle.client_journal.proofs.reading.with_row.Given as goal

abbrev pub invariant-loop-id : goal.invariant-loop-id
invariant-loop-id l = HaveSameIds (keys l.ids) (take l.id-index l.rows)
