use Rattle.std.proofs.Common.{◌≡◌, ◌++◌, drop}
use Rattle.std.specs.BTreeSet.{insert_key}
use Rattle.slot_store.specs.Data.{key_cmp}
use Rattle.client_journal.specs.Scan.{with_waiting}
use Rattle.client_journal.proofs.scan.with_key.Given as goal

abbrev pub invariant-loop-next : goal.invariant-loop-next
invariant-loop-next l = l.made.items ++ with_waiting l.waits (drop l.next-index l.keys) ≡ insert_key key_cmp l.keys l.fn.key
