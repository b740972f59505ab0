use Rattle.std.proofs.Common.{◌≡◌, ◌++◌, length, map}
use Rattle.client_journal.specs.Agenda.{puts}
use Rattle.client_journal.specs.Standing.{write_of}
use Rattle.client_journal.proofs.made.add_puts.Given as goal

abbrev pub invariant-loop-bytes : goal.invariant-loop-bytes
invariant-loop-bytes l = record { count : l.ordinal ≡ length l.yielded; done : map write_of l.tasks.items ≡ map write_of l.fn.tasks.items ++ puts l.plan 0 l.yielded }
