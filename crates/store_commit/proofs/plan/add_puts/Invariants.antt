use Rattle.std.proofs.Common.{◌≡◌, ◌++◌, length, take, map}
use Rattle.value_codec.specs.Spelling.{pieces_of}
use Rattle.store_commit.specs.NamedChunks.{names_in}
use Rattle.store_commit.specs.Agenda.{named_object, puts, drops}
use Rattle.store_commit.specs.Standing.{write_of}
use Rattle.store_commit.proofs.plan.add_puts.Given as goal

abbrev pub invariant-loop-bytes : goal.invariant-loop-bytes
invariant-loop-bytes l = record { count : l.ordinal ≡ length l.yielded; done : map write_of l.tasks.items ≡ map write_of l.fn.tasks.items ++ puts l.version 0 l.yielded }
