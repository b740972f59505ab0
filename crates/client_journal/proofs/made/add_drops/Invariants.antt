use Rattle.std.proofs.Common.{◌≡◌, ◌++◌, take, map}
use Rattle.client_journal.specs.Agenda.{drops}
use Rattle.client_journal.specs.Standing.{write_of}
use Rattle.client_journal.proofs.made.add_drops.Given as goal

abbrev pub invariant-loop-name : goal.invariant-loop-name
invariant-loop-name l = map write_of l.tasks.items ≡ map write_of l.fn.tasks.items ++ drops (take l.name-index l.names)
