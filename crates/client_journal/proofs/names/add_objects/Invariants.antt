use Rattle.std.proofs.Common.{◌≡◌, ◌++◌, take}
use Rattle.client_journal.specs.Names.{names_of_objects}
use Rattle.client_journal.proofs.names.add_objects.Given as goal

abbrev pub invariant-loop-object : goal.invariant-loop-object
invariant-loop-object l = l.names.items ≡ l.initial.names.items ++ names_of_objects (take l.object-index l.objects)
