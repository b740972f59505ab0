use Rattle.std.proofs.Common.{take}
use Rattle.client_tables.specs.Drops.{names_of_objects, Notes}
use Rattle.client_tables.proofs.drops.note_objects.Given as goal

abbrev pub invariant-loop-object : goal.invariant-loop-object
invariant-loop-object l = Notes l.initial.names l.names (names_of_objects (take l.object-index l.objects))
