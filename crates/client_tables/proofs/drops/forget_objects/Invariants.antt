use Rattle.std.proofs.Common.{take}
use Rattle.client_tables.specs.Drops.{names_of_objects, Forgets}
use Rattle.client_tables.proofs.drops.forget_objects.Given as goal

abbrev pub invariant-loop-object : goal.invariant-loop-object
invariant-loop-object l = Forgets l.initial.names l.names (names_of_objects (take l.object-index l.objects))
