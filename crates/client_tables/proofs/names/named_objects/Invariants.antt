use Rattle.std.proofs.Common.{◌≡◌, ◌++◌, drop}
use Rattle.client_tables.specs.Names.{named_objects}
use Rattle.client_tables.proofs.names.named_objects.Given as goal

abbrev pub invariant-loop-object : goal.invariant-loop-object
invariant-loop-object l = l.named ++ named_objects l.version l.rest (drop l.object-index l.objects) ≡ named_objects l.version l.pieces l.objects
