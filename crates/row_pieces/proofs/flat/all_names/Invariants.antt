use Rattle.std.proofs.Common.{◌≡◌, ◌++◌, drop}
use Rattle.step_tables.specs.Chunks.{flat}
use Rattle.row_pieces.proofs.flat.all_names.Given as goal

abbrev pub invariant-loop-object : goal.invariant-loop-object
invariant-loop-object l = l.all.items ++ flat (drop l.object-index l.objects) ≡ flat l.objects
