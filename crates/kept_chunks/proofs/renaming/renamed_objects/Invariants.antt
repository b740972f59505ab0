use Rattle.std.proofs.Common.{◌≡◌, map, take}
use Rattle.kept_chunks.specs.Kept.{local_for, object_under}
use Rattle.kept_chunks.proofs.renaming.renamed_objects.Given as goal

abbrev pub invariant-loop-object : goal.invariant-loop-object
invariant-loop-object l = l.made ≡ map (object_under (local_for l.locals)) (take l.object-index l.objects)
