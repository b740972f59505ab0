use Rattle.std.proofs.Common.{◌≡◌, ◌++◌, map, drop}
use Rattle.step_tables.specs.Chunks.{cut}
use Rattle.held_contents.specs.Request.{bytes_in}
use Rattle.held_contents.proofs.request.cut_objects.Given as goal

abbrev pub invariant-loop-object : goal.invariant-loop-object
invariant-loop-object l = bytes_in l.made ++ map (cut l.size) (drop l.object-index l.objects) ≡ map (cut l.size) l.objects
