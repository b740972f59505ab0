use Rattle.std.proofs.Common.{◌≡◌, take}
use Rattle.row_value.specs.Fit.{chunks_of}
use Rattle.row_value.proofs.fit.chunks_of.Given as goal

abbrev pub invariant-loop-object : goal.invariant-loop-object
invariant-loop-object l = l.count ≡ chunks_of l.size (take l.object-index l.objects)
