use Rattle.std.proofs.Common.{◌≡◌, ◌-◌, ◌^◌, length, take}
use Rattle.std.specs.Prelude.{sum_by, min}
use Rattle.row_value.proofs.fit.len_of_objects.Given as goal

abbrev pub invariant-loop-object : goal.invariant-loop-object
invariant-loop-object l = l.len ≡ min (sum_by length (take l.object-index l.objects)) (2 ^ 64 - 1)
