use Rattle.std.proofs.Common.{◌≡◌, ℕ, ◌<◌, true}
use Rattle.row_value.specs.Fit.{has_object}
use Rattle.row_value.proofs.fit.first_wrong_object.Given as goal

abbrev pub invariant-loop-place : goal.invariant-loop-place
invariant-loop-place l = (k : ℕ) → k < l.place → has_object l.objects k ≡ true
