use Rattle.std.proofs.Common.{sym, ◌∙◌, arith}
use Rattle.row_value.specs.Fit.{has_object}
use Rattle.row_value.proofs.Wrongs.{wrong_in-first, wrong_in-none}
use Rattle.row_value.proofs.fit.first_wrong_object.Goals as goal

pub returns-then-not-is_short-clause-value : goal.returns-then-not-is_short-clause-value
returns-then-not-is_short-clause-value c =
    sym (wrong_in-first (has_object c.args.objects.now) _ _ c.loop-place-test.true (sym c.is_short.ensures ∙ c.if-not-is_short.true) c.loop-place.invariant)

pub returns-clause-value : goal.returns-clause-value
returns-clause-value c = sym (wrong_in-none (has_object c.args.objects.now) _ (λ k h. c.loop-place.invariant k (omega arith)))
