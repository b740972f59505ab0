use Rattle.std.proofs.Common.{◌≡◌, [], refl, subst}
use Rattle.row_value.specs.Fit.{fit_of, has_cell, wrong_in}
use Rattle.world_tables.specs.Turns.{turns}
use Rattle.asked_laws.specs.Asked.{AreAsked}
use Rattle.asked_laws.specs.Worked.{resolved_late, resolved_late_written}
use Rattle.asked_laws.proofs.Runs.{all_asked}
use Rattle.asked_laws.proofs.a_resolving_asked_for_before_its_conflict.Goals as goal

is_written : turns resolved_late ≡ resolved_late_written []
unfolding fit_of has_cell wrong_in
is_written = refl

pub returns-clause-run : goal.returns-clause-run
returns-clause-run c = is_written

pub returns-clause-asked : goal.returns-clause-asked
returns-clause-asked c = subst AreAsked is_written (all_asked resolved_late)

pub returns-clause-before : goal.returns-clause-before
returns-clause-before c = λ all. absurd (let e = all.1.1.1.1.1.1.1.1.1.1.1.1.1.1.1.1.1.1.1.0.1.0 in cc)
