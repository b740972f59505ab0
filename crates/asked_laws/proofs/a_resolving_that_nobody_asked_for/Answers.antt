use Rattle.std.proofs.Common.{◌≡◌, refl, subst}
use Rattle.row_value.specs.Fit.{fit_of, has_cell, wrong_in}
use Rattle.step_tables.specs.Facts as facts
use Rattle.world_tables.specs.Turns.{turns}
use Rattle.asked_laws.specs.Asked.{AreAsked}
use Rattle.asked_laws.specs.Worked.{takes_theirs, resolved, resolved_by}
use Rattle.asked_laws.proofs.Runs.{all_asked}
use Rattle.asked_laws.proofs.a_resolving_that_nobody_asked_for.Goals as goal

is_written : turns resolved ≡ resolved_by takes_theirs (facts.Number 0)
unfolding fit_of has_cell wrong_in
is_written = refl

pub returns-clause-run : goal.returns-clause-run
returns-clause-run c = is_written

pub returns-clause-asked : goal.returns-clause-asked
returns-clause-asked c = subst AreAsked is_written (all_asked resolved)

pub returns-clause-other_event : goal.returns-clause-other_event
returns-clause-other_event c = λ all. absurd (let e = all.1.1.1.1.1.1.1.1.1.1.1.1.1.1.1.1.1.0.1.0 in cc)

pub returns-clause-refused : goal.returns-clause-refused
returns-clause-refused c = λ all. absurd (let e = all.1.1.1.1.1.1.1.1.1.1.1.1.1.1.1.1.1.0.1.0 in cc)

pub returns-clause-other_row : goal.returns-clause-other_row
returns-clause-other_row c = λ all. absurd (let e = all.1.1.1.1.1.1.1.1.1.1.1.1.1.1.1.1.1.0.1.0 in cc)

pub returns-clause-other_client : goal.returns-clause-other_client
returns-clause-other_client c = λ all. absurd (let e = all.1.1.1.1.1.1.1.1.1.1.1.1.1.1.1.1.1.0.1.0 in cc)
