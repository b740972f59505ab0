use Rattle.std.proofs.Common.{refl}
use Rattle.row_value.specs.Fit.{fit_of, has_cell, wrong_in}
use Rattle.world_laws.proofs.a_device_that_fails_between_two_rows.Goals as goal

pub returns-clause-both : goal.returns-clause-both
unfolding fit_of has_cell wrong_in
returns-clause-both c = refl

pub returns-clause-one : goal.returns-clause-one
unfolding fit_of has_cell wrong_in
returns-clause-one c = refl
