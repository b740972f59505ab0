use Rattle.std.proofs.Common.{refl}
use Rattle.row_value.specs.Fit.{fit_of, has_cell, wrong_in}
use Rattle.world_laws.proofs.a_row_that_is_asked_for_whole.Goals as goal

pub returns : goal.returns
unfolding fit_of has_cell wrong_in
returns c = refl
