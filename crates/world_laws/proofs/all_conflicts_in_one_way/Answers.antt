use Rattle.std.proofs.Common.{refl}
use Rattle.row_value.specs.Fit.{fit_of, has_cell, wrong_in}
use Rattle.world_laws.proofs.all_conflicts_in_one_way.Goals as goal

pub returns-clause-larger : goal.returns-clause-larger
unfolding fit_of has_cell wrong_in
returns-clause-larger c = refl

pub returns-clause-mine : goal.returns-clause-mine
unfolding fit_of has_cell wrong_in
returns-clause-mine c = refl

pub returns-clause-theirs : goal.returns-clause-theirs
unfolding fit_of has_cell wrong_in
returns-clause-theirs c = refl
