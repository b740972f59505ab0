use Rattle.std.proofs.Common.{refl}
use Rattle.row_value.specs.Fit.{fit_of, has_cell, wrong_in}
use Rattle.world_laws.proofs.a_write_against_a_delete.Goals as goal

pub returns-clause-theirs : goal.returns-clause-theirs
unfolding fit_of has_cell wrong_in
returns-clause-theirs c = refl

pub returns-clause-mine : goal.returns-clause-mine
unfolding fit_of has_cell wrong_in
returns-clause-mine c = refl

pub returns-clause-made : goal.returns-clause-made
unfolding fit_of has_cell wrong_in
returns-clause-made c = refl
