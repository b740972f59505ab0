use Rattle.std.proofs.Common.{refl}
use Rattle.row_value.specs.Fit.{fit_of, has_cell, wrong_in}
use Rattle.world_laws.proofs.a_crash_inside_a_clients_commit.Goals as goal

pub returns-clause-landed : goal.returns-clause-landed
unfolding fit_of has_cell wrong_in
returns-clause-landed c = refl

pub returns-clause-lost : goal.returns-clause-lost
unfolding fit_of has_cell wrong_in
returns-clause-lost c = refl
