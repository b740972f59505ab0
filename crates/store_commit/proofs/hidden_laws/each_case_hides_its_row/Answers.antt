use Rattle.std.proofs.Common.{refl}
use Rattle.row_value.specs.Fit.{has_cell, wrong_in, fit_of}
use Rattle.store_commit.proofs.hidden_laws.each_case_hides_its_row.Goals as goal

pub returns-clause-whole : goal.returns-clause-whole
unfolding fit_of wrong_in has_cell
returns-clause-whole c = refl

pub returns-clause-misfit : goal.returns-clause-misfit
unfolding fit_of wrong_in has_cell
returns-clause-misfit c = refl

pub returns-clause-absent : goal.returns-clause-absent
unfolding fit_of wrong_in has_cell
returns-clause-absent c = refl

pub returns-clause-short : goal.returns-clause-short
unfolding fit_of wrong_in has_cell
returns-clause-short c = refl

pub returns-clause-few : goal.returns-clause-few
unfolding fit_of wrong_in has_cell
returns-clause-few c = refl

pub returns-clause-many : goal.returns-clause-many
unfolding fit_of wrong_in has_cell
returns-clause-many c = refl

pub returns-clause-twice : goal.returns-clause-twice
unfolding fit_of wrong_in has_cell
returns-clause-twice c = refl

pub returns-clause-shared : goal.returns-clause-shared
unfolding fit_of wrong_in has_cell
returns-clause-shared c = refl

pub returns-clause-above : goal.returns-clause-above
unfolding fit_of wrong_in has_cell
returns-clause-above c = refl

pub returns-clause-hidden_before : goal.returns-clause-hidden_before
unfolding fit_of wrong_in has_cell
returns-clause-hidden_before c = refl

pub returns-clause-twice_before : goal.returns-clause-twice_before
unfolding fit_of wrong_in has_cell
returns-clause-twice_before c = refl

pub returns-clause-above_before : goal.returns-clause-above_before
unfolding fit_of wrong_in has_cell
returns-clause-above_before c = refl

pub returns-clause-above_twice : goal.returns-clause-above_twice
unfolding fit_of wrong_in has_cell
returns-clause-above_twice c = refl

pub returns-clause-absent_misfit : goal.returns-clause-absent_misfit
unfolding fit_of wrong_in has_cell
returns-clause-absent_misfit c = refl

pub returns-clause-shared_above : goal.returns-clause-shared_above
unfolding fit_of wrong_in has_cell
returns-clause-shared_above c = refl

pub returns-clause-shared_short : goal.returns-clause-shared_short
unfolding fit_of wrong_in has_cell
returns-clause-shared_short c = refl

pub returns-clause-no_table : goal.returns-clause-no_table
unfolding fit_of wrong_in has_cell
returns-clause-no_table c = refl
