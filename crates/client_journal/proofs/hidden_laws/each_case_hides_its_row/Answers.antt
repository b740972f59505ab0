use Rattle.std.proofs.Common.{refl}
use Rattle.row_value.specs.Fit.{has_cell, wrong_in, fit_of}
use Rattle.client_journal.proofs.hidden_laws.each_case_hides_its_row.Goals as goal

pub returns-clause-whole : goal.returns-clause-whole
unfolding fit_of wrong_in has_cell
returns-clause-whole c = refl

pub returns-clause-slots_share : goal.returns-clause-slots_share
unfolding fit_of wrong_in has_cell
returns-clause-slots_share c = refl

pub returns-clause-misfit : goal.returns-clause-misfit
unfolding fit_of wrong_in has_cell
returns-clause-misfit c = refl

pub returns-clause-no_record : goal.returns-clause-no_record
unfolding fit_of wrong_in has_cell
returns-clause-no_record c = refl

pub returns-clause-absent : goal.returns-clause-absent
unfolding fit_of wrong_in has_cell
returns-clause-absent c = refl

pub returns-clause-short : goal.returns-clause-short
unfolding fit_of wrong_in has_cell
returns-clause-short c = refl

pub returns-clause-few : goal.returns-clause-few
unfolding fit_of wrong_in has_cell
returns-clause-few c = refl

pub returns-clause-twice : goal.returns-clause-twice
unfolding fit_of wrong_in has_cell
returns-clause-twice c = refl

pub returns-clause-above : goal.returns-clause-above
unfolding fit_of wrong_in has_cell
returns-clause-above c = refl

pub returns-clause-shared : goal.returns-clause-shared
unfolding fit_of wrong_in has_cell
returns-clause-shared c = refl

pub returns-clause-shared_table : goal.returns-clause-shared_table
unfolding fit_of wrong_in has_cell
returns-clause-shared_table c = refl

pub returns-clause-shadow_slot : goal.returns-clause-shadow_slot
unfolding fit_of wrong_in has_cell
returns-clause-shadow_slot c = refl

pub returns-clause-out_slot : goal.returns-clause-out_slot
unfolding fit_of wrong_in has_cell
returns-clause-out_slot c = refl

pub returns-clause-conflict_slot : goal.returns-clause-conflict_slot
unfolding fit_of wrong_in has_cell
returns-clause-conflict_slot c = refl

pub returns-clause-second_slot : goal.returns-clause-second_slot
unfolding fit_of wrong_in has_cell
returns-clause-second_slot c = refl

pub returns-clause-hidden_before : goal.returns-clause-hidden_before
unfolding fit_of wrong_in has_cell
returns-clause-hidden_before c = refl

pub returns-clause-hidden_twice : goal.returns-clause-hidden_twice
unfolding fit_of wrong_in has_cell
returns-clause-hidden_twice c = refl

pub returns-clause-committed : goal.returns-clause-committed
unfolding fit_of wrong_in has_cell
returns-clause-committed c = refl

pub returns-clause-replaced : goal.returns-clause-replaced
unfolding fit_of wrong_in has_cell
returns-clause-replaced c = refl
