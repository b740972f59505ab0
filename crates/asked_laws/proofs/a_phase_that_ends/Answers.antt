use Rattle.std.proofs.Common.{refl}
use Rattle.row_value.specs.Fit.{fit_of, has_cell, wrong_in}
use Rattle.asked_laws.proofs.a_phase_that_ends.Goals as goal

pub returns-clause-stands : goal.returns-clause-stands
unfolding fit_of has_cell wrong_in
returns-clause-stands c = refl

pub returns-clause-other_client : goal.returns-clause-other_client
unfolding fit_of has_cell wrong_in
returns-clause-other_client c = refl

pub returns-clause-other_table : goal.returns-clause-other_table
unfolding fit_of has_cell wrong_in
returns-clause-other_table c = refl

pub returns-clause-ended : goal.returns-clause-ended
unfolding fit_of has_cell wrong_in
returns-clause-ended c = refl

pub returns-clause-crashed : goal.returns-clause-crashed
unfolding fit_of has_cell wrong_in
returns-clause-crashed c = refl

pub returns-clause-unread : goal.returns-clause-unread
unfolding fit_of has_cell wrong_in
returns-clause-unread c = refl

pub returns-clause-untaken : goal.returns-clause-untaken
unfolding fit_of has_cell wrong_in
returns-clause-untaken c = refl

pub returns-clause-at_the_store : goal.returns-clause-at_the_store
unfolding fit_of has_cell wrong_in
returns-clause-at_the_store c = refl

pub returns-clause-started : goal.returns-clause-started
unfolding fit_of has_cell wrong_in
returns-clause-started c = refl
