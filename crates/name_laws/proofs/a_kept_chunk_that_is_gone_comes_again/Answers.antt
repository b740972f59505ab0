use Rattle.std.proofs.Common.{◌≡◌, refl, subst, arith}
use Rattle.row_value.specs.Fit.{fit_of, has_cell, wrong_in}
use Rattle.world_tables.specs.Quiet.{AreListed}
use Rattle.world_tables.specs.Turns.{turns}
use Rattle.world_laws.specs.Worked.{the_row}
use Rattle.name_laws.specs.Worked.{keeps_what_is_gone, keeps_what_is_gone_written, whole_names}
use Rattle.name_laws.proofs.Runs.{all_listed}
use Rattle.name_laws.proofs.a_kept_chunk_that_is_gone_comes_again.Goals as goal

is_written : turns keeps_what_is_gone ≡ keeps_what_is_gone_written whole_names
unfolding fit_of has_cell wrong_in
is_written = refl

pub returns-clause-run : goal.returns-clause-run
returns-clause-run c = is_written

pub returns-clause-listed : goal.returns-clause-listed
returns-clause-listed c = subst AreListed is_written (all_listed keeps_what_is_gone)

pub returns-clause-left_over : goal.returns-clause-left_over
returns-clause-left_over c = λ all. absurd (let n = (all.1.1.1.1.1.1.1.1.1.1.1.1.1.1.1.1.1.1.1.0 (omega arith) refl).counted the_row in omega arith)
