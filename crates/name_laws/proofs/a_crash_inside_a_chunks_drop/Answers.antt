use Rattle.std.proofs.Common.{◌≡◌, refl, subst, arith}
use Rattle.row_value.specs.Fit.{fit_of, has_cell, wrong_in}
use Rattle.world_tables.specs.Quiet.{AreListed}
use Rattle.world_tables.specs.Turns.{turns}
use Rattle.world_laws.specs.Worked.{the_row, object_names}
use Rattle.name_laws.specs.Worked.{replaced, replaced_written}
use Rattle.name_laws.proofs.Runs.{all_listed}
use Rattle.name_laws.proofs.a_crash_inside_a_chunks_drop.Goals as goal

is_written : turns replaced ≡ replaced_written object_names
unfolding fit_of has_cell wrong_in
is_written = refl

pub returns-clause-run : goal.returns-clause-run
returns-clause-run c = is_written

pub returns-clause-listed : goal.returns-clause-listed
returns-clause-listed c = subst AreListed is_written (all_listed replaced)

pub returns-clause-left_over : goal.returns-clause-left_over
returns-clause-left_over c = λ all. absurd (let n = (all.1.1.1.1.1.1.1.1.1.1.1.1.1.1.1.1.1.1.1.0 (omega arith) refl).counted the_row in omega arith)

pub returns-clause-lacking : goal.returns-clause-lacking
returns-clause-lacking c = λ all. absurd (let n = (all.1.1.1.1.1.1.1.1.1.1.1.1.1.1.1.1.1.1.1.0 (omega arith) refl).counted the_row in omega arith)
