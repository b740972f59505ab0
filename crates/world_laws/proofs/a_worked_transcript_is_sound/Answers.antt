use Rattle.std.proofs.Common.{◌≡◌, refl, subst}
use Rattle.row_value.specs.Fit.{fit_of, has_cell, wrong_in}
use Rattle.client_laws.proofs.Law.{client_law}
use Rattle.client_laws.proofs.Grows.{client_grows, lapsed_grows}
use Rattle.world_tables.specs.Turns.{turns}
use Rattle.world_tables.specs.Sound.{IsSound}
use Rattle.world_laws.specs.Worked.{read_before_write_is_no_conflict, read_before_write_is_no_conflict_written}
use Rattle.world_laws.proofs.Fresh.{fresh_part}
use Rattle.world_laws.proofs.Runs.{all_runs}
use Rattle.world_laws.proofs.a_worked_transcript_is_sound.Goals as goal

computed : turns read_before_write_is_no_conflict ≡ read_before_write_is_no_conflict_written
unfolding fit_of has_cell wrong_in
computed = refl

pub returns : goal.returns
returns c = subst IsSound computed (all_runs client_law client_grows lapsed_grows fresh_part read_before_write_is_no_conflict)
