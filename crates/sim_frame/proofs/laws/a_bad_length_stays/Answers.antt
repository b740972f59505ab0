use Rattle.sim_frame.proofs.Streams.{bad_stays}
use Rattle.sim_frame.proofs.laws.a_bad_length_stays.Goals as goal

pub returns : goal.returns
returns c = bad_stays
