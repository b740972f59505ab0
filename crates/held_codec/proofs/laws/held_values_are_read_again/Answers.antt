use Rattle.held_codec.proofs.HeldCodecs.{local_codec, slots_codec, tell_codec}
use Rattle.held_codec.proofs.laws.held_values_are_read_again.Goals as goal

pub returns-clause-local : goal.returns-clause-local
returns-clause-local c = local_codec.reads.again

pub returns-clause-slots : goal.returns-clause-slots
returns-clause-slots c = slots_codec.reads.again

pub returns-clause-tell : goal.returns-clause-tell
returns-clause-tell c = tell_codec.reads.again
