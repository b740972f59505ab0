use Rattle.held_codec.proofs.HeldCodecs.{local_codec, slots_codec, tell_codec}
use Rattle.held_codec.proofs.laws.held_values_were_spelled_so.Goals as goal

pub returns-clause-local : goal.returns-clause-local
returns-clause-local c = λ bytes rest x fits e. local_codec.reads.takes bytes x rest fits e

pub returns-clause-slots : goal.returns-clause-slots
returns-clause-slots c = λ bytes rest x fits e. slots_codec.reads.takes bytes x rest fits e

pub returns-clause-tell : goal.returns-clause-tell
returns-clause-tell c = λ bytes rest x fits e. tell_codec.reads.takes bytes x rest fits e

pub returns-clause-slots_fault : goal.returns-clause-slots_fault
returns-clause-slots_fault c = slots_codec.stops.fails

pub returns-clause-tell_fault : goal.returns-clause-tell_fault
returns-clause-tell_fault c = tell_codec.stops.fails
