use Rattle.frame_laws.proofs.Frames.{is_sent_in_frames}
use Rattle.frame_laws.proofs.fit_messages_have_frames.Goals as goal

pub returns : goal.returns
returns k = λ schema m h. is_sent_in_frames schema m h.table h.sized
