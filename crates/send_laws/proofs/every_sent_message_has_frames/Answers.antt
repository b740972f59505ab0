use Rattle.send_laws.proofs.Sending.{sent_in_frames}
use Rattle.send_laws.proofs.every_sent_message_has_frames.Goals as goal

pub returns : goal.returns
returns k = sent_in_frames
