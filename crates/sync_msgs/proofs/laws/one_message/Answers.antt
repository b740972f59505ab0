use Rattle.sync_msgs.proofs.Decoding.{one_message}
use Rattle.sync_msgs.proofs.laws.one_message.Goals as goal

pub returns : goal.returns
returns c = one_message
