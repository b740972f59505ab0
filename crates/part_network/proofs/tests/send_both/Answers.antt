use Rattle.std.proofs.Common.{◌<◌, None, arith}
use Rattle.field_codec.specs.Forms.{four, eight}
use Rattle.table_model.specs.declared.message.Message.TheVariants as kinds
use Rattle.message_frames.specs.Frames.{HasFrame}
use Rattle.part_network.proofs.tests.send_both.Goals as goal

pull_framed : HasFrame (kinds.PullRequest (record { client = 3; token = 0; table = 2; position = 7 }))
unfolding four eight
pull_framed = record { spelled = (record { least = omega arith; most = omega arith }, (omega arith, (omega arith, omega arith))); room = omega arith }

pulled_framed : HasFrame (kinds.PullResponse (record { client = 3; table = 2; from = 7; to = 7; latest = 7; header = None }))
unfolding four eight
pulled_framed = record { spelled = (record { least = omega arith; most = omega arith }, (omega arith, (omega arith, (omega arith, (omega arith, tt))))); room = omega arith }

pub send-requires-clause-frames : goal.send-requires-clause-frames
send-requires-clause-frames c = (pull_framed, tt)

pub send-requires-2-clause-frames : goal.send-requires-2-clause-frames
send-requires-2-clause-frames c = (pulled_framed, tt)
