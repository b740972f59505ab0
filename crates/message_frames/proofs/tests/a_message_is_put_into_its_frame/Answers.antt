use Rattle.std.proofs.Common.{◌<◌, arith}
use Rattle.field_codec.specs.Forms.{four, eight}
use Rattle.table_model.specs.declared.message.Message.TheVariants as kinds
use Rattle.message_frames.specs.Frames.{HasFrame}
use Rattle.message_frames.proofs.tests.a_message_is_put_into_its_frame.Goals as goal

framed : HasFrame (kinds.UnsubscribeTable (record { client = 1; token = 0; table = 2 }))
unfolding four eight
framed = record { spelled = (record { least = omega arith; most = omega arith }, (omega arith, omega arith)); room = omega arith }

pub frame_of-requires : goal.frame_of-requires
frame_of-requires g c = framed
