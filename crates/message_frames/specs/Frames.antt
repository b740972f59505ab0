-- The frame of a message.
use Rattle.std.specs.Prelude.{◌≡◌, ℕ, ◌<◌, List, length}
use Rattle.table_model.specs.declared.message.Message.{Message}
use Rattle.sim_frame.specs.declared.frame.Frame.{Frame}
use Rattle.sim_frame.specs.Stream.{frame_spelling}
use Rattle.sync_msgs.specs.Spelling.{kind_of, body_spelling, HasSpelling}

-- a message with a spelling that a frame has room for
pub record HasFrame (message : Message) : Type 0 where
  pub spelled : HasSpelling message
  pub room : length (body_spelling message) < 1048576

abbrev pub frame_with : Message → Frame
frame_with message = record { kind = kind_of message; body = body_spelling message }

abbrev pub frame_of : Message → List ℕ
frame_of message = frame_spelling (frame_with message)

-- these bytes are the frame of a message, and nothing else
pub record IsFrameOf (bytes : List ℕ) (message : Message) : Type 0 where
  pub fits : HasFrame message
  pub is : bytes ≡ frame_of message
