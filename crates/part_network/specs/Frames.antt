-- Bytes that are the frame of some message: it can't be that they are the frame of none.
use Rattle.std.specs.Prelude.{ℕ, List}
use Rattle.table_model.specs.declared.message.Message.{Message}
use Rattle.message_frames.specs.Frames.{IsFrameOf}

abbrev pub IsNoFrame : List ℕ → Type 0
IsNoFrame bytes = (message : Message) → IsFrameOf bytes message → ⊥

abbrev pub IsFrame : List ℕ → Type 0
IsFrame bytes = IsNoFrame bytes → ⊥
