-- What bytes are read as that are the frame of one message.
use Rattle.std.proofs.Common.{◌≡◌, ◌≢◌, ℕ, ◌+◌, ◌<◌, List, [], ◌∷◌, ◌++◌, length, refl, sym, subst, ◌∙◌, append-nil, arith, inl}
use Rattle.std.proofs.lemmas.List.{length-append}
use Rattle.std.specs.Int.{w32, to_be_bytes}
use Rattle.table_model.specs.declared.message.Message.{Message}
use Rattle.table_model.specs.MessageNames as message_names
use Rattle.table_model.specs.declared.message_name.MessageName.{MessageName}
use Rattle.table_model.specs.declared.message_name.MessageName.TheVariants as names
use Rattle.sim_frame.specs.declared.frame.Frame.{Frame}
use Rattle.sim_frame.specs.declared.frame.FrameFault.{FrameFault}
use Rattle.sim_frame.specs.declared.frame.FrameFault.TheVariants.{BadLength}
use Rattle.sim_frame.specs.Stream.{frame_spelling, HasFrameSpelling, Left, Reads, IsRefused}
use Rattle.sim_frame.specs.Stream.Left.{Open, Broken}
use Rattle.sim_frame.proofs.Streams.{one_reading, with_first}
use Rattle.sync_msgs.specs.Spelling.{kind_code, kind_of, body_spelling}
use Rattle.message_frames.specs.Frames.{HasFrame, frame_with, frame_of, IsFrameOf}

kind_is_a_byte : (name : MessageName) → kind_code name < 256
kind_is_a_byte names.RegisterDevice = omega arith
kind_is_a_byte names.CreateTable = omega arith
kind_is_a_byte names.DropTable = omega arith
kind_is_a_byte names.SubscribeTable = omega arith
kind_is_a_byte names.UnsubscribeTable = omega arith
kind_is_a_byte names.Notify = omega arith
kind_is_a_byte names.ObjectFragment = omega arith
kind_is_a_byte names.PullRequest = omega arith
kind_is_a_byte names.PullResponse = omega arith
kind_is_a_byte names.SyncRequest = omega arith
kind_is_a_byte names.SyncResponse = omega arith
kind_is_a_byte names.TornRowRequest = omega arith
kind_is_a_byte names.TornRowResponse = omega arith
kind_is_a_byte names.OperationResponse = omega arith
kind_is_a_byte names.SaveClientSubscription = omega arith
kind_is_a_byte names.RestoreClientSubscriptions = omega arith
kind_is_a_byte names.TableVersionUpdateNotification = omega arith

frame_is_spelled : (message : Message) → HasFrame message → HasFrameSpelling (frame_with message)
frame_is_spelled message f = record { kind = kind_is_a_byte (message_names.name_of message); body = f.room }

nothing_left : Reads [] [] (Open [])
nothing_left = record { rest = []; parts = refl; each = tt; ends = (refl, inl (omega arith)) }

-- the frame of a message is read as that frame, and nothing is left
pub reads_its_frame : (bytes : List ℕ) (message : Message) → IsFrameOf bytes message → Reads bytes (frame_with message ∷ []) (Open [])
reads_its_frame bytes message f =
    let alone : bytes ≡ frame_spelling (frame_with message) ++ [] = f.is ∙ sym (append-nil (frame_of message)) in
    subst (λ (b : List ℕ). Reads b (frame_with message ∷ []) (Open [])) (sym alone)
    (with_first (frame_with message) [] [] (Open []) (frame_is_spelled message f.fits) nothing_left)

-- bytes that begin with a length that no frame has begin with no frame
pub no_frame_is_broken : (bytes : List ℕ) (len : ℕ) (frames : List Frame) (left : Left) → Reads bytes [] (Broken len) → Reads bytes frames left → frames ≢ [] → ⊥
no_frame_is_broken bytes len frames left broken read some = some (sym (one_reading bytes [] frames (Broken len) left broken read).0)

-- a piece that is refused at the beginning of a stream begins so
pub refused_piece_is_broken : (old left : Left) (piece : List ℕ) (fault : FrameFault) (len : ℕ) → old ≡ Open [] → fault ≡ BadLength len
    → IsRefused old piece left fault → Reads piece [] (Broken len)
refused_piece_is_broken old left piece fault len begins bad r =
    (subst (λ (f : FrameFault). IsRefused (Open []) piece left f) bad (subst (λ (l : Left). IsRefused l piece left fault) begins r)).0

-- so the frames that are read are that one
pub frames_are_its : (bytes : List ℕ) (message : Message) (frames : List Frame) (left : Left) → IsFrameOf bytes message → Reads bytes frames left
    → frames ≡ frame_with message ∷ []
frames_are_its bytes message frames left f read = (one_reading bytes frames (frame_with message ∷ []) left (Open []) read (reads_its_frame bytes message f)).0

pub frame_has_five_more : (message : Message) → length (frame_with message).body + 5 ≡ length (frame_of message)
frame_has_five_more message =
    omega (arith, length-append (to_be_bytes w32 (length (body_spelling message) + 1)) (kind_of message ∷ body_spelling message))
