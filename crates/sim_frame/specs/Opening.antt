-- What a stream begins with, and how its front is kept.
use Rattle.std.specs.Prelude.{◌≡◌, ℕ, ◌+◌, ◌<◌, ◌≤◌, List, [], ◌++◌, length, drop, take, Option, None, Some}
use Rattle.std.specs.List.{flat_map, AllByRecursion}
use Rattle.sim_frame.specs.declared.frame.Frame.{Frame}
use Rattle.sim_frame.specs.declared.opening.Opening.{Opening}
use Rattle.sim_frame.specs.declared.opening.Opening.TheVariants.{Short, Bad, Sized}
use Rattle.sim_frame.specs.declared.whole.First.{First}
use Rattle.sim_frame.specs.declared.whole.First.TheVariants as firsts
use Rattle.sim_frame.specs.declared.part.Part.{Part}
use Rattle.sim_frame.specs.declared.part.Next.{Next}
use Rattle.sim_frame.specs.declared.part.Next.TheVariants as nexts
use Rattle.sim_frame.specs.Stream.{frame_spelling, HasFrameSpelling, IsLength, length_at, IsFront, IsBroken, Left}
use Rattle.sim_frame.specs.Stream.{IsLeft}
use Rattle.sim_frame.specs.Stream.Left.{Open, Broken}

-- a frame's length stands at the front
pub record IsSized (bytes : List ℕ) (len : ℕ) : Type 0 where
  pub there : 4 ≤ length bytes
  pub is : length_at bytes ≡ len
  pub fits : IsLength len

abbrev pub Opens : List ℕ → Opening → Type 0
Opens bytes Short = length bytes < 4
Opens bytes (Bad len) = IsBroken bytes len
Opens bytes (Sized len) = IsSized bytes len

-- a whole frame of so many bytes, with its length
pub record IsFirst (bytes : List ℕ) (frame : Frame) (size : ℕ) : Type 0 where
  pub some : 1 ≤ size
  pub within : size ≤ length bytes
  pub spelled : HasFrameSpelling frame
  pub parts : bytes ≡ frame_spelling frame ++ drop size bytes

abbrev pub FirstIs : List ℕ → First → Type 0
FirstIs bytes (firsts.Whole frame size) = IsFirst bytes frame size
FirstIs bytes firsts.Front = IsFront bytes
FirstIs bytes (firsts.Broken len) = IsBroken bytes len

abbrev pub left_of : Option ℕ → List ℕ → Left
left_of None held = Open held
left_of (Some len) held = Broken len

-- the frames at the front, whole, and the place behind them
pub record AreFrames (bytes : List ℕ) (frames : List Frame) (behind : ℕ) : Type 0 where
  pub within : behind ≤ length bytes
  pub each : AllByRecursion HasFrameSpelling frames
  pub parts : bytes ≡ flat_map frame_spelling frames ++ drop behind bytes

-- and all of them
pub record AreWhole (bytes : List ℕ) (frames : List Frame) (behind : ℕ) (broken : Option ℕ) : Type 0 where
  pub frames_are : AreFrames bytes frames behind
  pub ends : IsLeft (drop behind bytes) (left_of broken (drop behind bytes))

-- ---- the front of a frame

abbrev pub held_of : Part → List ℕ
held_of part = part.head.items ++ part.body.items

-- nothing of a body before length and kind are there
pub record IsShaped (part : Part) : Type 0 where
  pub most : length part.head.items ≤ 5
  pub whole : length part.head.items < 5 → part.body.items ≡ []

pub record IsKept (part : Part) : Type 0 where
  pub shape : IsShaped part
  pub front : IsFront (held_of part)

-- one frame and nothing else
pub record IsWhole (bytes : List ℕ) : Type 0 where
  pub there : 5 ≤ length bytes
  pub fits : IsLength (length_at bytes)
  pub size : length bytes ≡ 4 + length_at bytes

-- what a piece makes of the bytes that are held
abbrev pub Going : List ℕ → List ℕ → Next → Type 0
Going held piece nexts.Front = IsFront (held ++ piece)
Going held piece (nexts.Broken len) = IsBroken (held ++ piece) len
Going held piece (nexts.Whole need) = (need ≤ length piece) × IsWhole (held ++ take need piece)

-- what is kept of the bytes behind whole frames: nothing behind a length that no frame has
abbrev pub IsBehind : Option ℕ → List ℕ → Part → Type 0
IsBehind None bytes part = (held_of part ≡ bytes) × IsShaped part
IsBehind (Some len) bytes part = Unit {0}
