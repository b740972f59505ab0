-- A stream of frames, and what of it is read.
use Rattle.std.specs.Prelude.{◌≡◌, ℕ, ◌+◌, ◌<◌, ◌≤◌, ◌⊎◌, List, [], ◌∷◌, ◌++◌, length, take}
use Rattle.std.specs.List.{flat_map, AllByRecursion}
use Rattle.std.specs.Int.{w32, to_be_bytes, from_be_bytes}
use Rattle.sim_frame.specs.declared.frame.Frame.{Frame}
use Rattle.sim_frame.specs.declared.frame.FrameFault.{FrameFault}
use Rattle.sim_frame.specs.declared.frame.FrameFault.TheVariants.{BadLength, Memory}

-- four bytes of the length of kind and body, the kind, and the body
abbrev pub frame_spelling : Frame → List ℕ
frame_spelling frame = to_be_bytes w32 (length frame.body + 1) ++ frame.kind ∷ frame.body

pub record HasFrameSpelling (frame : Frame) : Type 0 where
  pub kind : frame.kind < 256
  pub body : length frame.body < 1048576

pub record IsLength (len : ℕ) : Type 0 where
  pub some : 1 ≤ len
  pub most : len ≤ 1048576

-- the length at the front of a stream
abbrev pub length_at : List ℕ → ℕ
length_at bytes = from_be_bytes w32 (take 4 bytes)

-- less than a length, or less than the frame of the length that stands there
abbrev pub IsFront : List ℕ → Type 0
IsFront bytes = (length bytes < 4) ⊎ (IsLength (length_at bytes) × (length bytes < 4 + length_at bytes))

-- a length that no frame has
pub record IsBroken (bytes : List ℕ) (len : ℕ) : Type 0 where
  pub there : 4 ≤ length bytes
  pub is : length_at bytes ≡ len
  pub none : IsLength len → ⊥

-- what stands behind the whole frames of a stream: the front of one, or a length that no frame has
pub data Left : Type 0 where
  Open : List ℕ → Left
  Broken : ℕ → Left

abbrev pub IsLeft : List ℕ → Left → Type 0
IsLeft rest (Open held) = (held ≡ rest) × IsFront rest
IsLeft rest (Broken len) = IsBroken rest len

abbrev pub IsOpen : Left → Type 0
IsOpen (Open held) = Unit {0}
IsOpen (Broken len) = ⊥

-- the whole frames of a stream, and what is left behind them
pub record Reads (bytes : List ℕ) (frames : List Frame) (left : Left) : Type 0 where
  pub rest : List ℕ
  pub parts : bytes ≡ flat_map frame_spelling frames ++ rest
  pub each : AllByRecursion HasFrameSpelling frames
  pub ends : IsLeft rest left

-- ---- a piece of a stream of which so much was left

abbrev pub IsFed : Left → List ℕ → List Frame → Left → Type 0
IsFed (Open held) piece frames left = Reads (held ++ piece) frames left
IsFed (Broken len) piece frames left = ⊥

-- when a piece is refused, and what is left
abbrev pub IsRefused : Left → List ℕ → Left → FrameFault → Type 0
IsRefused old piece left Memory = left ≡ old
IsRefused (Open held) piece left (BadLength len) = Reads (held ++ piece) [] (Broken len) × (left ≡ Broken len)
IsRefused (Broken n) piece left (BadLength len) = (len ≡ n) × (left ≡ Broken n)
