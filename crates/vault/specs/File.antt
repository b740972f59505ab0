-- What the bytes of a vault's file stand for.
use Rattle.std.specs.Prelude.{◌≡◌, ◌⊎◌, ℕ, zero, suc, ◌+◌, ◌<◌, ◌≤◌, Bool, false, ◌==◌, ◌&&◌, nat_le, nat_lt}
use Rattle.std.specs.Prelude.{if◌then◌else◌, List, [], ◌∷◌, ◌++◌, length, take, drop, slice_index}
use Rattle.std.specs.Int.{w32, to_be_bytes, from_be_bytes}
use Rattle.vault.specs.Limit.{payload_most}

-- the length in the record that the file begins with
abbrev pub length_in : List ℕ → ℕ
length_in file = from_be_bytes w32 (take 4 (drop 1 file))

-- A record is there where its gate is open (165), its length is within the limit, and its length, its payload
-- and a byte behind it are in the file.
abbrev pub begins_record : List ℕ → Bool
begins_record file = (slice_index file 0 == 165)
    && (nat_le (length_in file) payload_most && nat_lt (5 + length_in file) (length file))

-- the payloads of the records up to the first that isn't there, at most so many
abbrev pub decode : ℕ → List ℕ → List (List ℕ)
decode zero file = []
decode (suc most) file = if begins_record file then take (length_in file) (drop 5 file)
    ∷ decode most (drop (5 + length_in file) file) else []

-- the bytes from the first gate on whose record isn't there
abbrev pub behind : ℕ → List ℕ → List ℕ
behind zero file = file
behind (suc most) file = if begins_record file then behind most (drop (5 + length_in file) file) else file

unfoldable pub payloads_of : List ℕ → List (List ℕ)
payloads_of file = decode (length file) file

-- the standing gate, and what stands behind it
unfoldable pub rest_of : List ℕ → List ℕ
rest_of file = behind (length file) file

-- an open gate has nothing behind it
abbrev pub IsShut : List ℕ → Type 0
IsShut rest = slice_index rest 0 ≡ 165 → length rest ≤ 1

-- The file stands for these payloads: its records have them, and its standing gate isn't open, or is the last
-- byte of the file, or the file is empty.
pub record StandsFor (file : List ℕ) (payloads : List (List ℕ)) : Type 0 where
  pub records : payloads_of file ≡ payloads
  pub gate : IsShut (rest_of file)

-- The same in the other direction: the records of these payloads
abbrev pub records : List (List ℕ) → List ℕ
records [] = []
records (payload ∷ payloads) = 165 ∷ (to_be_bytes w32 (length payload) ++ (payload ++ records payloads))

-- where the gate of each record stands, the first at this place
abbrev pub places_from : ℕ → List (List ℕ) → List ℕ
places_from at [] = []
places_from at (payload ∷ payloads) = at ∷ places_from (at + (5 + length payload)) payloads

-- what is put behind a standing gate: length, payload, and the next gate, closed
abbrev pub frame_of : List ℕ → List ℕ
frame_of payload = to_be_bytes w32 (length payload) ++ (payload ++ 0 ∷ [])

abbrev pub AllShort : List (List ℕ) → Type 0
AllShort [] = Unit {0}
AllShort (payload ∷ payloads) = (length payload ≤ payload_most) × AllShort payloads

-- the records of these payloads stand in front of this place, where a gate begins
pub record HasFront (file : List ℕ) (gate : ℕ) (payloads : List (List ℕ)) : Type 0 where
  pub size : length (records payloads) ≡ gate
  pub front : take gate file ≡ records payloads
  pub more : 0 < gate → gate < length file
  pub short : AllShort payloads

-- the standing gate is there
pub record EndsAt (file : List ℕ) (gate : ℕ) (payloads : List (List ℕ)) : Type 0 where
  pub front : HasFront file gate payloads
  pub last : begins_record (drop gate file) ≡ false

-- the file stands for a list that has R
abbrev pub StandsForOne : (List (List ℕ) → Type 0) → List ℕ → Type 0
StandsForOne R file = (payloads : List (List ℕ)) × StandsFor file payloads × R payloads

-- without the payload, or with it at the end
abbrev pub IsBeforeOrAfter : List (List ℕ) → List ℕ → List (List ℕ) → Type 0
IsBeforeOrAfter old payload new = (new ≡ old) ⊎ (new ≡ old ++ payload ∷ [])

-- the bytes that a crash may leave while a frame is put behind the gate at this place, and the gate is opened
abbrev pub IsBehindGate : List ℕ → ℕ → List ℕ → List ℕ → Type 0
IsBehindGate file gate frame image = (take (gate + 1) image ≡ file)
    ⊎ ((take gate image ≡ take gate file) × (drop (gate + 1) image ≡ frame) × (gate < length image))

-- these payloads are found in the file, and maybe more behind them
abbrev pub FindsFirst : List (List ℕ) → List ℕ → Type 0
FindsFirst payloads file = (more : List (List ℕ)) × (payloads_of file ≡ payloads ++ more)
