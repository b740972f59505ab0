-- What reading a file from front to back has found.
use Rattle.std.specs.Prelude.{◌≡◌, ℕ, ◌+◌, ◌≤◌, true, false, List, length, take, drop, Option, Some, None}
use Rattle.std.specs.Int.{w32, to_be_bytes}
use Rattle.vault.specs.File.{length_in, begins_record, places_from, HasFront}

-- a record of so many bytes is there
pub record BeginsRecord (rest : List ℕ) (size : ℕ) : Type 0 where
  pub there : begins_record rest ≡ true
  pub size_is : size ≡ 5 + length_in rest
  pub spelled : to_be_bytes w32 (length_in rest) ≡ take 4 (drop 1 rest)

-- what stands at the front of the rest
abbrev pub Finds : List ℕ → Option ℕ → Type 0
Finds rest None = begins_record rest ≡ false
Finds rest (Some size) = BeginsRecord rest size

-- the records in front of this place, and where their gates stand
pub record HasFound (file : List ℕ) (gate : ℕ) (places : List ℕ) : Type 0 where
  pub payloads : List (List ℕ)
  pub front : HasFront file gate payloads
  pub places_are : places ≡ places_from 0 payloads
  pub within : gate ≤ length file
