-- What a crash may leave of a file.
use Rattle.std.specs.Prelude.{◌≡◌, ℕ, ◌+◌, ◌<◌, ◌≤◌, max, min, Bool, false, ◌||◌, ◌&&◌, nat_le, nat_lt, List, [], ◌∷◌}
use Rattle.std.specs.Prelude.{◌++◌, length, take, drop, slice_index}

-- what was done since the last sync that succeeded
pub record Pending : Type 0 where
  -- the bytes then
  pub synced : List ℕ
  -- the lengths since then
  pub least : ℕ
  pub greatest : ℕ
  -- start and length of each write since then
  pub ranges : List (ℕ × ℕ)

-- is this place in one of the ranges?
abbrev pub is_loose : List (ℕ × ℕ) → ℕ → Bool
is_loose [] k = false
is_loose (range ∷ ranges) k = (nat_le range.0 k && nat_lt k (range.0 + range.1)) || is_loose ranges k

-- a crash may leave this: a length between the two, and the synced bytes where nothing was written or cut
pub record IsImage (pending : Pending) (image : List ℕ) : Type 0 where
  pub no_shorter : pending.least ≤ length image
  pub no_longer : length image ≤ pending.greatest
  pub stays : (k : ℕ) → k < pending.least → is_loose pending.ranges k ≡ false
      → slice_index image k ≡ slice_index pending.synced k

-- all that stands there is on the disk
abbrev pub settled : List ℕ → Pending
settled bytes = record { synced = bytes; least = length bytes; greatest = length bytes; ranges = [] }

-- after a write of so many bytes there, or of a part of them
abbrev pub touched : ℕ → ℕ → Pending → Pending
touched at count pending =
    record {
      synced = pending.synced;
      least = pending.least;
      greatest = max pending.greatest (at + count);
      ranges = (at, count) ∷ pending.ranges;
    }

-- after a cut to this length
abbrev pub shortened : ℕ → Pending → Pending
shortened len pending =
    record {
      synced = pending.synced;
      least = min pending.least len;
      greatest = pending.greatest;
      ranges = pending.ranges;
    }

-- the file with these bytes at this offset
abbrev pub overwritten : List ℕ → ℕ → List ℕ → List ℕ
overwritten file at bytes = take at file ++ (bytes ++ drop (at + length bytes) file)

-- each image of the first is one of the second
pub record LeavesLess (pending limit : Pending) : Type 0 where
  pub each : (image : List ℕ) → IsImage pending image → IsImage limit image
