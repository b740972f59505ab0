-- The first five bytes of a record.
use Rattle.std.specs.Prelude.{ℕ, ◌+◌, Bool, ◌==◌, ◌&&◌, nat_le, nat_lt, List, take, drop, slice_index}
use Rattle.std.specs.Int.{w32, from_be_bytes}
use Rattle.vault.specs.Limit.{payload_most}

-- a record begins with these five bytes, where so many bytes are left from there on
abbrev pub head_opens : List ℕ → ℕ → Bool
head_opens head left = (slice_index head 0 == 165)
    && (nat_le (from_be_bytes w32 (take 4 (drop 1 head))) payload_most
    && nat_lt (5 + from_be_bytes w32 (take 4 (drop 1 head))) left)
