-- Places on the ring of Stores and tables: the numbers below 2 ^ 64.
use Rattle.std.specs.Prelude.{ℕ, ◌+◌, ◌-◌, ◌^◌, nat_le, if◌then◌else◌, List}
use Rattle.std.specs.Fmt.{decimal}
use Rattle.std.specs.Ordering.{nat_cmp, ordering_then}
use Rattle.std.specs.declared.cmp.Ordering.{Ordering}
use Rattle.byteorder.specs.Endian.{big_number}
use Rattle.sha2.specs.Sha256.{sha256}

-- the first eight bytes of a text's SHA-256, the highest first
unfoldable pub position_of : List ℕ → ℕ
position_of text = big_number 8 (sha256 text)

-- a Store's position is that of its number in decimal
abbrev pub store_position : ℕ → ℕ
store_position store = position_of (decimal store)

-- how far it is along the ring from one place to another, going up and beginning again behind the highest
abbrev pub way : ℕ → ℕ → ℕ
way from to = if nat_le from to then to - from else (2 ^ 64 - from) + to

-- a Store's position, and then its number
abbrev pub place_of : ℕ → ℕ × ℕ
place_of store = (store_position store, store)

abbrev pub place_cmp : ℕ × ℕ → ℕ × ℕ → Ordering
place_cmp a b = ordering_then (nat_cmp a.0 b.0) (nat_cmp a.1 b.1)
