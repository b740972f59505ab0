-- The owner of a table.
use Rattle.std.specs.Prelude.{◌≡◌, ℕ, ◌<◌, ◌≤◌, ◌⊎◌, true, List}
use Rattle.std.specs.Ordering.{nat_cmp}
use Rattle.std.specs.FinSet as set
use Rattle.ring_map.specs.Place.{position_of, store_position, way}

-- going up from a place, one Store comes before another or is it: the nearer one, and of two at one position the one of
-- the lower number
abbrev pub ComesFirst : ℕ → ℕ → ℕ → Type 0
ComesFirst from store other =
    (way from (store_position store) < way from (store_position other))
    ⊎ ((way from (store_position store) ≡ way from (store_position other)) × (store ≤ other))

-- the first Store at or after the table's position
pub record IsOwner (stores : set.FinSet nat_cmp) (table_name : List ℕ) (store : ℕ) : Type 0 where
  pub on_ring : set.contains stores store ≡ true
  pub first : (other : ℕ) → set.contains stores other ≡ true → ComesFirst (position_of table_name) store other
