-- The owner of a table, computed.
use Rattle.std.specs.Prelude.{ℕ, ◌==◌, nat_le, nat_lt, Bool, ◌&&◌, ◌||◌, List, [], ◌∷◌, if◌then◌else◌}
use Rattle.ring_map.specs.Place.{position_of, store_position, way}

-- going up from a place, whether one Store comes before another or is it
abbrev pub comes_first : ℕ → ℕ → ℕ → Bool
comes_first from store other =
    let near : ℕ = way from (store_position store) in
    let far : ℕ = way from (store_position other) in
    nat_lt near far || ((near == far) && nat_le store other)

abbrev pub nearer : ℕ → ℕ → ℕ → ℕ
nearer from store other = if comes_first from store other then store else other

-- the Store, of these, that keeps the table of a name; 0 where there is none
abbrev pub owner_on : List ℕ → List ℕ → ℕ
owner_on name [] = 0
owner_on name (store ∷ []) = store
owner_on name (store ∷ next ∷ more) = nearer (position_of name) store (owner_on name (next ∷ more))
