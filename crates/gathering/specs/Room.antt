-- Room in what a node gathers.
use Rattle.std.specs.Prelude.{◌≡◌, ◌⊎◌, ℕ, ◌+◌, ◌≤◌, []}
use Rattle.std.specs.Vec.{vec_capacity, vec_len}
use Rattle.gathering.specs.declared.gathered.Gathered.{Gathered}

-- There is room for so many values now, and behind a hand-over of what is gathered.
pub record HasRoom {T : Type 0} (gathered : Gathered T) (n : ℕ) : Type 0 where
  pub now : vec_len gathered.items + n ≤ vec_capacity gathered.items
  pub later : (n ≡ 0) ⊎ ((n ≤ vec_capacity gathered.spare) ⊎ (gathered.items.items ≡ []))

-- There is, and so it is in what takes its place at a hand-over.
pub record HasSpare {T : Type 0} (gathered : Gathered T) (n : ℕ) : Type 0 where
  pub now : vec_len gathered.items + n ≤ vec_capacity gathered.items
  pub later : n ≤ vec_capacity gathered.spare
