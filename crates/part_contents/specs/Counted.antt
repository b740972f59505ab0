-- How many of the chunks that are awaited haven't come.
use Rattle.std.specs.Prelude.{◌≡◌, ℕ, nat_le, Bool, List, map, is_none, count_by}
use Rattle.assemblies.specs.Places.{Rises}
use Rattle.assemblies.specs.Gathering.{Slot}

abbrev pub lacking : List Slot → ℕ
lacking slots = count_by (λ (slot : Slot). is_none slot.1) slots

-- one at most
abbrev pub lacks_few : List Slot → Bool
lacks_few slots = nat_le (lacking slots) 1

-- they are counted, and no two stand at one place
pub record IsCounted (slots : List Slot) (count : ℕ) : Type 0 where
  pub rising : Rises (map (λ (slot : Slot). slot.0) slots)
  pub counted : count ≡ lacking slots
