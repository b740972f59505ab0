-- A depot in memory as its trait sees it.
use Rattle.std.specs.Prelude.{ℕ, Bool, true, false, List, Option, None, Some}
use Rattle.std.specs.Ordering.{nat_cmp}
use Rattle.std.specs.BTreeMap.{get}
use Rattle.disk_trait.specs.Depots.{DepotState}
use Rattle.disk_kit.specs.declared.memory.MemDisk.{MemDisk}
use Rattle.disk_kit.specs.declared.depot.MemDepot.{MemDepot}

-- a place stands for each number that was handed out, with the disk once it is back
abbrev pub is_out_at : Option (Option MemDisk) → Bool
is_out_at None = false
is_out_at (Some None) = true
is_out_at (Some (Some disk)) = false

abbrev pub back_at : Option (Option MemDisk) → Option MemDisk
back_at None = None
back_at (Some place) = place

abbrev pub depot_state : MemDepot → DepotState
depot_state d = record { is_out = λ k. is_out_at (get nat_cmp d.places k); faults = d.faults }

abbrev pub disk_back : MemDepot → ℕ → Option MemDisk
disk_back d k = back_at (get nat_cmp d.places k)

-- the listed calls fail, counted from 0
abbrev pub failing_of : MemDepot → List ℕ
failing_of d = d.failing.items

abbrev pub asked_of : MemDepot → ℕ
asked_of d = d.asked
