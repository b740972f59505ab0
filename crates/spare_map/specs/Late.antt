-- A map as the list of its entries in the order of their keys, with changes that are still to be made.
use Rattle.std.specs.Prelude.{◌≡◌, ℕ, ◌-◌, not, false, List, Option, Some, None, IsSome, fold, filter, if◌then◌else◌}
use Rattle.std.specs.declared.cmp.Ordering.{Ordering}
use Rattle.std.specs.BTreeMap.{insert_entry, is_at}
use Rattle.std.specs.List.{AllByRecursion}
use Rattle.std.specs.Map.{lookup}
use Rattle.std.specs.Ordering.{is_lt}
use Rattle.std.specs.VecDeque.{deque_len, deque_capacity}
use Rattle.spare_map.specs.declared.map.Change.{Change}
use Rattle.spare_map.specs.declared.map.SpareMap.{SpareMap}

module _ {K V : Type 0} (cmp : K → K → Ordering) where
  -- the entries whose key is another one
  abbrev pub without : List (K × V) → K → List (K × V)
  without entries key = filter (λ e. not (is_at (cmp key) e.0)) entries

  -- the entries after a key has got a value, or lost it
  abbrev pub changed : List (K × V) → K → Option V → List (K × V)
  changed entries key (Some value) = insert_entry cmp entries key value
  changed entries key None = without entries key

  -- what the last of these changes made of a key
  abbrev pub latest : K → List (Change K V) → Option (Option V)
  latest key changes =
      fold (λ found change. if is_at (cmp key) change.key then Some change.value else found) None changes

  -- the tree's entries, with the changes in the queue made in turn
  abbrev pub entries_of : SpareMap K V → List (K × V)
  entries_of map = fold (λ entries change. changed entries change.key change.value) map.tree.entries map.late.items

  abbrev pub HasValue : List (K × V) → K → Type 0
  HasValue entries key = IsSome (lookup (is_at (cmp key)) entries)

  -- the greatest of those of these keys that have a value
  abbrev pub IsLastOf : List (K × V) → List K → Option K → Type 0
  IsLastOf entries keys None = AllByRecursion (λ key. HasValue entries key → ⊥) keys
  IsLastOf entries keys (Some last) = HasValue entries last
      × AllByRecursion (λ key. HasValue entries key → is_lt (cmp last key) ≡ false) keys

  -- the greatest key that has a value
  abbrev pub IsLast : List (K × V) → Option K → Type 0
  IsLast entries None = (key : K) → HasValue entries key → ⊥
  IsLast entries (Some last) = HasValue entries last × ((key : K) → HasValue entries key → is_lt (cmp last key) ≡ false)

-- for how many changes there is room
abbrev pub spare_of : {K V : Type 0} → SpareMap K V → ℕ
spare_of map = deque_capacity map.late - deque_len map.late
