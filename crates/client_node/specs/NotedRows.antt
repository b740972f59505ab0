-- The rows of a table that are noted in a set.
use Rattle.std.specs.Prelude.{◌≡◌, ℕ, zero, suc, ◌==◌, true, List, [], ◌∷◌, length, filter, map}
use Rattle.std.specs.List.{list_any}
use Rattle.std.specs.List.Sorted.{IsStrictlySortedBy}
use Rattle.std.specs.BTreeMap.{is_at}
use Rattle.std.specs.BTreeSet.{BTreeSet, contains}
use Rattle.slot_store.specs.declared.held.RowKey.{RowKey}
use Rattle.slot_store.specs.Data.{id_cmp, key_cmp, key_at}

-- the ids of a table's rows that are in a set, in rising order
pub record AreNotedRows (set : BTreeSet RowKey) (table : ℕ) (rows : List (List ℕ)) : Type 0 where
  pub rising : IsStrictlySortedBy id_cmp rows
  pub all : (row : List ℕ) → length row ≡ 16 → contains key_cmp set (key_at table row) ≡ true
      → list_any (is_at (id_cmp row)) rows ≡ true

-- the least id of this many bytes
abbrev pub zeros : ℕ → List ℕ
zeros zero = []
zeros (suc n) = 0 ∷ zeros n

-- the ids of those of these keys that are of a table
abbrev pub rows_among : ℕ → List RowKey → List (List ℕ)
rows_among table keys = map (λ (key : RowKey). key.row) (filter (λ key. key.table == table) keys)
