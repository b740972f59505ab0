-- What becomes of the Stores and their tables where a Store joins, and where one is started.
use Rattle.std.specs.Prelude.{ℕ, ◌==◌, Bool, false, not, List, map, filter, Option, Some, None}
use Rattle.std.specs.Ordering.{nat_cmp}
use Rattle.std.specs.BTreeMap as tree
use Rattle.std.specs.List.{list_any}
use Rattle.ring_map.specs.Owners.{owner_on}
use Rattle.store_host.specs.declared.hosted.Hosted.{Hosted}
use Rattle.store_host.specs.declared.store.StoreState.{StoreState}

-- the table is its owner's, of these Stores
abbrev pub moved_on : {D : Type 0} → List ℕ → Hosted D → Hosted D
moved_on stores it = record it { node = record it.node { store = owner_on it.node.schema.name stores } }

-- the numbers of the tables that a Store keeps
abbrev pub kept_by : {D : Type 0} → ℕ → List (ℕ × Hosted D) → List ℕ
kept_by store entries = map (λ e. e.0) (filter (λ e. e.1.node.store == store) entries)

-- whether a table is there and wasn't made
abbrev pub unmade_in : {D : Type 0} → Option (Hosted D) → Bool
unmade_in None = false
unmade_in (Some it) = not it.node.is_declared

abbrev pub any_unmade : {D : Type 0} → tree.BTreeMap ℕ (Hosted D) → List ℕ → Bool
any_unmade tables numbers = list_any (λ table. unmade_in (tree.get nat_cmp tables table)) numbers

-- what a Store says of these tables
abbrev pub renewed : {D : Type 0} → ℕ → tree.BTreeMap ℕ (Hosted D) → StoreState → StoreState
renewed store tables state = record state {
  tables = kept_by store tables.entries;
  is_late = any_unmade tables (kept_by store tables.entries);
}

-- a Store that was started
abbrev pub risen : StoreState → StoreState
risen state = record state { is_down = false; is_late = false }
