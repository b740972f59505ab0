-- Where a ring puts tables.
use Rattle.std.specs.Prelude.{◌≡◌, ℕ, ◌==◌, List, [], Option, Some, None, fold}
use Rattle.std.specs.Ordering.{nat_cmp}
use Rattle.std.specs.BTreeSet.{insert_key}
use Rattle.std.specs.FinSet as set
use Rattle.table_model.specs.Last.{last_where}
use Rattle.ring_map.specs.Ring.{IsOwner}
use Rattle.gate_tables.specs.declared.timer.Placed.{Placed}
use Rattle.gateway_core.specs.declared.directory.NamedTable.{NamedTable}

-- the last table of a number
abbrev pub last_named : ℕ → List NamedTable → Option NamedTable
last_named table tables = last_where (λ named. named.table == table) tables

-- a table is at its owner, with its scheme; it is nowhere where it isn't named, or no Store is on the ring
abbrev pub IsPlacedBy : set.FinSet nat_cmp → Option NamedTable → Option Placed → Type 0
IsPlacedBy stores None None = Unit {0}
IsPlacedBy stores None (Some place) = ⊥
IsPlacedBy stores (Some named) None = stores ≡ set.empty
IsPlacedBy stores (Some named) (Some place) =
    IsOwner stores named.name place.owner × (place.scheme ≡ named.scheme)

abbrev pub with_owner : List ℕ → ℕ × Placed → List ℕ
with_owner owners e = insert_key nat_cmp owners e.1.owner

-- the owners of tables, by rising number
abbrev pub owners_of : List (ℕ × Placed) → List ℕ
owners_of places = fold with_owner [] places
