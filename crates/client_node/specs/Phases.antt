-- The tables whose conflicts a client resolves: a phase of each of them is open.
use Rattle.std.specs.Prelude.{◌≡◌, ℕ, ◌==◌, Bool, true, not, ◌&&◌, ◌||◌}
use Rattle.std.specs.Ordering.{nat_cmp}
use Rattle.std.specs.BTreeSet.{keys, contains}
use Rattle.client_node.specs.declared.node.ClientNode.{ClientNode}

abbrev pub is_open : {D : Type 0} → ClientNode D → ℕ → Bool
is_open node table = contains nat_cmp node.phases table

-- where the node is up behind a call, the same phases are open; one that is down has none
abbrev pub KeepsPhases : {D : Type 0} → ClientNode D → ClientNode D → Type 0
KeepsPhases old new = new.is_up ≡ true → keys new.phases ≡ keys old.phases

-- a phase of this table is open besides
abbrev pub BeginsPhase : {D : Type 0} → ℕ → ClientNode D → ClientNode D → Type 0
BeginsPhase table old new = (other : ℕ) → is_open new other ≡ (table == other || is_open old other)

-- and here none is
abbrev pub EndsPhase : {D : Type 0} → ℕ → ClientNode D → ClientNode D → Type 0
EndsPhase table old new = (other : ℕ) → is_open new other ≡ (not (table == other) && is_open old other)
