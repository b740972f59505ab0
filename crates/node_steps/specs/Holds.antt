-- What the nodes of the program hold of the world of the laws, and which disks they have from their depot. Packets are
-- whoever's.
use Rattle.std.specs.Prelude.{◌≡◌, ℕ, ◌+◌, ◌-◌, ◌*◌, ◌<◌, ◌≤◌, Bool, true, [], is_some}
use Rattle.std.specs.Ordering.{nat_cmp}
use Rattle.std.specs.BTreeMap as tree
use Rattle.disk_trait.specs.Calls.{DiskState}
use Rattle.stab_base.specs.declared.node.Node.{Node}
use Rattle.stab_base.specs.declared.node.Node.TheVariants as nodes
use Rattle.fair_laws.specs.Reached.{IsReached}
use Rattle.world_tables.specs.World.{schema_at, hosted_at, client_at}
use Rattle.world_tables.specs.World as moves
use Rattle.store_host.specs.declared.host.StoreHost.{StoreHost}
use Rattle.store_host.specs.Holds.{HoldsStore, is_up_at}
use Rattle.journal_host.specs.Holds.{HoldsClients}
use Rattle.node_steps.specs.declared.world.World.{World}
use Rattle.node_steps.specs.Nodes.{HasNodes}
use Rattle.node_steps.specs.Numbers.{AreNumbered}

-- ---- the world

pub record Holds {D : Type 0} (state : D → DiskState) (w : moves.World) (world : World D) : Type 0 where
  pub schemas : (table : ℕ) → tree.get nat_cmp world.schemas table ≡ schema_at w table
  pub store : HoldsStore state w world.store
  pub clients : HoldsClients state w world.clients
  -- what the Stores and the clients told and sent was handed over
  pub store_told : world.store.outs ≡ []
  pub clients_told : world.clients.outs.items ≡ []
  pub held : HasNodes w.holds world.held
  pub numbered : AreNumbered w

-- where the node is a Store it is up
abbrev pub IsUpStore : {D : Type 0} → StoreHost D → Node → Type 0
IsUpStore host (nodes.Store number) = is_up_at host number ≡ true
IsUpStore host other = Unit {0}

-- ---- disks

-- the number of a table's disk of chunks; those of its rows and its log come next
abbrev pub first_disk : ℕ → ℕ
first_disk table = 3 * (table - 1)

-- the number of a client's disk of its journal; those of its slots and its chunks come next
abbrev pub first_client_disk : ℕ → ℕ
first_client_disk c = 192 + 3 * (c - 1)

-- the disks that are out at the depot are those of the declared tables, whose numbers end at 64, and of the clients,
-- three of each
pub record AreOut (is_out : ℕ → Bool) (w : moves.World) : Type 0 where
  pub tables : (table k : ℕ) → 1 ≤ table → table ≤ 64 → k < 3
      → is_out (first_disk table + k) ≡ is_some (hosted_at w table)
  pub clients : (c k : ℕ) → 1 ≤ c → k < 3 → is_out (first_client_disk c + k) ≡ is_some (client_at w c)

-- the world of the program stands where a script has led
pub record IsWorld {D : Type 0} (state : D → DiskState) (is_out : ℕ → Bool) (world : World D) : Type 0 where
  pub w : moves.World
  pub reached : IsReached w
  pub held : Holds state w world
  pub out : AreOut is_out w
