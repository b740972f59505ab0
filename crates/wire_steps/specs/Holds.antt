-- What the world of the program holds of a wire.
use Rattle.std.specs.Prelude.{◌≡◌, ℕ, Bool, true, false, List, [], Option, Some, None}
use Rattle.std.specs.List.{find}
use Rattle.std.specs.Ordering.{nat_cmp}
use Rattle.std.specs.BTreeMap as tree
use Rattle.disk_trait.specs.Calls.{DiskState}
use Rattle.world_tables.specs.World.{hosted_at, client_at}
use Rattle.part_tables.specs.StoreParts.{Gathering, is_of_client}
use Rattle.part_tables.specs.Arriving as arrivals
use Rattle.part_tables.specs.Arriving.{nothing_arriving}
use Rattle.wire_tables.specs.Wire.{Wire, gathered_at, arriving_at, is_hosted_up, is_client_up}
use Rattle.part_store.specs.declared.gatherings.Gatherings.{Gatherings}
use Rattle.part_store.specs.Gathered.{HasGathered}
use Rattle.part_client.specs.declared.arriving.Arriving.{Arriving}
use Rattle.part_client.specs.Keeping.{Keeps, HasNothing}
use Rattle.part_network.specs.Packets.{HasPackets}
use Rattle.node_steps.specs.Holds as nodes
use Rattle.node_steps.specs.Holds.{AreOut}
use Rattle.wire_steps.specs.declared.world.World.{World}
use Rattle.wire_steps.specs.Reached.{IsReached}

-- ---- what a table at the Store has gathered, and what a client has in memory of what comes in parts

abbrev pub HasGatheredThere : List Gathering → Option Gatherings → Type 0
HasGatheredThere gs None = (client : ℕ) → find (is_of_client client) gs ≡ None
HasGatheredThere gs (Some it) = HasGathered it gs

abbrev pub KeepsThere : arrivals.Arriving → Option Arriving → Type 0
KeepsThere a None = (table : ℕ) → HasNothing table a
KeepsThere a (Some it) = Keeps it a

-- Of each table and client that is up. What the program has of one that is down isn't looked at.
pub record HoldsMemory (v : Wire) (gathered : tree.BTreeMap ℕ Gatherings) (arriving : tree.BTreeMap ℕ Arriving)
    : Type 0 where
  pub gathers : (table : ℕ) → is_hosted_up (hosted_at v.world table) ≡ true
      → HasGatheredThere (gathered_at v table) (tree.get nat_cmp gathered table)
  pub arrives : (c : ℕ) → is_client_up (client_at v.world c) ≡ true
      → KeepsThere (arriving_at v c) (tree.get nat_cmp arriving c)
  pub gathers_none : (table : ℕ) → is_hosted_up (hosted_at v.world table) ≡ false → gathered_at v table ≡ []
  pub arrives_none : (c : ℕ) → is_client_up (client_at v.world c) ≡ false → arriving_at v c ≡ nothing_arriving
  pub no_table : (table : ℕ) → hosted_at v.world table ≡ None → tree.get nat_cmp gathered table ≡ None
  pub no_client : (c : ℕ) → client_at v.world c ≡ None → tree.get nat_cmp arriving c ≡ None

-- ---- the world

pub record Holds {D : Type 0} (state : D → DiskState) (v : Wire) (world : World D) : Type 0 where
  pub nodes : nodes.Holds state v.world world.nodes
  pub packets : HasPackets world.network v.packets
  pub memory : HoldsMemory v world.gathered world.arriving

-- the world of the program stands where a script has led
pub record IsWorld {D : Type 0} (state : D → DiskState) (is_out : ℕ → Bool) (world : World D) : Type 0 where
  pub v : Wire
  pub reached : IsReached v
  pub held : Holds state v world
  pub out : AreOut is_out v.world
