-- What the nodes have of a row, for the part of a message.
use Rattle.std.specs.Prelude.{◌≡◌, ◌<◌, ℕ, List, Option, Some, None}
use Rattle.disk_trait.specs.Calls.{DiskState}
use Rattle.table_model.specs.declared.message.RowHeader.{RowHeader}
use Rattle.step_tables.specs.Facts as facts
use Rattle.world_tables.specs.World.{Moved, answering, failing}
use Rattle.store_host.specs.Holds.{AreLeft}
use Rattle.wire_tables.specs.Wire.{Wire}
use Rattle.node_steps.specs.declared.told.Read.{Read}
use Rattle.node_steps.specs.declared.told.Read.TheVariants as reads
use Rattle.node_steps.specs.declared.told.Told.{Told}
use Rattle.node_steps.specs.Calls as node_calls
use Rattle.node_steps.specs.Faults as node_faults
use Rattle.node_steps.specs.Holds.{Holds as NodesHold}
use Rattle.wire_steps.specs.declared.world.World.{World}

abbrev pub row_in : Option RowHeader → Option (List ℕ)
row_in None = None
row_in (Some header) = Some header.row

-- this was read, and nothing has changed
pub record HasSeen {D T : Type 0} (state : D → DiskState) (images : D → ℕ → List ℕ → Type 0) (v : Wire)
    (is : T → Type 0) (old new : World D) (it : T) : Type 0 where
  pub found : is it
  pub held : NodesHold state v.world new.nodes
  pub same : node_faults.all_faults state new.nodes ≡ node_faults.all_faults state old.nodes
  pub left : AreLeft state images v.world old.nodes.store.tables new.nodes.store.tables
  pub rest : new ≡ record old { nodes = new.nodes }

-- a disk has failed, and its node is down
pub record HasLost {D : Type 0} (state : D → DiskState) (images : D → ℕ → List ℕ → Type 0) (v : Wire)
    (falls : Moved) (old new : World D) (told : Told) : Type 0 where
  pub done : node_calls.IsDone state v.world (answering facts.Done (failing falls)) told new.nodes
  pub rose : node_faults.all_faults state old.nodes < node_faults.all_faults state new.nodes
  pub left : AreLeft state images v.world old.nodes.store.tables new.nodes.store.tables
  pub rest : new ≡ record old { nodes = new.nodes }

abbrev pub Sees : {D T : Type 0} → (D → DiskState) → (D → ℕ → List ℕ → Type 0) → Wire → Moved → (T → Type 0)
    → (old new : World D) → Read T → Type 0
Sees state images v falls is old new (reads.Found found) = HasSeen state images v is old new found
Sees state images v falls is old new (reads.Fallen told) = HasLost state images v falls old new told
