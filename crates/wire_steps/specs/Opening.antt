-- Whether a client has a table opened, and what comes of it where its disks can't be read.
use Rattle.std.specs.Prelude.{◌≡◌, ℕ, Bool, true, List}
use Rattle.disk_trait.specs.Calls.{DiskState}
use Rattle.stab_base.specs.declared.node.Node.TheVariants as nodes
use Rattle.table_model.specs.declared.event.Event.TheVariants as events
use Rattle.table_model.specs.declared.line.TextLine.{TextLine}
use Rattle.world_tables.specs.Faults.{is_failure}
use Rattle.world_tables.specs.World.{client_at, first_luck}
use Rattle.journal_host.specs.Calls.{has_table}
use Rattle.wire_tables.specs.Wire.{Wire}
use Rattle.wire_steps.specs.declared.reading.Read.{Read}
use Rattle.wire_steps.specs.declared.reading.Read.TheVariants as reads
use Rattle.wire_steps.specs.declared.world.World.{World}
use Rattle.wire_steps.specs.Holds.{Holds}
use Rattle.wire_steps.specs.Steps.{IsStep, all_faults}

-- this was read, and nothing has changed
pub record HasFound {D : Type 0} (state : D → DiskState) (v : Wire) (c table : ℕ) (old new : World D) (found : Bool)
    : Type 0 where
  pub found_is : found ≡ has_table (client_at v.world c) table
  pub held : Holds state v new
  pub same : all_faults state new ≡ all_faults state old
  pub store : new.nodes.store ≡ old.nodes.store

-- A disk of the client has failed, and it is down: this is as where it is to close the table, and its device calls begin
-- with a failure.
pub record HasFallen {D : Type 0} (state : D → DiskState) (images : D → ℕ → List ℕ → Type 0) (v : Wire)
    (c table : ℕ) (is_out : ℕ → Bool) (old new : World D) (lines : List TextLine) : Type 0 where
  pub step : IsStep state images v (events.Drop (nodes.Client c) table) lines is_out old new
  pub failed : is_failure (first_luck step.lucks.calls) ≡ true

abbrev pub HasRead : {D : Type 0} → (D → DiskState) → (D → ℕ → List ℕ → Type 0) → Wire → ℕ → ℕ → (ℕ → Bool)
    → (old new : World D) → Read Bool → Type 0
HasRead state images v c table is_out old new (reads.Found found) = HasFound state v c table old new found
HasRead state images v c table is_out old new (reads.Fallen lines) =
    HasFallen state images v c table is_out old new lines
