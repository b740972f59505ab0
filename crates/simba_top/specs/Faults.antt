-- The device faults of a run, and the disks that it is on.
use Rattle.std.specs.Prelude.{◌≡◌, ℕ, ◌<◌, ◌≤◌, true, List, [], ◌∷◌, ◌++◌, Option, Some, IfSome}
use Rattle.disk_trait.specs.Calls.{DiskState}
use Rattle.table_model.specs.declared.entry.Entry.{Entry}
use Rattle.step_tables.specs.Sayings.{nothing_said, hear_lines}
use Rattle.world_tables.specs.Turns.{Happening, transcript_of}
use Rattle.world_tables.specs.World.{Hosted, Lucks, hosted_at}
use Rattle.wire_laws.specs.Runs.{AreBuilt}
use Rattle.part_network.specs.Packets.{most_bytes}
use Rattle.gated_tables.specs.Net.{start, net_step}
use Rattle.gated_tables.specs.Runs.{net_from, net_turns}
use Rattle.gated_tables.specs.Faults.{net_faults}
use Rattle.gated_laws.specs.Runs.{AreDeclaredFirst}
use Rattle.net_network.specs.Packets.{net_bytes}
use Rattle.table_model.specs.declared.event.Event.{Event}
use Rattle.node_steps.specs.Faults.{all_faults_back}
use Rattle.node_steps.specs.Holds as nodes
use Rattle.node_steps.specs.Rows.{IsRowsBack}
use Rattle.net_steps.specs.declared.world.World.{World}
use Rattle.net_steps.specs.Steps.{all_faults}

-- a run has no more device faults than disks have failed, and has one where a disk has failed
pub record Matches (faults failed : ℕ) : Type 0 where
  pub few : faults ≤ failed
  pub one : 0 < failed → 0 < faults

-- the history of a table that the lines of a run tell
abbrev pub told_history : List Happening → ℕ → List Entry
told_history run table = (hear_lines nothing_said (transcript_of (net_turns run))).history table

-- What the disks that came back last under the numbers of a run's tables say of it: its device faults are failures of
-- these disks; and of each table that was declared, and made, whatever a crash may leave of its disk of rows are the
-- rows of the history that the lines tell, or of that with the update at work.
pub record HasDisks {D : Type 0} (state : D → DiskState) (disks : ℕ → Option D) (run : List Happening) : Type 0 where
  pub faults : Matches (net_faults start run) (all_faults_back state disks (net_from start run).wire.world)
  pub rows : (table : ℕ) (hosted : Hosted) → hosted_at (net_from start run).wire.world table ≡ Some hosted
      → hosted.made ≡ true → IsRowsBack state disks (net_from start run).wire.world table (told_history run table)

-- where the depot tells its disks, the run is on them
abbrev pub IsOnDisks : {D : Type 0} → (D → DiskState) → Option (ℕ → Option D) → List Happening → Type 0
IsOnDisks state told run = IfSome told (λ disks. HasDisks state disks run)

-- a run of which nothing is said
abbrev pub AnyRun : List Happening → Type 0
AnyRun run = Unit {0}

-- the run led to the nodes of this world, whose disks failed so
pub record Led {D : Type 0} (state : D → DiskState) (world : World D) (run : List Happening) : Type 0 where
  pub first : AreDeclaredFirst run
  pub built : AreBuilt run
  pub held : nodes.Holds state (net_from start run).wire.world world.wire.nodes
  pub counted : Matches (net_faults start run) (all_faults state world)

-- With this event more the frames of a run's messages have more bytes than may be sent. P holds of the run with it.
pub record GoesOver (P : List Happening → Type 0) (event : Event) (run : List Happening) : Type 0 where
  pub lucks : Lucks
  pub over : most_bytes < net_bytes (net_step (net_from start run) event lucks).net.sent
  pub kept : P (run ++ record { event = event; lucks = lucks } ∷ [])
