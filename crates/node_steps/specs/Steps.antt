-- What a step of the world promises.
use Rattle.std.specs.Prelude.{◌≡◌, ◌⊎◌, ℕ, suc, ◌+◌, ◌<◌, ◌≤◌, Bool, true, false, List, map, length, Some}
use Rattle.disk_trait.specs.Calls.{DiskState}
use Rattle.stab_base.specs.declared.limits.TheConstants.{NUMBER_MAX}
use Rattle.stab_base.specs.declared.node.Node.{Node}
use Rattle.stab_base.specs.declared.node.Node.TheVariants as nodes
use Rattle.table_model.specs.declared.event.Event.{Event}
use Rattle.table_model.specs.declared.event.Event.TheVariants as events
use Rattle.step_tables.specs.Lines.{line_of}
use Rattle.world_tables.specs.World.{Lucks, step, owner_of, hosted_at, client_at, client_pairs}
use Rattle.world_tables.specs.World as moves
use Rattle.world_tables.specs.Faults.{is_device_fault}
use Rattle.journal_host.specs.Calls.{IsLast}
use Rattle.journal_host.specs.Holds as clients
use Rattle.client_events.specs.Resolves.{IsLastWithin}
use Rattle.node_steps.specs.declared.told.Told.{Told}
use Rattle.node_steps.specs.declared.world.World.{World}
use Rattle.node_steps.specs.Holds.{Holds, AreOut}
use Rattle.node_steps.specs.Faults.{all_faults}
use Rattle.node_steps.specs.Rows.{RowsStay}
use Rattle.node_steps.specs.Told.{answer_lines, AreOuts}

-- The event is carried out: with some lucks, what is told is that of its step, and the program's nodes hold the world
-- behind it. Where the step shows a device fault disks have failed, and else none has. At every
-- moment of it, whatever a crash leaves of a table's disk of rows stands in the table's history.
pub record IsStep {D : Type 0} (state : D → DiskState) (images : D → ℕ → List ℕ → Type 0) (w : moves.World)
    (event : Event) (told : Told) (is_out : ℕ → Bool) (old new : World D) : Type 0 where
  pub lucks : Lucks
  pub lines_are : map line_of told.lines ≡ answer_lines (step w event lucks)
  pub outs_are : AreOuts (owner_of (step w event lucks).world) told.outs (step w event lucks).outs
  pub held : Holds state (step w event lucks).world new
  pub out : AreOut is_out (step w event lucks).world
  pub rose : is_device_fault w event lucks ≡ true → all_faults state old < all_faults state new
  pub same : is_device_fault w event lucks ≡ false → all_faults state new ≡ all_faults state old
  pub rows : RowsStay state images w (step w event lucks).world old new

-- no plan of a client has a number above this
abbrev pub HavePlansBelow : {D : Type 0} → (D → DiskState) → ℕ → World D → Type 0
HavePlansBelow state n world = clients.HavePlansBelow state n world.clients.clients

-- The program's world still holds the world, and no disk has failed.
pub record IsStill {D : Type 0} (state : D → DiskState) (w : moves.World) (old new : World D) : Type 0 where
  pub held : Holds state w new
  pub same : all_faults state new ≡ all_faults state old

-- the last version of a table is given
pub record IsFull (w : moves.World) : Type 0 where
  pub table : ℕ
  pub hosted : moves.Hosted
  pub at : hosted_at w table ≡ Some hosted
  pub full : length hosted.store.disk.items ≡ NUMBER_MAX

-- a client has made its last write, or so many plans were begun
abbrev pub SpendsNumber : ℕ → moves.World → ℕ → Type 0
SpendsNumber n w c = IsLast (client_at w c) ⊎ (NUMBER_MAX ≤ n)

-- with so many writes more a client has made its last one, or with so many plans more so many were begun
abbrev pub SpendsWithin : ℕ → ℕ → moves.World → ℕ → Type 0
SpendsWithin n count w c = IsLastWithin count (client_at w c) ⊎ (NUMBER_MAX ≤ n + count)

-- how many plans an event may begin: where all conflicts of a table are resolved, one for each of them and one more
abbrev pub may_begin : moves.World → Event → ℕ
may_begin w (events.ResolveAll client table by) = suc (length (client_pairs (client_at w client) table))
may_begin w other = 1

-- a client that is to open or to close a table needs a number of a plan; no other node does
abbrev pub SpendsAt : ℕ → moves.World → Node → Type 0
SpendsAt n w (nodes.Client c) = SpendsNumber n w c
SpendsAt n w other = ⊥

-- A number of a write or of a plan, or a version, above the last would be needed, where so many plans were begun.
abbrev pub Spends : ℕ → moves.World → Event → Type 0
Spends n w (events.Write client table row content) = SpendsNumber n w client
Spends n w (events.Edit client table row edit) = SpendsNumber n w client
Spends n w (events.Show client table row) = SpendsNumber n w client
Spends n w (events.Sum client table row) = SpendsNumber n w client
Spends n w (events.Sync client table) = SpendsNumber n w client
Spends n w (events.Pull client table) = SpendsNumber n w client
Spends n w (events.BeginCr client table) = SpendsNumber n w client
Spends n w (events.Conflicts client table) = SpendsNumber n w client
Spends n w (events.EndCr client table) = SpendsNumber n w client
Spends n w (events.Resolve client table row seen choice) = SpendsNumber n w client
Spends n w (events.ResolveAll client table by) =
    SpendsWithin n (length (client_pairs (client_at w client) table)) w client
Spends n w (events.Create node table) = SpendsAt n w node
Spends n w (events.Drop node table) = SpendsAt n w node
Spends n w (events.Ask client table) = SpendsNumber n w client
Spends n w (events.Deliver packet) = IsFull w ⊎ ((c : ℕ) × SpendsNumber n w c)
Spends n w other = ⊥
