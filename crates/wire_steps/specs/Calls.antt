-- What the calls of the world promise.
use Rattle.std.specs.Prelude.{◌≡◌, ◌≢◌, ◌⊎◌, ℕ, ◌<◌, List, map, is_some, Result, IfOk, IfErr}
use Rattle.disk_trait.specs.Calls.{DiskState}
use Rattle.stab_base.specs.declared.node.Node.{Node}
use Rattle.table_model.specs.declared.event.Event.{Event}
use Rattle.table_model.specs.declared.event.Event.TheVariants as events
use Rattle.table_model.specs.declared.line.TextLine.{TextLine}
use Rattle.step_tables.specs.Lines.{line_of}
use Rattle.step_tables.specs.Messages as messages
use Rattle.world_tables.specs.Faults.{is_fault_answer}
use Rattle.world_tables.specs.Passed.{first_part}
use Rattle.world_tables.specs.World.{World as AWorld, Lucks, hosted_at, client_at, carried, step}
use Rattle.fair_laws.specs.Reached as fair
use Rattle.wire_tables.specs.Wire.{Wire, WireStep, lines_of, spread}
use Rattle.wire_laws.specs.Carried.{IsCarriedAs}
use Rattle.part_network.specs.Packets.{most_bytes, bytes_of}
use Rattle.node_steps.specs.declared.fault.WorldFault.{WorldFault}
use Rattle.node_steps.specs.declared.fault.WorldFault.TheVariants.{Depot as DepotFailed, Limit as LimitPassed}
use Rattle.node_steps.specs.declared.world.World.{World as Nodes}
use Rattle.node_steps.specs.Faults.{AreTotals}
use Rattle.node_steps.specs.Holds.{Holds as NodesHold}
use Rattle.node_steps.specs.Rows.{AreLeftOver}
use Rattle.node_steps.specs.Steps.{IsFull, SpendsNumber}
use Rattle.wire_steps.specs.declared.world.World.{World}
use Rattle.wire_steps.specs.Holds.{Holds}

-- ---- a step of the wire

-- Some event leads from one world to the other, and this is left of the rows over it.
pub record RowsOver {D : Type 0} (state : D → DiskState) (images : D → ℕ → List ℕ → Type 0) (w after : AWorld)
    (old new : Nodes D) : Type 0 where
  pub event : Event
  pub lucks : Lucks
  pub behind : (step w event lucks).world ≡ after
  pub left : AreLeftOver state images w (first_part w event lucks) old.store.tables new.store.tables

-- The nodes are behind a step of the wire, which declares nothing.
pub record IsBehind {D : Type 0} (state : D → DiskState) (images : D → ℕ → List ℕ → Type 0) (v : Wire)
    (s : WireStep) (old new : Nodes D) : Type 0 where
  pub held : NodesHold state s.wire.world new
  pub tables : (table : ℕ) → is_some (hosted_at s.wire.world table) ≡ is_some (hosted_at v.world table)
  pub clients : (c : ℕ) → is_some (client_at s.wire.world c) ≡ is_some (client_at v.world c)
  pub counted : AreTotals state (is_fault_answer s.answer) old new
  pub rows : RowsOver state images v.world s.wire.world old new

-- These are its lines, and the world holds the wire behind it.
pub record IsDone {D : Type 0} (state : D → DiskState) (images : D → ℕ → List ℕ → Type 0) (v : Wire)
    (s : WireStep) (lines : List TextLine) (old new : World D) : Type 0 where
  pub behind : IsBehind state images v s old.nodes new.nodes
  pub lines_are : map line_of lines ≡ lines_of v s
  pub held : Holds state s.wire new

-- The nodes are behind it, and it sends more bytes than may be sent.
pub record IsPast {D : Type 0} (state : D → DiskState) (images : D → ℕ → List ℕ → Type 0) (v : Wire)
    (s : WireStep) (old new : World D) : Type 0 where
  pub behind : IsBehind state images v s old.nodes new.nodes
  pub over : most_bytes < bytes_of s.wire.packets

-- with some lucks
abbrev pub Comes : {D : Type 0} → (D → DiskState) → (D → ℕ → List ℕ → Type 0) → Wire → (Lucks → WireStep)
    → Result (List TextLine) WorldFault → (old new : World D) → Type 0
Comes state images v f result old new =
    IfOk result (λ lines. (lucks : Lucks) × IsDone state images v (f lucks) lines old new)

-- Why the run ends: with some lucks too many bytes would be sent; the depot hands nothing out.
pub record EndsRun {D : Type 0} (state : D → DiskState) (images : D → ℕ → List ℕ → Type 0) (v : Wire)
    (f : Lucks → WireStep) (old new : World D) (e : WorldFault) : Type 0 where
  pub over : (count : ℕ) → e ≡ LimitPassed 10 count → (lucks : Lucks) × IsPast state images v (f lucks) old new
  pub only : e ≢ DepotFailed

abbrev pub Ends : {D : Type 0} → (D → DiskState) → (D → ℕ → List ℕ → Type 0) → Wire → (Lucks → WireStep)
    → Result (List TextLine) WorldFault → (old new : World D) → Type 0
Ends state images v f result old new = IfErr result (EndsRun state images v f old new)

-- ---- limits

-- a table has given its last version, or a client has made its last write, or so many plans were begun
abbrev pub SpendsAny : ℕ → AWorld → Type 0
SpendsAny n w = IsFull w ⊎ ((c : ℕ) × SpendsNumber n w c)

-- limit 10, or limit 11 by this cause
abbrev pub IsLimitedBy : {T : Type 0} → Type 0 → Result T WorldFault → Type 0
IsLimitedBy cause result = IfErr result (λ e. (code count : ℕ) → e ≡ LimitPassed code count
    → (code ≡ 10) ⊎ ((code ≡ 11) × cause))

abbrev pub IsLimited : {T : Type 0} → ℕ → AWorld → Result T WorldFault → Type 0
IsLimited n w result = IsLimitedBy (SpendsAny n w) result

-- ---- what is handed to the nodes

abbrev pub bring_step : Wire → Node → Node → messages.Message → Lucks → WireStep
bring_step kept from to message lucks = spread kept
    (carried kept.world (record { from = from; to = to; message = message }) lucks.shape lucks.calls to)

-- The node makes of this message what it makes of one that was sent. What is kept of parts is that of the wire.
pub record IsToCarry {D : Type 0} (state : D → DiskState) (world : World D) (from to : Node)
    (message : messages.Message) : Type 0 where
  pub kept : Wire
  pub reached : fair.IsReached kept.world
  pub held : Holds state kept world
  pub carried : IsCarriedAs kept.world from to message

abbrev pub pull_step : Wire → ℕ → ℕ → List (List ℕ) → List (List ℕ) → Lucks → WireStep
pull_step kept c table tears asks lucks =
    spread kept (step kept.world (events.Pull c table) (record lucks { tears = tears; asks = asks }))

-- a client may pull
pub record IsToPull {D : Type 0} (state : D → DiskState) (world : World D) : Type 0 where
  pub kept : Wire
  pub reached : fair.IsReached kept.world
  pub held : Holds state kept world
