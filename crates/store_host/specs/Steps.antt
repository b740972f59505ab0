-- A table's step, what it tells put behind what was told, and the causes of its calls.
use Rattle.std.specs.Prelude.{◌≡◌, ◌⊎◌, ◌↔◌, ℕ, ◌+◌, ◌<◌, ◌≤◌, ◌++◌, Bool, true, false, List, [], ◌∷◌, filter}
use Rattle.std.specs.Prelude.{Option, Some, option_map, Result, OnOk, OnErr, IfOk, IfErr, IsErrOf}
use Rattle.disk_trait.specs.Calls.{DiskState}
use Rattle.stab_base.specs.declared.limits.TheConstants.{NUMBER_MAX}
use Rattle.stab_base.specs.declared.node.Node.{Node}
use Rattle.stab_base.specs.declared.node.Node.TheVariants as nodes
use Rattle.row_value.specs.declared.schema.Schema.{Schema}
use Rattle.step_tables.specs.Messages.{Luck}
use Rattle.step_tables.specs.Messages as messages
use Rattle.step_tables.specs.Store.{current_of}
use Rattle.step_tables.specs.StoreMoves.{StoreStep, StoreMove, StoreTask, SidePut, TableStore, Take, Place, Crash}
use Rattle.step_tables.specs.StoreMoves.{Start, store_step}
use Rattle.table_model.specs.declared.table_state.TableState.{TableState}
use Rattle.step_tables.specs.Travels.{message_of}
use Rattle.step_tables.specs.declared.message.Message.{Message}
use Rattle.store_node.specs.declared.fault.NodeFault.{NodeFault}
use Rattle.store_node.specs.declared.fault.NodeFault.TheVariants.{Busy, Spent, Disk, Memory}
use Rattle.store_node.specs.declared.node.TableNode.{TableNode}
use Rattle.store_node.specs.declared.showing.ShownRow.{ShownRow}
use Rattle.store_node.specs.declared.showing.WholeRow.{WholeRow}
use Rattle.store_node.specs.Calls.{IsTaken, IsAtWork, IsSpent, IsRowAt}
use Rattle.store_node.specs.Node.{IsTable, told_by, sent_by, own_faults}
use Rattle.store_node.specs.Reading.{shown_of}
use Rattle.world_tables.specs.World.{Outbox, scheme_in, chunk_in, packets_from, declared_late}
use Rattle.world_tables.specs.World.{crash_luck, first_luck, other_lucks}
use Rattle.world_tables.specs.World as world
use Rattle.store_host.specs.declared.hosted.Hosted.{Hosted}
use Rattle.store_host.specs.declared.hosted.TableOut.{TableOut}
use Rattle.store_host.specs.Holds.{IsHosted, behind_step, outs_in, says_something}

-- what a move makes of the table
abbrev pub moved_at : ℕ → Option Schema → ℕ → world.Hosted → StoreMove → StoreStep
moved_at store schema table hosted move =
    store_step store (scheme_in schema) (chunk_in schema) table hosted.store move

-- what a start makes of it
abbrev pub started_by : ℕ → Option Schema → ℕ → world.Hosted → Bool → StoreStep
started_by store schema table hosted true = moved_at store schema table hosted Start
started_by store schema table hosted false = declared_late store table hosted.store.disk.state

abbrev pub started_at : ℕ → Option Schema → ℕ → world.Hosted → StoreStep
started_at store schema table hosted = started_by store schema table hosted hosted.made

-- how often three disks have failed
abbrev pub faults_of : {D : Type 0} → (D → DiskState) → D → D → D → ℕ
faults_of state chunks rows log = (state chunks).faults + ((state rows).faults + (state log).faults)

-- what a step tells and sends
abbrev pub outbox_at : ℕ → StoreStep → Outbox
outbox_at store s = record { facts = s.facts; packets = packets_from (λ table. store) (nodes.Store store) s.sends }

-- The node is behind a step, whose facts and messages it has gathered.
pub record IsTelling {D : Type 0} (state : D → DiskState) (store : ℕ) (declared : Option Schema) (table : ℕ)
    (hosted : world.Hosted) (s : StoreStep) (it : Hosted D) : Type 0 where
  pub schema : declared ≡ Some it.node.schema
  pub number : it.node.table ≡ table
  pub owner : it.node.store ≡ store
  pub node : IsTable state it.node s.store
  pub made : it.node.is_declared ≡ hosted.made
  pub history : it.history ≡ hosted.history
  pub told : told_by it.node ≡ s.facts
  pub sent : sent_by it.node ≡ s.sends

-- The table is behind a step, and what the step told and sent was put behind what was.
pub record HasTold {D : Type 0} (state : D → DiskState) (store : ℕ) (schema : Option Schema) (table : ℕ)
    (hosted : world.Hosted) (s : StoreStep) (it : Hosted D) (old new : List TableOut) : Type 0 where
  pub behind : IsHosted state store schema table (behind_step hosted s) it
  pub outs : outs_in new ≡ outs_in old ++ filter says_something (outbox_at store s ∷ [])

-- why a call of a node failed, and whether one of its disks did
pub record HasNodeCause {D T : Type 0} (state : D → DiskState) (old new : TableNode D)
    (result : Result T NodeFault) : Type 0 where
  pub counted : (IsErrOf result Disk → ⊥) → own_faults state new ≡ own_faults state old
  pub cause : IsErrOf result Disk → own_faults state old < own_faults state new
  pub only : IfErr result (λ e. (e ≡ Disk) ⊎ (e ≡ Memory))

-- What a crash makes of a table, with some lucks: where the first of these is that no device call fails, no disk has
-- failed by itself; else one has.
pub record HasCrashed {D : Type 0} (state : D → DiskState) (store : ℕ) (declared : Option Schema) (table : ℕ)
    (hosted : world.Hosted) (calls : ℕ) (old new : Hosted D) : Type 0 where
  pub lucks : List Luck
  pub told : HasTold state store declared table hosted (moved_at store declared table hosted
      (Crash (crash_luck calls (other_lucks lucks) (first_luck lucks)))) new [] []
  pub done : own_faults state new.node ≡ own_faults state old.node → first_luck lucks ≡ messages.Done
  pub counted : first_luck lucks ≡ messages.Done → own_faults state new.node ≡ own_faults state old.node
  pub later : own_faults state old.node ≤ own_faults state new.node

-- ---- messages and rows

-- it was refused since writes are to be done
abbrev pub IsBusy : {T : Type 0} → Result T NodeFault → Type 0
IsBusy result = (version : ℕ) × IsErrOf result (Busy version)

-- why a message was refused
abbrev pub IsTakeFault : NodeFault → Type 0
IsTakeFault e = ((version : ℕ) × (e ≡ Busy version)) ⊎ ((e ≡ Spent NUMBER_MAX) ⊎ ((e ≡ Disk) ⊎ (e ≡ Memory)))

pub record HasNodeTakeCause {D : Type 0} (state : D → DiskState) (old new : TableNode D)
    (result : Result (Unit {0}) NodeFault) : Type 0 where
  pub counted : (IsErrOf result Disk → ⊥) → own_faults state new ≡ own_faults state old
  pub cause : IsErrOf result Disk → own_faults state old < own_faults state new
  pub only : IfErr result IsTakeFault

-- What a table makes of a message: its step, or nothing, where it takes no such message or refuses it. Where a disk has
-- failed it is down, with the disk as it was.
pub record HasTaken {D : Type 0} (state : D → DiskState) (store : ℕ) (declared : Option Schema) (table : ℕ)
    (hosted : world.Hosted) (from : Node) (message : Message) (old new : Hosted D) (before after : List TableOut)
    (result : Result (Unit {0}) NodeFault) : Type 0 where
  pub taken : IsTaken old.node message → OnOk result (HasTold state store declared table hosted
      (moved_at store declared table hosted (Take from (message_of message))) new before after)
  pub dropped : (IsTaken old.node message → ⊥)
      → OnOk result (IsHosted state store declared table hosted new × (after ≡ before))
  pub idle : (IsBusy result → ⊥) → hosted.store.agenda ≡ Some []
  pub busy : (version : ℕ) → IsErrOf result (Busy version) ↔ IsAtWork hosted.store.disk hosted.store.agenda version
  pub given : IsTaken old.node message
      → IsSpent old.node.schema.scheme old.node.schema.chunk hosted.store.disk message → OnOk result ⊥
  pub spent : (last : ℕ) → IsErrOf result (Spent last) → (hosted.store.agenda ≡ Some [])
      × IsSpent old.node.schema.scheme old.node.schema.chunk hosted.store.disk message × (last ≡ NUMBER_MAX)
  pub refused : (IsErrOf result Disk → ⊥)
      → OnErr result (IsHosted state store declared table hosted new × (after ≡ before))
  pub fallen : IsErrOf result Disk → HasTold state store declared table hosted
      (moved_at store declared table hosted (Crash messages.FailedBefore)) new [] [] × (after ≡ before)

-- What a table shows of a row: its last item. Nothing has changed; or a disk has failed, and the table is down with the
-- disk as it was.
pub record HasShown {D : Type 0} (state : D → DiskState) (store : ℕ) (declared : Option Schema) (table : ℕ)
    (hosted : world.Hosted) (row : List ℕ) (new : Hosted D) (result : Result (Option ShownRow) NodeFault)
    : Type 0 where
  pub shown : IfOk result (λ shown. shown ≡ option_map shown_of (current_of hosted.store.disk.items row))
  pub stays : (IsErrOf result Disk → ⊥) → IsHosted state store declared table hosted new
  pub fallen : IsErrOf result Disk → HasTold state store declared table hosted
      (moved_at store declared table hosted (Crash messages.FailedBefore)) new [] []

-- What a table gives of a row: the row whole as it is now, if anything was written to it. Nothing has changed; or a
-- disk has failed, and the table is down with the disk as it was.
pub record HasGiven {D : Type 0} (state : D → DiskState) (store : ℕ) (declared : Option Schema) (table : ℕ)
    (hosted : world.Hosted) (row : List ℕ) (new : Hosted D) (result : Result (Option WholeRow) NodeFault)
    : Type 0 where
  pub given : IfOk result (IsRowAt hosted.store.disk.items row (current_of hosted.store.disk.items row))
  pub stays : (IsErrOf result Disk → ⊥) → IsHosted state store declared table hosted new
  pub fallen : IsErrOf result Disk → HasTold state store declared table hosted
      (moved_at store declared table hosted (Crash messages.FailedBefore)) new [] []

-- ---- what is put beside the rows

-- What a table makes of a put beside its rows: its step, which tells and sends nothing yet, or nothing, where it
-- refuses it. Where a disk has failed it is down, with the disk as it was.
pub record HasPlaced {D : Type 0} (state : D → DiskState) (store : ℕ) (declared : Option Schema) (table : ℕ)
    (hosted : world.Hosted) (put : SidePut) (new : Hosted D) (result : Result (Unit {0}) NodeFault) : Type 0 where
  pub placed : (outs : List TableOut) → OnOk result (HasTold state store declared table hosted
      (moved_at store declared table hosted (Place put)) new outs outs)
  pub idle : (IsBusy result → ⊥) → hosted.store.agenda ≡ Some []
  pub busy : (version : ℕ) → IsErrOf result (Busy version) ↔ IsAtWork hosted.store.disk hosted.store.agenda version
  pub not_spent : (last : ℕ) → IsErrOf result (Spent last) → ⊥
  pub refused : (IsErrOf result Disk → ⊥) → OnErr result (IsHosted state store declared table hosted new)
  pub fallen : IsErrOf result Disk → HasTold state store declared table hosted
      (moved_at store declared table hosted (Crash messages.FailedBefore)) new [] []

-- the state of a table that is up
abbrev pub state_up : TableStore → Option TableState
state_up s = option_map (λ (agenda : List StoreTask). s.disk.state) s.agenda
