-- What the calls of the Stores with their tables promise, in the moves of the world.
use Rattle.std.specs.Prelude.{◌≡◌, ◌⊎◌, ◌↔◌, ℕ, Bool, false, ◌&&◌, List, [], ◌∷◌, ◌++◌, Option, Some, None}
use Rattle.std.specs.Prelude.{option_map, Result, Ok, OnOk, OnErr, IfOk, IfErr, IsErrOf}
use Rattle.std.specs.BTreeMap as tree
use Rattle.disk_trait.specs.Calls.{DiskState}
use Rattle.stab_base.specs.declared.limits.TheConstants.{NUMBER_MAX}
use Rattle.stab_base.specs.declared.node.Node.{Node}
use Rattle.row_value.specs.declared.schema.Schema.{Schema}
use Rattle.row_value.specs.Fit.{fit_of}
use Rattle.row_store.specs.Spelling.{IsClient}
use Rattle.row_store.specs.declared.stored.Sub.{Sub}
use Rattle.step_tables.specs.Messages.{Luck, table_of}
use Rattle.step_tables.specs.Messages as messages
use Rattle.step_tables.specs.Store.{current_of}
use Rattle.step_tables.specs.StoreMoves.{Take, Place, SidePut, StoreDisk, StoreTask, version_at}
use Rattle.table_model.specs.declared.table_state.TableState.{TableState}
use Rattle.step_tables.specs.Travels.{message_of}
use Rattle.step_tables.specs.declared.message.Message.{Message}
use Rattle.step_tables.specs.declared.message.Message.TheVariants as kinds
use Rattle.store_node.specs.declared.fault.NodeFault.{NodeFault}
use Rattle.store_node.specs.declared.fault.NodeFault.TheVariants.{Busy, Spent, Disk, Memory}
use Rattle.store_node.specs.declared.showing.ShownRow.{ShownRow}
use Rattle.store_node.specs.declared.showing.WholeRow.{WholeRow}
use Rattle.store_node.specs.Calls.{IsAtWork, IsSpent, IsRowAt}
use Rattle.store_node.specs.Reading.{shown_of}
use Rattle.store_node.specs.Sides.{listed}
use Rattle.world_tables.specs.World.{World, Moved, owner_of, scheme_in, chunk_in, schema_at, hosted_at}
use Rattle.world_tables.specs.World.{and_then, move_table, table_falls, tables_fall, tables_start, store_falls}
use Rattle.world_tables.specs.World.{table_crashes, crash_luck, first_luck, other_lucks, is_live, is_at_work}
use Rattle.world_tables.specs.World as world
use Rattle.store_host.specs.declared.hosted.Hosted.{Hosted}
use Rattle.store_host.specs.declared.hosted.TableOut.{TableOut}
use Rattle.store_host.specs.declared.host.StoreHost.{StoreHost}
use Rattle.store_host.specs.Holds.{HoldsTables, HoldsStore, outs_in, outs_of, said_by, SameFaults, RisenFaults}
use Rattle.store_host.specs.Steps.{IsBusy, IsTakeFault, state_up}

-- The tables are where these moves lead to from this world, and what the moves told and sent was put behind what was.
-- One of the moves failed, or none.
pub record AreMoved {D : Type 0} (state : D → DiskState) (w : World) (tables : tree.BTreeMap ℕ (Hosted D))
    (old new : List TableOut) (fails : Bool) (m : Moved) : Type 0 where
  pub held : HoldsTables state m.world tables
  pub outs : outs_in new ≡ outs_in old ++ said_by m
  pub downs : m.world.downs ≡ w.downs
  pub failed : m.failed ≡ fails

-- The Stores are where these moves lead to.
pub record IsMoved {D : Type 0} (state : D → DiskState) (old new : StoreHost D) (m : Moved) : Type 0 where
  pub held : HoldsStore state m.world new
  pub outs : outs_of new ≡ outs_of old ++ said_by m

-- Why a call failed, and which disks failed in it: some of one table, where it says so, and else none.
pub record HasCause {D T : Type 0} (state : D → DiskState) (old new : tree.BTreeMap ℕ (Hosted D))
    (result : Result T NodeFault) : Type 0 where
  pub counted : (IsErrOf result Disk → ⊥) → SameFaults state old new
  pub cause : IsErrOf result Disk → RisenFaults state old new
  pub only : IfErr result (λ e. (e ≡ Disk) ⊎ (e ≡ Memory))

-- ---- crashes

-- What the first luck of a crash says of the disks: where it is that no device call fails, none has failed by itself;
-- else one has. A Store with no table that has writes to do has no such fault.
pub record HasLuck {D : Type 0} (state : D → DiskState) (busy : Option ℕ) (old new : tree.BTreeMap ℕ (Hosted D))
    (lucks : List Luck) : Type 0 where
  pub done : SameFaults state old new → first_luck lucks ≡ messages.Done
  pub counted : first_luck lucks ≡ messages.Done → SameFaults state old new
  pub cause : (first_luck lucks ≡ messages.Done → ⊥) → RisenFaults state old new
  pub idle : busy ≡ None → first_luck lucks ≡ messages.Done

-- What a crash inside the next write of this table makes of the tables, with some lucks.
abbrev pub AreCrashed : {D : Type 0} → (D → DiskState) → World → Option ℕ → ℕ → (old new : tree.BTreeMap ℕ (Hosted D))
    → Type 0
AreCrashed state w busy calls old new = (lucks : List Luck) × AreMoved state w new [] [] false
    (table_crashes (crash_luck calls (other_lucks lucks) (first_luck lucks)) busy w) × HasLuck state busy old new lucks

-- ---- starts

-- these tables fall, and then they are started
abbrev pub restart_moves : List ℕ → List Luck → World → Moved
restart_moves numbers lucks w = and_then (tables_fall numbers w) (tables_start numbers lucks)

-- ---- messages

-- the table that a message is of
abbrev pub table_in : Message → ℕ
table_in message = table_of (message_of message)

-- a request whose content is a row of its table, where that is there, of one of the clients; any other message
abbrev pub FitsIn : World → Message → Type 0
FitsIn w (kinds.SyncRequest request) =
    ((schema : Schema) → schema_at w request.table ≡ Some schema → fit_of schema request.content ≡ Ok tt)
    × IsClient request.client
FitsIn w other = Unit {0}

-- the table is there and has writes to do, with this version at work
abbrev pub IsBusyWith : World → ℕ → ℕ → Type 0
IsBusyWith w table version = (hosted : world.Hosted) × (hosted_at w table ≡ Some hosted)
    × IsAtWork hosted.store.disk hosted.store.agenda version

-- the message's table is there and has no writes to do, and no version is left for the new write that it asks for
abbrev pub IsSpentIn : World → Message → Type 0
IsSpentIn w message = (hosted : world.Hosted) × (hosted_at w (table_in message) ≡ Some hosted)
    × (hosted.store.agenda ≡ Some [])
    × IsSpent (scheme_in (schema_at w (table_in message))) (chunk_in (schema_at w (table_in message))) hosted.store.disk
    message

-- Why a message was refused, and which disks failed in it: some of one table, where it says so, and else none.
pub record HasTakeCause {D : Type 0} (state : D → DiskState) (old new : tree.BTreeMap ℕ (Hosted D))
    (result : Result (Unit {0}) NodeFault) : Type 0 where
  pub counted : (IsErrOf result Disk → ⊥) → SameFaults state old new
  pub cause : IsErrOf result Disk → RisenFaults state old new
  pub only : IfErr result IsTakeFault

-- What the tables make of a message for one of them.
pub record AreTaken {D : Type 0} (state : D → DiskState) (w : World) (from : Node)
    (message : Message) (new : tree.BTreeMap ℕ (Hosted D)) (before after : List TableOut)
    (result : Result (Unit {0}) NodeFault) : Type 0 where
  pub done : FitsIn w message → OnOk result (AreMoved state w new before after false
      (move_table (table_in message) (Take from (message_of message)) w))
  pub dropped : (FitsIn w message → ⊥) → OnOk result (HoldsTables state w new × (after ≡ before))
  pub idle : (IsBusy result → ⊥) → (hosted : world.Hosted) → hosted_at w (table_in message) ≡ Some hosted
      → hosted.store.agenda ≡ Some []
  pub busy : (version : ℕ) → IsErrOf result (Busy version) ↔ IsBusyWith w (table_in message) version
  pub given : FitsIn w message → IsSpentIn w message → OnOk result ⊥
  pub spent : (last : ℕ) → IsErrOf result (Spent last) → IsSpentIn w message × (last ≡ NUMBER_MAX)
  pub refused : (IsErrOf result Disk → ⊥) → OnErr result (HoldsTables state w new × (after ≡ before))
  pub fallen : IsErrOf result Disk
      → AreMoved state w new [] [] false (table_falls (table_in message) w) × (after ≡ before)

-- What the Stores make of a message for a table: the table's move, or nothing, where the table isn't there or the
-- content is no row of it. A refusal leaves all as it was. Where a disk has failed the owner is down with all its
-- tables, and no device has changed.
pub record Takes {D : Type 0} (state : D → DiskState) (w : World) (from : Node) (message : Message)
    (old new : StoreHost D) (result : Result (Unit {0}) NodeFault) : Type 0 where
  pub done : FitsIn w message
      → OnOk result (IsMoved state old new (move_table (table_in message) (Take from (message_of message)) w))
  pub dropped : (FitsIn w message → ⊥) → OnOk result (HoldsStore state w new × (new.outs ≡ old.outs))
  pub idle : (IsBusy result → ⊥) → (hosted : world.Hosted) → hosted_at w (table_in message) ≡ Some hosted
      → hosted.store.agenda ≡ Some []
  pub busy : (version : ℕ) → IsErrOf result (Busy version) ↔ IsBusyWith w (table_in message) version
  pub given : FitsIn w message → IsSpentIn w message → OnOk result ⊥
  pub spent : (last : ℕ) → IsErrOf result (Spent last) → IsSpentIn w message × (last ≡ NUMBER_MAX)
  pub refused : (IsErrOf result Disk → ⊥) → OnErr result (HoldsStore state w new)
  pub fallen : IsErrOf result Disk → IsMoved state old new (store_falls (owner_of w (table_in message)) w)

-- ---- rows

-- What the tables show of a row of one of them.
pub record AreShown {D : Type 0} (state : D → DiskState) (w : World) (table : ℕ) (row : List ℕ)
    (new : tree.BTreeMap ℕ (Hosted D)) (result : Result (Option ShownRow) NodeFault) : Type 0 where
  pub shown : (hosted : world.Hosted) → hosted_at w table ≡ Some hosted
      → IfOk result (λ shown. shown ≡ option_map shown_of (current_of hosted.store.disk.items row))
  pub stays : (IsErrOf result Disk → ⊥) → HoldsTables state w new
  pub fallen : IsErrOf result Disk → AreMoved state w new [] [] false (table_falls table w)

-- What is shown of a row of a table: its last item, if it has one. Nothing has changed; or a disk has failed, and the
-- owner is down with all its tables.
pub record ShowsRow {D : Type 0} (state : D → DiskState) (w : World) (table : ℕ) (row : List ℕ)
    (old new : StoreHost D) (result : Result (Option ShownRow) NodeFault) : Type 0 where
  pub shown : (hosted : world.Hosted) → hosted_at w table ≡ Some hosted
      → IfOk result (λ shown. shown ≡ option_map shown_of (current_of hosted.store.disk.items row))
  pub stays : (IsErrOf result Disk → ⊥) → HoldsStore state w new
  pub fallen : IsErrOf result Disk → IsMoved state old new (store_falls (owner_of w table) w)

-- ---- the version at work

-- the version of a table's next write; 0 where it has none
abbrev pub version_by : StoreDisk → Option (List StoreTask) → ℕ
version_by disk (Some (task ∷ tasks)) = version_at disk task.change
version_by disk other = 0

-- the same of a table that may be there
abbrev pub busy_version : Option world.Hosted → ℕ
busy_version None = 0
busy_version (Some hosted) = version_by hosted.store.disk hosted.store.agenda

-- whether a table is live and has writes to do
abbrev pub is_live_at_work : World → ℕ → Bool
is_live_at_work w table = is_live (hosted_at w table) && is_at_work w table

-- ---- rows whole

-- What the tables give of a row of one of them.
pub record AreGiven {D : Type 0} (state : D → DiskState) (w : World) (table : ℕ) (row : List ℕ)
    (new : tree.BTreeMap ℕ (Hosted D)) (result : Result (Option WholeRow) NodeFault) : Type 0 where
  pub given : (hosted : world.Hosted) → hosted_at w table ≡ Some hosted
      → IfOk result (IsRowAt hosted.store.disk.items row (current_of hosted.store.disk.items row))
  pub stays : (IsErrOf result Disk → ⊥) → HoldsTables state w new
  pub fallen : IsErrOf result Disk → AreMoved state w new [] [] false (table_falls table w)

-- What is given of a row of a table: the row whole as it is now, with the names of its chunks and the last write of
-- each client on it, if anything was written to it. Nothing has changed; or a disk has failed, and the owner is down
-- with all its tables.
pub record GivesRow {D : Type 0} (state : D → DiskState) (w : World) (table : ℕ) (row : List ℕ)
    (old new : StoreHost D) (result : Result (Option WholeRow) NodeFault) : Type 0 where
  pub given : (hosted : world.Hosted) → hosted_at w table ≡ Some hosted
      → IfOk result (IsRowAt hosted.store.disk.items row (current_of hosted.store.disk.items row))
  pub stays : (IsErrOf result Disk → ⊥) → HoldsStore state w new
  pub fallen : IsErrOf result Disk → IsMoved state old new (store_falls (owner_of w table) w)

-- ---- what is put beside the rows

-- What the tables make of a put beside the rows of one of them.
pub record ArePlaced {D : Type 0} (state : D → DiskState) (w : World) (table : ℕ) (put : SidePut)
    (new : tree.BTreeMap ℕ (Hosted D)) (result : Result (Unit {0}) NodeFault) : Type 0 where
  pub done : (outs : List TableOut)
      → OnOk result (AreMoved state w new outs outs false (move_table table (Place put) w))
  pub idle : (IsBusy result → ⊥) → (hosted : world.Hosted) → hosted_at w table ≡ Some hosted
      → hosted.store.agenda ≡ Some []
  pub busy : (version : ℕ) → IsErrOf result (Busy version) ↔ IsBusyWith w table version
  pub not_spent : (last : ℕ) → IsErrOf result (Spent last) → ⊥
  pub refused : (IsErrOf result Disk → ⊥) → OnErr result (HoldsTables state w new)
  pub fallen : IsErrOf result Disk → AreMoved state w new [] [] false (table_falls table w)

-- What the Stores make of a put beside the rows of a table: the table's move, or nothing, where the table isn't there.
-- A refusal leaves all as it was. Where a disk has failed the owner is down with all its tables, and no device has
-- changed.
pub record PutsBeside {D : Type 0} (state : D → DiskState) (w : World) (table : ℕ) (put : SidePut)
    (old new : StoreHost D) (result : Result (Unit {0}) NodeFault) : Type 0 where
  pub done : OnOk result (IsMoved state old new (move_table table (Place put) w))
  pub idle : (IsBusy result → ⊥) → (hosted : world.Hosted) → hosted_at w table ≡ Some hosted
      → hosted.store.agenda ≡ Some []
  pub busy : (version : ℕ) → IsErrOf result (Busy version) ↔ IsBusyWith w table version
  pub not_spent : (last : ℕ) → IsErrOf result (Spent last) → ⊥
  pub refused : (IsErrOf result Disk → ⊥) → OnErr result (HoldsStore state w new)
  pub fallen : IsErrOf result Disk → IsMoved state old new (store_falls (owner_of w table) w)

-- the state of a table that may be there, where it is up
abbrev pub state_at : Option world.Hosted → Option TableState
state_at None = None
state_at (Some hosted) = state_up hosted.store

-- the subscriptions to a table that may be there
abbrev pub subs_at : Option world.Hosted → List Sub
subs_at None = []
subs_at (Some hosted) = listed hosted.store.disk.subs
