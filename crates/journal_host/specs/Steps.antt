-- A client's step, what it tells put behind what was told, and the causes of its calls.
use Rattle.std.specs.Prelude.{◌≡◌, ◌⊎◌, ℕ, suc, ◌<◌, ◌≤◌, ◌++◌, Bool, false, not, List, [], ◌∷◌, length, Some, None}
use Rattle.std.specs.Prelude.{Result, Ok, IfOk, IfErr, IsErrOf, if◌then◌else◌}
use Rattle.disk_trait.specs.Calls.{DiskState}
use Rattle.stab_base.specs.declared.node.Node.TheVariants as nodes
use Rattle.table_model.specs.declared.line.Answer.{Answer}
use Rattle.table_model.specs.declared.line.RowPair.{RowPair}
use Rattle.table_model.specs.declared.line.Answer.TheVariants as answers
use Rattle.table_model.specs.declared.line.Refusal.TheVariants as refusals
use Rattle.step_tables.specs.Facts as facts
use Rattle.step_tables.specs.Lines.{answer_of}
use Rattle.step_tables.specs.Messages.{Luck, Done, FailedBefore}
use Rattle.step_tables.specs.ClientMoves.{Shape, Client, ClientStep, ClientMove, Conflicts, Crash, Start, client_step}
use Rattle.step_tables.specs.ClientMoves.{no_shape, quiet}
use Rattle.client_node.specs.declared.fault.CallFault.{CallFault}
use Rattle.client_node.specs.declared.fault.CallFault.TheVariants.{Disk, Memory}
use Rattle.client_node.specs.declared.node.ClientNode.{ClientNode}
use Rattle.client_node.specs.Node.{IsClient, told_by, sent_by, has_task, LeavesEither, HasPlansBelow}
use Rattle.client_node.specs.Calls.{IsBehind, Stays}
use Rattle.client_node.specs.Does.{IsOfNode, refusal_in, step_with}
use Rattle.client_node.specs.Linked.{phased_step}
use Rattle.world_tables.specs.World.{Outbox, packets_from, crash_luck, first_luck, other_lucks, is_closed}
use Rattle.world_tables.specs.World.{table_of_move, closed_answer}
use Rattle.journal_host.specs.declared.fault.ClientFault.{ClientFault}
use Rattle.journal_host.specs.declared.out.ClientOut.{ClientOut}
use Rattle.journal_host.specs.Holds.{IsHosted, outs_in, AreSameOuts, said, node_faults}

-- ---- what a node makes of what it is asked for

-- it made the move, and this is the answer
abbrev pub HasMade : {D : Type 0} → (D → DiskState) → Client → ClientMove → (old new : ClientNode D) → Answer → Type 0
HasMade state s move old new answer = (shape : Shape) × IsOfNode state old shape
    × IsBehind state old new (step_with old shape s move)
    × ((step_with old shape s move).answer ≡ answer_of answer)

-- it dropped what it was asked for
abbrev pub HasDropped : {D : Type 0} → (D → DiskState) → Client → (old new : ClientNode D) → Answer → Type 0
HasDropped state s old new answer = (answer ≡ answers.Done) × Stays state old new s

-- It is done so; or it was refused, as the step table refuses it, or for want of numbers or of memory, and nothing has
-- changed; or a disk has failed, and the node is down with the disk as it was.
pub record Replies {D : Type 0} (state : D → DiskState) (images : D → ℕ → List ℕ → Type 0) (s : Client)
    (move : ClientMove) (old new : ClientNode D) (done_so : Answer → Type 0) (result : Result Answer CallFault)
    : Type 0 where
  pub done : IfOk result done_so
  pub refused : IfErr result (λ e. (refusal : facts.Refusal) (shape : Shape) → refusal_in e ≡ Some refusal
      → IsOfNode state old shape → (step_with old shape s move).answer ≡ facts.Refuses refusal)
  pub kept : (IsErrOf result Disk → ⊥) → IfErr result (λ e. Stays state old new s)
  pub fallen : IsErrOf result Disk → Stays state old new (record { disk = s.disk; agenda = None })
  pub counted : (IsErrOf result Disk → ⊥) → node_faults state new ≡ node_faults state old
  pub cause : IsErrOf result Disk → node_faults state old < node_faults state new
  pub any_moment : LeavesEither state images old new s.disk s.disk
  pub plans : (n : ℕ) → HasPlansBelow state n old → HasPlansBelow state (suc n) new

-- Nothing has changed; or a disk has failed, and the node is down with its disk as it was.
pub record OnlyLooks {D T : Type 0} (state : D → DiskState) (s : Client) (old new : ClientNode D)
    (result : Result T CallFault) : Type 0 where
  pub kept : (IsErrOf result Disk → ⊥) → Stays state old new s
  pub fallen : IsErrOf result Disk → Stays state old new (record { disk = s.disk; agenda = None })
  pub counted : (IsErrOf result Disk → ⊥) → node_faults state new ≡ node_faults state old
  pub cause : IsErrOf result Disk → node_faults state old < node_faults state new
  pub only : IfErr result (λ e. (e ≡ Disk) ⊎ (e ≡ Memory))
  pub plans : (n : ℕ) → HasPlansBelow state n old → HasPlansBelow state (suc n) new

-- ---- a step, and what it tells

-- what a step tells and sends
abbrev pub outbox_at : (ℕ → ℕ) → ℕ → ClientStep → Outbox
outbox_at owners c s = record { facts = s.facts; packets = packets_from owners (nodes.Client c) s.sends }

-- The node is behind a step, whose facts and messages it has gathered.
pub record IsTelling {D : Type 0} (state : D → DiskState) (cut : Bool) (c : ℕ) (s : ClientStep) (node : ClientNode D)
    : Type 0 where
  pub client : IsClient state node s.client
  pub number : node.number ≡ c
  pub linked : node.is_linked ≡ not cut
  pub told : told_by node ≡ s.facts
  pub sent : sent_by node ≡ s.sends

-- The client is behind a step, and what the step told and sent was put behind what was.
pub record HasTold {D : Type 0} (state : D → DiskState) (cut : Bool) (c : ℕ) (s : ClientStep) (node : ClientNode D)
    (old new : List ClientOut) : Type 0 where
  pub behind : IsHosted state cut c s.client node
  pub outs : (owners : ℕ → ℕ) → outs_in owners new ≡ outs_in owners old ++ said (outbox_at owners c s ∷ [])

-- ---- calls

-- what a client makes of a move: it looks first whether the table is closed, then at its phases and its link
abbrev pub guarded_step : (ℕ → Bool) → Bool → ℕ → Shape → Client → ClientMove → ClientStep
guarded_step phase cut c shape s move = if is_closed s (table_of_move move)
    then quiet s.disk s.agenda (closed_answer shape cut s.agenda move)
    else phased_step phase (not cut) c shape s move

-- The client, which had these phases open, made this step, and this is the answer.
pub record IsStepped {D : Type 0} (state : D → DiskState) (cut : Bool) (c : ℕ) (step : Shape → ClientStep)
    (new : ClientNode D) (before after : List ClientOut) (answer : Answer) : Type 0 where
  pub shape : Shape
  pub told : HasTold state cut c (step shape) new before after
  pub answer_is : (step shape).answer ≡ answer_of answer

-- it made the move
abbrev pub IsMade : {D : Type 0} → (D → DiskState) → (ℕ → Bool) → Bool → ℕ → Client → ClientMove → ClientNode D
    → (before after : List ClientOut) → Answer → Type 0
IsMade state phase cut c s move new before after answer =
    IsStepped state cut c (λ shape. guarded_step phase cut c shape s move) new before after answer

-- the same where it doesn't look whether the table is closed
abbrev pub IsMadeOpen : {D : Type 0} → (D → DiskState) → (ℕ → Bool) → Bool → ℕ → Client → ClientMove → ClientNode D
    → (before after : List ClientOut) → Answer → Type 0
IsMadeOpen state phase cut c s move new before after answer =
    IsStepped state cut c (λ shape. phased_step phase (not cut) c shape s move) new before after answer

-- The client, which had these phases open, listed these rows in conflict of a table, which isn't closed.
pub record IsListing {D : Type 0} (state : D → DiskState) (phase : ℕ → Bool) (cut : Bool) (c : ℕ) (s : Client)
    (table : ℕ) (new : ClientNode D) (before after : List ClientOut) (pairs : List RowPair) (answer : Answer)
    : Type 0 where
  pub shape : Shape
  pub told : HasTold state cut c (phased_step phase (not cut) c shape s (Conflicts table)) new before after
  pub pairs_are : (phased_step phase (not cut) c shape s (Conflicts table)).answer ≡ facts.Pairs pairs
  pub answer_is : answer ≡ answers.Number (length pairs)

-- whether a client has closed the table that a move is about
abbrev pub IsShut : Client → ClientMove → Bool → Type 0
IsShut s move closed = is_closed s (table_of_move move) ≡ closed

-- A disk has failed, and the client is down with its disk as it was.
pub record IsFallen {D : Type 0} (state : D → DiskState) (cut : Bool) (c : ℕ) (s : Client) (new : ClientNode D)
    (before after : List ClientOut) (answer : Answer) : Type 0 where
  pub told : HasTold state cut c (client_step c no_shape s (Crash FailedBefore)) new before after
  pub answer_is : answer ≡ answers.Refused refusals.NoDevice

-- What it was asked for is dropped.
pub record IsDropped {D : Type 0} (state : D → DiskState) (cut : Bool) (c : ℕ) (s : Client) (new : ClientNode D)
    (before after : List ClientOut) (answer : Answer) : Type 0 where
  pub told : HasTold state cut c (quiet s.disk s.agenda facts.Done) new before after
  pub answer_is : answer ≡ answers.Done

-- ---- crashes

-- The client crashed inside its next write, if it was up, with some lucks; and what the first of them says of its
-- disks: where it is that no device call fails, none has failed by itself, and else one has.
pub record HasCrashed {D : Type 0} (state : D → DiskState) (cut : Bool) (c calls : ℕ) (s : Client)
    (old new : ClientNode D) : Type 0 where
  pub lucks : List Luck
  pub told : HasTold state cut c
      (client_step c no_shape s (Crash (crash_luck calls (other_lucks lucks) (first_luck lucks)))) new [] []
  pub done : node_faults state new ≡ node_faults state old → first_luck lucks ≡ Done
  pub counted : first_luck lucks ≡ Done → node_faults state new ≡ node_faults state old
  pub later : node_faults state old ≤ node_faults state new
  pub idle : has_task s.agenda ≡ false → node_faults state new ≡ node_faults state old

-- ---- starts

-- The client is started, or was up.
pub record IsStarted {D : Type 0} (state : D → DiskState) (cut : Bool) (c : ℕ) (s : Client) (new : ClientNode D)
    (before after : List ClientOut) (answer : Answer) : Type 0 where
  pub shape : Shape
  pub told : HasTold state cut c (client_step c shape s Start) new before after
  pub answer_is : answer ≡ answers.Done

-- A disk has failed, and the client is still down.
pub record IsNotStarted {D : Type 0} (state : D → DiskState) (cut : Bool) (c : ℕ) (s : Client) (new : ClientNode D)
    (before after : List ClientOut) (answer : Answer) : Type 0 where
  pub held : IsHosted state cut c s new
  pub down : s.agenda ≡ None
  pub outs : AreSameOuts before after
  pub answer_is : answer ≡ answers.Refused refusals.NoDevice

-- ---- causes

-- a device fault was answered
abbrev pub IsDeviceFault : Result Answer ClientFault → Type 0
IsDeviceFault result = result ≡ Ok (answers.Refused refusals.NoDevice)

-- whether one of a node's disks failed in a call
pub record HasNodeCause {D T : Type 0} (state : D → DiskState) (old new : ClientNode D) (result : Result T CallFault)
    : Type 0 where
  pub counted : (IsErrOf result Disk → ⊥) → node_faults state new ≡ node_faults state old
  pub cause : IsErrOf result Disk → node_faults state old < node_faults state new
  pub only : IfErr result (λ e. (e ≡ Disk) ⊎ (e ≡ Memory))

pub record HasAnswerCause {D : Type 0} (state : D → DiskState) (old new : ClientNode D)
    (result : Result Answer ClientFault) : Type 0 where
  pub counted : (IsDeviceFault result → ⊥) → node_faults state new ≡ node_faults state old
  pub cause : IsDeviceFault result → node_faults state old < node_faults state new
