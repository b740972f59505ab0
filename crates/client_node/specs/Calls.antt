-- What the calls of a client's node promise, in the moves of the client's step table.
use Rattle.std.specs.Prelude.{◌≡◌, ◌⊎◌, ℕ, ◌<◌, ◌≤◌, ◌++◌, true, false, List, [], ◌∷◌, Option, Some, None, Result}
use Rattle.std.specs.Prelude.{OnOk, OnErr, IfOk, IfErr}
use Rattle.std.specs.BTreeSet.{keys}
use Rattle.disk_trait.specs.Calls.{DiskState}
use Rattle.disk_trait.specs.Fuse.{behind, inner_of}
use Rattle.disk_trait.specs.declared.fuse.FuseDisk.{FuseDisk}
use Rattle.vault.specs.Calls.{IsEither}
use Rattle.stab_base.specs.declared.step.Step.{Step}
use Rattle.stab_base.specs.declared.step.Step.TheVariants as steps
use Rattle.client_journal.specs.declared.devs.Journal.{Journal}
use Rattle.client_journal.specs.Devs.{ClientDevs}
use Rattle.client_journal.specs.Standing.{devs, writes_of, AreUp, AreSound, AreSynced, DevsLeave}
use Rattle.client_journal.specs.Unset.{AreFresh}
use Rattle.step_tables.specs.Messages.{Done, FailedBefore, FailedAfter}
use Rattle.step_tables.specs.ClientMoves.{ClientTask, Client, ClientStep, ClientMove, Work, Crash, no_shape}
use Rattle.step_tables.specs.ClientMoves.{client_step}
use Rattle.step_tables.specs.ClientMoves as moves
use Rattle.client_node.specs.declared.fault.CallFault.{CallFault}
use Rattle.client_node.specs.declared.fault.CallFault.TheVariants.{Disk}
use Rattle.client_node.specs.declared.node.ClientNode.{ClientNode}
use Rattle.client_node.specs.Node.{IsClient, IsSame, told_by, sent_by, own_faults, behind_next, LeavesEither}
use Rattle.client_node.specs.Node.{has_task, HasPlansBelow}
use Rattle.client_node.specs.Waiting.{NoneNoted}

-- what a move that begins no plan makes of the node's client
abbrev pub step_at : {D : Type 0} → ClientNode D → Client → ClientMove → ClientStep
step_at node s move = client_step node.number no_shape s move

-- The node is where this step leads to, and has gathered what it tells and sends.
pub record IsBehind {D : Type 0} (state : D → DiskState) (old new : ClientNode D) (step : ClientStep) : Type 0 where
  pub client : IsClient state new step.client
  pub told : told_by new ≡ told_by old ++ step.facts
  pub sent : sent_by new ≡ sent_by old ++ step.sends
  pub same : IsSame old new

-- the name of the next write
abbrev pub named : Option (List ClientTask) → Step
named None = steps.Idle
named (Some []) = steps.Idle
named (Some (task ∷ tasks)) = moves.step_of task.change

-- One write was done, if one was to be done; or a disk failed, and the write is undone or done.
pub record Works {D : Type 0} (state : D → DiskState) (images : D → ℕ → List ℕ → Type 0) (s : Client)
    (old new : ClientNode D) (result : Result Step CallFault) : Type 0 where
  pub done : IfOk result (λ step. IsBehind state old new (step_at old s (Work Done)) × (step ≡ named s.agenda))
  pub failed : OnErr result (IsBehind state old new (step_at old s (Work FailedBefore))
      ⊎ IsBehind state old new (step_at old s (Work FailedAfter)))
  pub counted : OnOk result (own_faults state new ≡ own_faults state old)
  pub cause : OnErr result (own_faults state old < own_faults state new)
  pub only : IfErr result (λ e. e ≡ Disk)
  pub any_moment : LeavesEither state images old new s.disk (behind_next s.disk s.agenda)
  pub plans : (n : ℕ) → HasPlansBelow state n old → HasPlansBelow state n new

-- The write at work is undone, or done.
pub record Crashes {D : Type 0} (state : D → DiskState) (images : D → ℕ → List ℕ → Type 0) (calls : ℕ)
    (s : Client) (old new : ClientNode D) : Type 0 where
  pub crashed : IsBehind state old new (step_at old s (Crash FailedBefore))
      ⊎ IsBehind state old new (step_at old s (Crash FailedAfter))
  -- where no disk failed by itself, 0 or 1 passing calls leave the write undone, and 4 leave it done
  pub undone : own_faults state new ≡ own_faults state old → calls ≤ 1
      → IsBehind state old new (step_at old s (Crash FailedBefore))
  pub done : own_faults state new ≡ own_faults state old → 4 ≤ calls
      → IsBehind state old new (step_at old s (Crash FailedAfter))
  pub later : own_faults state old ≤ own_faults state new
  -- with nothing to be done no disk is called that can fail by itself
  pub idle : has_task s.agenda ≡ false → own_faults state new ≡ own_faults state old
  pub any_moment : LeavesEither state images old new s.disk (behind_next s.disk s.agenda)
  pub plans : (n : ℕ) → HasPlansBelow state n old → HasPlansBelow state n new

-- Nothing that was to be done is, and the disk is as it was. Of a node that is down nothing changes.
pub record Halts {D : Type 0} (state : D → DiskState) (images : D → ℕ → List ℕ → Type 0) (s : Client)
    (old new : ClientNode D) : Type 0 where
  pub halted : IsBehind state old new (step_at old s (Crash FailedBefore))
  pub declared : new.is_declared ≡ old.is_declared
  pub counted : own_faults state new ≡ own_faults state old
  pub still : old.is_up ≡ false → new ≡ old
  pub any_moment : old.is_up ≡ true → LeavesEither state images old new s.disk s.disk
  pub plans : (n : ℕ) → HasPlansBelow state n old → HasPlansBelow state n new

-- The node is down, and its disks were restarted: they hold what a crash since an earlier moment might have left.
pub record Falls {D : Type 0} (state : D → DiskState) (images : D → ℕ → List ℕ → Type 0)
    (old new : ClientNode D) : Type 0 where
  pub left : (start : Journal (FuseDisk D)) (a b : ClientDevs)
      → DevsLeave (behind state) (λ f. images (inner_of f)) start old.devs (IsEither a b)
      → IsEither a b (devs (behind state) new.devs) × AreSound (behind state) new.devs
      × DevsLeave (behind state) (λ f. images (inner_of f)) start new.devs (IsEither a b)
  pub up : AreUp new.devs
  pub fresh : AreFresh (behind state) new.devs
  pub synced : AreSynced (behind state) new.devs
  pub idle : writes_of new.devs ≡ []
  pub waiting : NoneNoted new.waiting
  pub phaseless : keys new.phases ≡ []
  pub counted : own_faults state new ≡ own_faults state old

-- A disk has failed: the node is down, its disks were restarted, and what it has gathered stays.
pub record Fell {D : Type 0} (state : D → DiskState) (images : D → ℕ → List ℕ → Type 0)
    (old new : ClientNode D) : Type 0 where
  pub falls : Falls state images old new
  pub down : new.is_up ≡ false
  pub declared : new.is_declared ≡ old.is_declared
  pub same : IsSame old new
  pub facts : new.facts ≡ old.facts
  pub messages : new.messages ≡ old.messages

-- Nothing is told and sent, and the node is in this state.
pub record Stays {D : Type 0} (state : D → DiskState) (old new : ClientNode D) (s : Client) : Type 0 where
  pub client : IsClient state new s
  pub told : told_by new ≡ told_by old
  pub sent : sent_by new ≡ sent_by old
  pub same : IsSame old new
