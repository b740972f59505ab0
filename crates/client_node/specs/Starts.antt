-- What a client's declaration and start promise.
use Rattle.std.specs.Prelude.{◌≡◌, ◌⊎◌, ℕ, ◌<◌, true, List, [], Option, Some, Result, OnOk, OnErr, IfErr, IsErrOf}
use Rattle.disk_trait.specs.Calls.{DiskState}
use Rattle.disk_trait.specs.Fuse.{behind}
use Rattle.client_journal.specs.Recover.{rolled_of}
use Rattle.client_journal.specs.Standing.{devs}
use Rattle.step_tables.specs.ClientMoves.{Shape, Client, Start, client_step}
use Rattle.client_node.specs.declared.fault.CallFault.{CallFault}
use Rattle.client_node.specs.declared.fault.CallFault.TheVariants.{Disk, Memory}
use Rattle.client_node.specs.declared.node.ClientNode.{ClientNode}
use Rattle.client_node.specs.Node.{own_faults, LeavesEither, HasPlansBelow}
use Rattle.client_node.specs.Calls.{IsBehind, Stays}

-- A client that wasn't declared is, with its tables opened; else it isn't yet.
pub record Declares {D : Type 0} (state : D → DiskState) (s : Client) (old new : ClientNode D)
    (result : Result (Unit {0}) CallFault) : Type 0 where
  pub declared : OnOk result (Stays state old new (record { disk = s.disk; agenda = Some [] }))
  pub refused : OnErr result (Stays state old new s)
  pub counted : (IsErrOf result Disk → ⊥) → own_faults state new ≡ own_faults state old
  pub cause : IsErrOf result Disk → own_faults state old < own_faults state new
  pub only : IfErr result (λ e. (e ≡ Disk) ⊎ (e ≡ Memory))
  -- no plan was begun
  pub plans : (n : ℕ) → HasPlansBelow state n new

-- the row that a start tells of as torn is that of the devices' intend
abbrev pub torn_in : {D : Type 0} → (D → DiskState) → ClientNode D → Option (ℕ × List ℕ)
torn_in state node = (rolled_of (devs (behind state) node.devs).journal.at_work).torn

-- The client is started, or was up; one that was never declared is, and has recovered. Else it is still down.
pub record Starts {D : Type 0} (state : D → DiskState) (images : D → ℕ → List ℕ → Type 0) (s : Client)
    (old new : ClientNode D) (result : Result (Unit {0}) CallFault) : Type 0 where
  pub started : OnOk result ((shape : Shape) × IsBehind state old new (client_step old.number shape s Start)
      × (old.is_declared ≡ true → shape.torn ≡ torn_in state old))
  pub refused : OnErr result (Stays state old new s)
  pub counted : (IsErrOf result Disk → ⊥) → own_faults state new ≡ own_faults state old
  pub cause : IsErrOf result Disk → own_faults state old < own_faults state new
  pub only : IfErr result (λ e. (e ≡ Disk) ⊎ (e ≡ Memory))
  pub any_moment : old.is_declared ≡ true → LeavesEither state images old new s.disk s.disk
  pub plans : (n : ℕ) → HasPlansBelow state n old → HasPlansBelow state n new
