-- What a node's halt beside any write promises.
use Rattle.std.specs.Prelude.{◌≡◌, ℕ, true, false, List}
use Rattle.disk_trait.specs.Calls.{DiskState}
use Rattle.step_tables.specs.StoreMoves.{TableStore, Crash}
use Rattle.step_tables.specs.Messages.{FailedBefore}
use Rattle.store_node.specs.declared.node.TableNode.{TableNode}
use Rattle.store_node.specs.Node.{own_faults, LeavesEither, LeavesRows}
use Rattle.store_node.specs.Calls.{IsBehind, step_at}

-- Nothing that was to be done is, and the disk is as it was. Of a node that is down nothing changes.
pub record Halts {D : Type 0} (state : D → DiskState) (images : D → ℕ → List ℕ → Type 0) (s : TableStore)
    (old new : TableNode D) : Type 0 where
  pub halted : IsBehind state old new (step_at old s (Crash FailedBefore))
  pub declared : new.is_declared ≡ old.is_declared
  pub counted : own_faults state new ≡ own_faults state old
  pub still : old.is_up ≡ false → new ≡ old
  pub any_moment : old.is_up ≡ true → LeavesEither state images old new s.disk s.disk
  pub rows_left : old.is_declared ≡ true → LeavesRows state images old new s.disk s.disk
