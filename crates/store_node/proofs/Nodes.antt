-- A node is one behind each of its calls.
use Rattle.std.proofs.Common.{◌≡◌, ⊎_elim, ℕ, List, Bool, true, false, Result, Ok, Err, refl}
use Rattle.disk_trait.specs.Calls.{DiskState}
use Rattle.stab_base.specs.declared.step.Step.{Step}
use Rattle.step_tables.specs.StoreMoves.{TableStore}
use Rattle.store_node.specs.declared.fault.NodeFault.{NodeFault}
use Rattle.store_node.specs.declared.node.TableNode.{TableNode}
use Rattle.store_node.specs.Node.{IsNode}
use Rattle.store_node.specs.Calls.{Works, Crashes, Declares, Starts}

module _ {D : Type 0} (state : D → DiskState) (images : D → ℕ → List ℕ → Type 0) where
  pub works_node : (s : TableStore) (old new : TableNode D) (r : Result Step NodeFault) → Works state images s old new r → IsNode state new
  works_node s old new (Ok step) k = (_, k.done.0.table)
  works_node s old new (Err e) k = ⊎_elim (λ a. (_, a.table)) (λ a. (_, a.table)) k.failed

  pub crashes_node : (calls : ℕ) (s : TableStore) (old new : TableNode D) → Crashes state images calls s old new → IsNode state new
  crashes_node calls s old new k = ⊎_elim (λ a. (_, a.table)) (λ a. (_, a.table)) k.crashed

  pub declares_node : (s : TableStore) (old new : TableNode D) (r : Result (Unit {0}) NodeFault) → Declares state images s old new r → IsNode state new
  declares_node s old new (Ok x) k = (_, k.declared.table)
  declares_node s old new (Err e) k = (_, k.refused.table)

  pub starts_node : (s : TableStore) (old new : TableNode D) (r : Result (Unit {0}) NodeFault) → Starts state images s old new r → IsNode state new
  starts_node s old new (Err e) k = (_, k.refused.table)
  starts_node s old new (Ok x) k = split old.is_declared (λ is. (_, (k.started is).table)) (λ is. (_, (k.declared is).table))
    where
      split : (b : Bool) → (b ≡ true → IsNode state new) → (b ≡ false → IsNode state new) → IsNode state new
      split true here there = here refl
      split false here there = there refl
