-- A node is in some state behind each call.
use Rattle.std.proofs.Common.{⊎_elim, ℕ, List, Result, Ok, Err}
use Rattle.disk_trait.specs.Calls.{DiskState}
use Rattle.stab_base.specs.declared.step.Step.{Step}
use Rattle.step_tables.specs.ClientMoves.{Client}
use Rattle.client_node.specs.declared.fault.CallFault.{CallFault}
use Rattle.client_node.specs.declared.node.ClientNode.{ClientNode}
use Rattle.client_node.specs.Node.{IsNode}
use Rattle.client_node.specs.Calls.{Works, Crashes}

module _ {D : Type 0} (state : D → DiskState) (images : D → ℕ → List ℕ → Type 0) where
  pub works_node : (s : Client) (old new : ClientNode D) (r : Result Step CallFault) → Works state images s old new r → IsNode state new
  works_node s old new (Ok step) k = (_, k.done.0.client)
  works_node s old new (Err e) k = ⊎_elim (λ a. (_, a.client)) (λ a. (_, a.client)) k.failed

  pub crashes_node : (calls : ℕ) (s : Client) (old new : ClientNode D) → Crashes state images calls s old new → IsNode state new
  crashes_node calls s old new k = ⊎_elim (λ a. (_, a.client)) (λ a. (_, a.client)) k.crashed
