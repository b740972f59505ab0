-- A table that the devices have as closed is closed in the step table, and no call that reads draws a plan's number.
use Rattle.std.proofs.Common.{◌≡◌, ℕ, Bool, true, false, List, Option, Some, None, Result, Ok, Err, refl, sym, ◌∙◌, ap, subst}
use Rattle.std.specs.Prelude.{◌==◌, IsErrOf, OnOk}
use Rattle.disk_trait.specs.Calls.{DiskState}
use Rattle.disk_trait.specs.Fuse.{behind, inner_of}
use Rattle.disk_trait.specs.declared.fuse.FuseDisk.{FuseDisk}
use Rattle.slot_store.specs.declared.held.TableRecord.{TableRecord}
use Rattle.client_journal.specs.declared.devs.Journal.{Journal}
use Rattle.client_journal.specs.Devs.{ClientDevs}
use Rattle.step_tables.specs.ClientMoves.{ClientDisk, ClientTask, table_at, seen}
use Rattle.journal_laws.specs.Holds.{state_of}
use Rattle.client_node.specs.declared.fault.CallFault.{CallFault}
use Rattle.client_node.specs.declared.fault.CallFault.TheVariants as call
use Rattle.client_node.specs.declared.node.ClientNode.{ClientNode}
use Rattle.client_node.specs.Answers.{record_at}
use Rattle.client_node.specs.Closed.{closed_in, is_closed_record}
use Rattle.client_node.specs.Looks.{Looks}
use Rattle.client_node.specs.Node.{StandsFor, IsClient, HasPlansBelow}
use Rattle.client_node.proofs.Links.{opened_is, unopened_is}
use Rattle.client_node.proofs.PlanNumbers.{plans_same}

closed_state : (b : Bool) → (state_of b == 2) ≡ b
closed_state true = refl
closed_state false = refl

pub is_closed : (c : ℕ) (d : ClientDevs) (disk : ClientDisk) → StandsFor c d disk → (table : ℕ) (o : Option TableRecord) → record_at d table ≡ o
    → is_closed_record o ≡ closed_in (table_at (seen disk) table)
is_closed c d disk st table None is = sym (ap closed_in (unopened_is c d disk st table is))
is_closed c d disk st table (Some found) is =
    let at = opened_is c d disk st table found is in
    ap (λ (n : ℕ). n == 2) at.2.state ∙ (closed_state at.0.closed ∙ sym (ap closed_in at.1))

declared_up : {D : Type 0} (state : D → DiskState) (node : ClientNode D) (disk : ClientDisk) (agenda : Option (List ClientTask)) → IsClient state node (record { disk = disk; agenda = agenda })
    → node.is_up ≡ true → node.is_declared ≡ true
declared_up state node disk None t up = let down = t.at.0 in absurd cc
declared_up state node disk (Some tasks) t up = t.at.1.declared

module _ {D T : Type 0} (state : D → DiskState) (images : D → ℕ → List ℕ → Type 0) (old new : ClientNode D) (client : Journal (FuseDisk D)) where
  pub reads_below : (disk : ClientDisk) (agenda : Option (List ClientTask)) → IsClient state old (record { disk = disk; agenda = agenda }) → old.is_up ≡ true → (r : Result T CallFault)
      → Looks (λ f. behind state f) (λ f. images (inner_of f)) old.devs client r → ((IsErrOf r call.Disk → ⊥) → new ≡ record old { devs = client }) → (n : ℕ) → HasPlansBelow state n old
      → OnOk r (HasPlansBelow state n new)
  reads_below disk agenda t up (Err e) k same n below = tt
  reads_below disk agenda t up (Ok x) k same n below =
      subst (λ (node : ClientNode D). HasPlansBelow state n node) (sym (same (λ no. absurd cc)))
      (plans_same state n old (record old { devs = client }) (λ _. declared_up state old disk agenda t up) (k.serves.same (λ no. absurd cc)) k.agenda below)
