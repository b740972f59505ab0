-- How often a node's disks themselves have failed, from what was done to its devices.
use Rattle.std.proofs.Common.{◌≡◌, ℕ, ◌+◌, ◌<◌, List, Option, Some, None, ◌∙◌, ap, arith}
use Rattle.disk_trait.specs.Calls.{DiskState}
use Rattle.disk_trait.specs.Fuse.{behind, fused}
use Rattle.disk_trait.specs.declared.fuse.FuseDisk.{FuseDisk}
use Rattle.disk_trait.specs.declared.fuse.FuseSetting.TheVariants.{Unset}
use Rattle.vault.specs.Standing.{disk_of}
use Rattle.chunk_store.specs.Standing as chunks
use Rattle.slot_store.specs.Standing as slots
use Rattle.plan_log.specs.Standing as journals
use Rattle.client_journal.specs.declared.devs.Journal.{Journal}
use Rattle.client_journal.specs.Fused.{SameDisks}
use Rattle.client_journal.specs.Standing.{all_faults}
use Rattle.client_journal.specs.Unset.{all_stops, AreFresh, KeepsUnset}
use Rattle.step_tables.specs.ClientMoves.{ClientDisk, ClientTask}
use Rattle.client_node.specs.declared.node.ClientNode.{ClientNode}
use Rattle.client_node.specs.Node.{own_faults, IsClient}

module _ {D : Type 0} (state : D → DiskState) where
  pub own_is : (node : ClientNode D) → all_faults (behind state) node.devs ≡ own_faults state node + all_stops (behind state) node.devs
  own_is node = omega arith

  pub own_stays : (old new : ClientNode D) → all_faults (behind state) new.devs ≡ all_faults (behind state) old.devs → all_stops (behind state) new.devs ≡ all_stops (behind state) old.devs
      → own_faults state new ≡ own_faults state old
  own_stays old new faults stops = let a = own_is old in let b = own_is new in omega (arith, a, b, faults, stops)

  pub own_rises : (old new : ClientNode D) → all_faults (behind state) old.devs < all_faults (behind state) new.devs → all_stops (behind state) new.devs ≡ all_stops (behind state) old.devs
      → own_faults state old < own_faults state new
  own_rises old new faults stops = let a = own_is old in let b = own_is new in omega (arith, a, b, faults, stops)

  -- the same disks behind other fuses
  pub own_same : (old new : ClientNode D) → SameDisks old.devs new.devs → own_faults state new ≡ own_faults state old
  own_same old new same =
      let a = ap (λ d. (state d).faults) same.chunks in let b = ap (λ d. (state d).faults) same.slots in let c = ap (λ d. (state d).faults) same.journal in omega (arith, a, b, c)

  -- where the fuses were as new, and a call has kept them
  pub own_kept : (old new : ClientNode D) → AreFresh (behind state) old.devs → KeepsUnset (behind state) old.devs new.devs → all_faults (behind state) new.devs ≡ all_faults (behind state) old.devs
      → own_faults state new ≡ own_faults state old
  own_kept old new fresh keeps faults = own_stays old new faults (keeps.stopped fresh.unset)

  pub own_failed : (old new : ClientNode D) → AreFresh (behind state) old.devs → KeepsUnset (behind state) old.devs new.devs → all_faults (behind state) old.devs < all_faults (behind state) new.devs
      → own_faults state old < own_faults state new
  own_failed old new fresh keeps faults = own_rises old new faults (keeps.stopped fresh.unset)

  -- a node's fuses are as new
  pub fresh_now : (node : ClientNode D) (disk : ClientDisk) (agenda : Option (List ClientTask)) → IsClient state node (record { disk = disk; agenda = agenda }) → AreFresh (behind state) node.devs
  fresh_now node disk None t = t.at.1.fresh
  fresh_now node disk (Some tasks) t = t.at.1.fresh

  -- devices on disks whose fuses are as new
  pub fresh_made : (client : Journal (FuseDisk D)) (j s c : FuseDisk D) (x y z : DiskState) → disk_of (journals.vault_of client.journal) ≡ j → disk_of (slots.vault_of client.slots) ≡ s
      → disk_of (chunks.vault_of client.chunks) ≡ c
      → behind state j ≡ fused x Unset 0 → behind state s ≡ fused y Unset 0 → behind state c ≡ fused z Unset 0 → AreFresh (behind state) client
  fresh_made client j s c x y z is_j is_s is_c new_j new_s new_c =
      let a = ap (λ d. (behind state d).stops) is_c ∙ ap (λ (d : DiskState). d.stops) new_c in
      let b = ap (λ d. (behind state d).stops) is_s ∙ ap (λ (d : DiskState). d.stops) new_s in
      let e = ap (λ d. (behind state d).stops) is_j ∙ ap (λ (d : DiskState). d.stops) new_j in
      record {
        unset = record {
          chunks = ap (λ d. (behind state d).is_armed) is_c ∙ ap (λ (d : DiskState). d.is_armed) new_c;
          slots = ap (λ d. (behind state d).is_armed) is_s ∙ ap (λ (d : DiskState). d.is_armed) new_s;
          journal = ap (λ d. (behind state d).is_armed) is_j ∙ ap (λ (d : DiskState). d.is_armed) new_j;
        };
        unstopped = omega (arith, a, b, e);
      }
