-- Fuses that are renewed: what stays, and what was promised of each crash.
use Rattle.std.proofs.Common.{◌≡◌, ℕ, ◌+◌, List, refl, sym, ap, arith}
use Rattle.disk_trait.specs.Calls.{DiskState}
use Rattle.disk_trait.specs.Fuse.{behind, inner_of}
use Rattle.disk_trait.specs.declared.fuse.FuseDisk.{FuseDisk}
use Rattle.vault.specs.Standing.{stops, disk_of}
use Rattle.vault.proofs.Renewals.{same_images, same_moment}
use Rattle.chunk_store.specs.declared.device.ChunkDev.{ChunkDev}
use Rattle.chunk_store.specs.Payload.{chunks_of}
use Rattle.chunk_store.specs.Standing as chunks
use Rattle.slot_store.specs.declared.device.SlotDev.{SlotDev}
use Rattle.slot_store.specs.Data.{data_of}
use Rattle.slot_store.specs.Standing as slots
use Rattle.plan_log.specs.declared.device.PlanLog.{PlanLog}
use Rattle.plan_log.specs.Journal.{journal_of}
use Rattle.plan_log.specs.Standing as journals
use Rattle.client_journal.specs.declared.devs.Journal.{Journal}
use Rattle.client_journal.specs.Devs.{ClientDevs, Write}
use Rattle.client_journal.specs.Fused.{SameDisks}
use Rattle.client_journal.specs.Standing.{devs, IsReady, DevsLeave}
use Rattle.client_journal.specs.Unset.{AreFresh}
use Rattle.client_journal.proofs.Fuses.{chunk_still_ready, slot_still_ready, journal_still_ready}

module _ {D : Type 0} (state : D → DiskState) (images : D → ℕ → List ℕ → Type 0) where
  abbrev st : FuseDisk D → DiskState
  st f = behind state f

  abbrev im : FuseDisk D → ℕ → List ℕ → Type 0
  im f = images (inner_of f)

  -- what was promised of each crash since an earlier moment still is, where the disks behind the fuses are the same
  pub renewed_devs : (start old new : Journal (FuseDisk D)) (R : ClientDevs → Type 0) → SameDisks old new → DevsLeave st im start old R → DevsLeave st im start new R
  renewed_devs start old new R same run = record {
    each = λ x y z ix iy iz. run.each x y z
        (same_images state images (chunks.vault_of old.chunks) (chunks.vault_of new.chunks) same.chunks _ x ix)
        (same_images state images (slots.vault_of old.slots) (slots.vault_of new.slots) same.slots _ y iy)
        (same_images state images (journals.vault_of old.journal) (journals.vault_of new.journal) same.journal _ z iz);
    later = record {
      chunks = same_moment state images (chunks.vault_of old.chunks) (chunks.vault_of new.chunks) same.chunks _ run.later.chunks;
      slots = same_moment state images (slots.vault_of old.slots) (slots.vault_of new.slots) same.slots _ run.later.slots;
      journal = same_moment state images (journals.vault_of old.journal) (journals.vault_of new.journal) same.journal _ run.later.journal;
    };
  }

  module _ (old : Journal (FuseDisk D)) (cs : ChunkDev (FuseDisk D)) (rs : SlotDev (FuseDisk D)) (ls : PlanLog (FuseDisk D)) (c : chunks.Renews state images old.chunks cs) (r : slots.Renews state images old.slots rs) (l : journals.Renews state images old.journal ls) where
    abbrev new : Journal (FuseDisk D)
    new = record old { chunks = cs; slots = rs; journal = ls }

    pub renewed_disks : SameDisks old new
    renewed_disks = record { chunks = c.inner; slots = r.inner; journal = l.inner }

    pub renewed_fresh : AreFresh st new
    renewed_fresh = record {
      unset = record { chunks = ap (λ (s : DiskState). s.is_armed) c.fuse; slots = ap (λ (s : DiskState). s.is_armed) r.fuse; journal = ap (λ (s : DiskState). s.is_armed) l.fuse };
      unstopped =
          let x : stops st (chunks.vault_of cs) ≡ 0 = ap (λ (s : DiskState). s.stops) c.fuse in
          let y : stops st (slots.vault_of rs) ≡ 0 = ap (λ (s : DiskState). s.stops) r.fuse in
          let z : stops st (journals.vault_of ls) ≡ 0 = ap (λ (s : DiskState). s.stops) l.fuse in
          omega (arith, x, y, z);
    }

    pub renewed_same : devs st new ≡ devs st old
    renewed_same =
        let x : chunks.chunks st cs ≡ chunks.chunks st old.chunks = ap chunks_of c.stays.same in
        let y : slots.held st rs ≡ slots.held st old.slots = ap data_of r.stays.same in
        let z : journals.held st ls ≡ journals.held st old.journal = ap journal_of l.stays.same in
        cc

    pub renewed_ready : (ws : List Write) → IsReady st old ws → IsReady st new ws
    renewed_ready ws ready =
        let one : Journal (FuseDisk D) = record old { chunks = cs } in
        let two : Journal (FuseDisk D) = record one { slots = rs } in
        journal_still_ready st two ws (slot_still_ready st one ws (chunk_still_ready st old ws ready cs c.stays) rs r.stays) ls l.stays
