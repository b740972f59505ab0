-- Fuses that are renewed: what stays, and what was promised of each crash.
use Rattle.std.proofs.Common.{◌≡◌, ℕ, ◌+◌, List, refl, sym, ap, arith}
use Rattle.disk_trait.specs.Calls.{DiskState}
use Rattle.disk_trait.specs.Fuse.{behind, inner_of}
use Rattle.disk_trait.specs.declared.fuse.FuseDisk.{FuseDisk}
use Rattle.vault.specs.Standing.{stops, disk_of}
use Rattle.vault.proofs.Renewals.{same_images, same_moment, renewed_leaves}
use Rattle.chunk_store.specs.declared.device.ChunkDev.{ChunkDev}
use Rattle.chunk_store.specs.Payload.{chunks_of}
use Rattle.chunk_store.specs.Standing as chunks
use Rattle.row_store.specs.declared.device.RowDev.{RowDev}
use Rattle.row_store.specs.Data.{TableData, data_of}
use Rattle.row_store.specs.Standing as rows
use Rattle.status_log.specs.declared.device.StatusLog.{StatusLog}
use Rattle.status_log.specs.Payload.{pending_of}
use Rattle.status_log.specs.Standing as logs
use Rattle.store_commit.specs.declared.devs.TableDevs.{TableDevs}
use Rattle.store_commit.specs.Devs.{Devs, Write}
use Rattle.store_commit.specs.Fused.{SameDisks}
use Rattle.store_commit.specs.Standing.{devs, IsReady, DevsLeave, RowsLeave}
use Rattle.store_commit.specs.Unset.{AreFresh}
use Rattle.store_commit.proofs.Fuses.{chunk_still_ready, row_still_ready, log_still_ready}

module _ {D : Type 0} (state : D → DiskState) (images : D → ℕ → List ℕ → Type 0) where
  abbrev st : FuseDisk D → DiskState
  st f = behind state f

  abbrev im : FuseDisk D → ℕ → List ℕ → Type 0
  im f = images (inner_of f)

  -- what was promised of each crash since an earlier moment still is, where the disks behind the fuses are the same
  pub renewed_devs : (start old new : TableDevs (FuseDisk D)) (R : Devs → Type 0) → SameDisks old new → DevsLeave st im start old R → DevsLeave st im start new R
  renewed_devs start old new R same run = record {
    each = λ x y z ix iy iz. run.each x y z
        (same_images state images (chunks.vault_of old.chunks) (chunks.vault_of new.chunks) same.chunks _ x ix)
        (same_images state images (rows.vault_of old.rows) (rows.vault_of new.rows) same.rows _ y iy)
        (same_images state images (logs.vault_of old.log) (logs.vault_of new.log) same.log _ z iz);
    later = record {
      chunks = same_moment state images (chunks.vault_of old.chunks) (chunks.vault_of new.chunks) same.chunks _ run.later.chunks;
      rows = same_moment state images (rows.vault_of old.rows) (rows.vault_of new.rows) same.rows _ run.later.rows;
      log = same_moment state images (logs.vault_of old.log) (logs.vault_of new.log) same.log _ run.later.log;
    };
  }

  pub renewed_rows : (start old new : TableDevs (FuseDisk D)) (R : TableData → Type 0) → SameDisks old new → RowsLeave st im start old R → RowsLeave st im start new R
  renewed_rows start old new R same run = renewed_leaves state images (rows.vault_of start.rows) (rows.vault_of old.rows) (rows.vault_of new.rows) (λ l. R (data_of l)) same.rows run

  module _ (old : TableDevs (FuseDisk D)) (cs : ChunkDev (FuseDisk D)) (rs : RowDev (FuseDisk D)) (ls : StatusLog (FuseDisk D)) (c : chunks.Renews state images old.chunks cs) (r : rows.Renews state images old.rows rs) (l : logs.Renews state images old.log ls) where
    abbrev new : TableDevs (FuseDisk D)
    new = record old { chunks = cs; rows = rs; log = ls }

    pub renewed_disks : SameDisks old new
    renewed_disks = record { chunks = c.inner; rows = r.inner; log = l.inner }

    pub renewed_fresh : AreFresh st new
    renewed_fresh = record {
      unset = record { chunks = ap (λ (s : DiskState). s.is_armed) c.fuse; rows = ap (λ (s : DiskState). s.is_armed) r.fuse; log = ap (λ (s : DiskState). s.is_armed) l.fuse };
      unstopped =
          let x : stops st (chunks.vault_of cs) ≡ 0 = ap (λ (s : DiskState). s.stops) c.fuse in
          let y : stops st (rows.vault_of rs) ≡ 0 = ap (λ (s : DiskState). s.stops) r.fuse in
          let z : stops st (logs.vault_of ls) ≡ 0 = ap (λ (s : DiskState). s.stops) l.fuse in
          omega (arith, x, y, z);
    }

    pub renewed_same : devs st new ≡ devs st old
    renewed_same =
        let x : chunks.chunks st cs ≡ chunks.chunks st old.chunks = ap chunks_of c.stays.same in
        let y : rows.held st rs ≡ rows.held st old.rows = ap data_of r.stays.same in
        let z : logs.entry_open st ls ≡ logs.entry_open st old.log = ap pending_of l.stays.same in
        cc

    pub renewed_ready : (ws : List Write) → IsReady st old ws → IsReady st new ws
    renewed_ready ws ready =
        let one : TableDevs (FuseDisk D) = record old { chunks = cs } in
        let two : TableDevs (FuseDisk D) = record one { rows = rs } in
        log_still_ready st two ws (row_still_ready st one ws (chunk_still_ready st old ws ready cs c.stays) rs r.stays) ls l.stays
