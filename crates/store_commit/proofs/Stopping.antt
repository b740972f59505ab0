-- A fuse that is set moves no clock.
use Rattle.std.proofs.Common.{◌≡◌, ◌≤◌, ℕ, List, ◌∷◌, sym, ap, subst}
use Rattle.disk_trait.specs.Calls.{DiskState}
use Rattle.disk_trait.specs.Fuse.{behind, inner_of}
use Rattle.disk_trait.specs.declared.fuse.FuseDisk.{FuseDisk}
use Rattle.vault.specs.Standing.{disk_of}
use Rattle.chunk_store.specs.Standing as chunks
use Rattle.row_store.specs.Standing as rows
use Rattle.status_log.specs.Standing as logs
use Rattle.store_commit.specs.declared.devs.TableDevs.{TableDevs}
use Rattle.store_commit.specs.declared.fused.Device.{Device}
use Rattle.store_commit.specs.declared.fused.Device.TheVariants.{Chunks, Rows, Log}
use Rattle.store_commit.specs.Devs.{Devs, Write}
use Rattle.store_commit.specs.Standing.{DevsLeave}
use Rattle.store_commit.specs.Fused.{device_of, StopsOne, StopsNext}

module _ {D : Type 0} (state : D → DiskState) (images : D → ℕ → List ℕ → Type 0) where
  abbrev st : FuseDisk D → DiskState
  st f = behind state f

  abbrev im : FuseDisk D → ℕ → List ℕ → Type 0
  im f = images (inner_of f)

  record SameMoments (old new : TableDevs (FuseDisk D)) : Type 0 where
    chunks : (st (disk_of (chunks.vault_of new.chunks))).moment ≡ (st (disk_of (chunks.vault_of old.chunks))).moment
    rows : (st (disk_of (rows.vault_of new.rows))).moment ≡ (st (disk_of (rows.vault_of old.rows))).moment
    log : (st (disk_of (logs.vault_of new.log))).moment ≡ (st (disk_of (logs.vault_of old.log))).moment

  stops_moments : (calls pick : ℕ) (device : Device) (old new : TableDevs (FuseDisk D)) → StopsOne state images calls pick device old new → SameMoments old new
  stops_moments calls pick Chunks old new h = record { chunks = h.0.armed.moment; rows = ap (λ d. (st (disk_of (rows.vault_of d))).moment) h.1; log = ap (λ d. (st (disk_of (logs.vault_of d))).moment) h.2 }
  stops_moments calls pick Rows old new h = record { chunks = ap (λ d. (st (disk_of (chunks.vault_of d))).moment) h.0; rows = h.1.armed.moment; log = ap (λ d. (st (disk_of (logs.vault_of d))).moment) h.2 }
  stops_moments calls pick Log old new h = record { chunks = ap (λ d. (st (disk_of (chunks.vault_of d))).moment) h.0; rows = ap (λ d. (st (disk_of (rows.vault_of d))).moment) h.1; log = h.2.armed.moment }

  -- what a crash leaves since the fuse was set it leaves since the moment before
  pub since_stopped : (calls pick : ℕ) (w : Write) (ws : List Write) (old stopped new : TableDevs (FuseDisk D)) (R : Devs → Type 0) → StopsNext state images calls pick (w ∷ ws) old stopped → DevsLeave st im stopped new R → DevsLeave st im old new R
  since_stopped calls pick w ws old stopped new R h run =
      let m = stops_moments calls pick (device_of w) old stopped h in
      record {
        each = λ x y z ix iy iz. run.each x y z
            (subst (λ (t : ℕ). im (disk_of (chunks.vault_of new.chunks)) t x) (sym m.chunks) ix)
            (subst (λ (t : ℕ). im (disk_of (rows.vault_of new.rows)) t y) (sym m.rows) iy)
            (subst (λ (t : ℕ). im (disk_of (logs.vault_of new.log)) t z) (sym m.log) iz);
        later = record {
          chunks = subst (λ (t : ℕ). t ≤ (st (disk_of (chunks.vault_of new.chunks))).moment) m.chunks run.later.chunks;
          rows = subst (λ (t : ℕ). t ≤ (st (disk_of (rows.vault_of new.rows))).moment) m.rows run.later.rows;
          log = subst (λ (t : ℕ). t ≤ (st (disk_of (logs.vault_of new.log))).moment) m.log run.later.log;
        };
      }
