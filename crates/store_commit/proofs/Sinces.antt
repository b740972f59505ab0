-- What a crash leaves since an earlier moment, also behind a restart.
use Rattle.std.proofs.Common.{◌≡◌, ◌≤◌, ⊎_elim, ℕ, List, sym, subst, arith}
use Rattle.disk_trait.specs.Image.{Pending, IsImage}
use Rattle.disk_trait.specs.Calls.{DiskState, Elapses}
use Rattle.disk_trait.proofs.Images.{settled_only}
use Rattle.vault.specs.declared.vault.Vault.{Vault}
use Rattle.vault.specs.Standing.{disk_of, IsUp, IsSynced, IsRestarted}
use Rattle.chunk_store.specs.Standing as chunks
use Rattle.row_store.specs.Standing as rows
use Rattle.status_log.specs.Standing as logs
use Rattle.store_commit.specs.declared.devs.TableDevs.{TableDevs}
use Rattle.store_commit.specs.Devs.{Devs}
use Rattle.store_commit.specs.Standing.{DevsLeave}

module _ {D : Type 0} (state : D → DiskState) (images : D → ℕ → List ℕ → Type 0) (counts_now : (disk : D) (t : ℕ) (image : List ℕ) → t ≤ (state disk).moment → IsImage (state disk).pending image → images disk t image) where
  -- what a crash leaves behind a restart might have been left before it
  abbrev Goes : Vault D → Vault D → Type 0
  Goes old new = Elapses (state (disk_of old)) (state (disk_of new)) (images (disk_of old)) (images (disk_of new))

  back : (old new : Vault D) → IsUp new → IsSynced state new → IsRestarted state old new → Goes old new → (t : ℕ) (image : List ℕ) → t ≤ (state (disk_of old)).moment → images (disk_of new) t image → images (disk_of old) t image
  back old new up synced restarted time t image early left =
      ⊎_elim (λ before. before) (λ now. counts_now (disk_of old) t image early (subst (IsImage (state (disk_of old)).pending) (sym (same now)) restarted)) (time.nothing_else t image early left)
    where
      same : IsImage (state (disk_of new)).pending image → image ≡ (state (disk_of new)).seen
      same now = settled_only (state (disk_of new)).seen image (subst (λ (p : Pending). IsImage p image) (synced up) now)

  module _ (old new : TableDevs D) where
    pub since_restarted : (start : TableDevs D) (R : Devs → Type 0) → chunks.Restarts state images old.chunks new.chunks → rows.Restarts state images old.rows new.rows → logs.Restarts state images old.log new.log
        → IsRestarted state (chunks.vault_of old.chunks) (chunks.vault_of new.chunks) → IsRestarted state (rows.vault_of old.rows) (rows.vault_of new.rows) → IsRestarted state (logs.vault_of old.log) (logs.vault_of new.log)
        → Goes (chunks.vault_of old.chunks) (chunks.vault_of new.chunks) → Goes (rows.vault_of old.rows) (rows.vault_of new.rows) → Goes (logs.vault_of old.log) (logs.vault_of new.log)
        → DevsLeave state images start old R → DevsLeave state images start new R
    since_restarted start R c r l ci ri li ct rt lt run = record {
      each = λ x y z ix iy iz. run.each x y z
          (back (chunks.vault_of old.chunks) (chunks.vault_of new.chunks) c.up c.synced ci ct _ x run.later.chunks ix)
          (back (rows.vault_of old.rows) (rows.vault_of new.rows) r.up r.synced ri rt _ y run.later.rows iy)
          (back (logs.vault_of old.log) (logs.vault_of new.log) l.up l.synced li lt _ z run.later.log iz);
      later = record {
        chunks = let a = run.later.chunks in let b = ct.later in omega arith;
        rows = let a = run.later.rows in let b = rt.later in omega arith;
        log = let a = run.later.log in let b = lt.later in omega arith;
      };
    }
