-- What a crash leaves since an earlier moment, also behind a restart.
use Rattle.std.proofs.Common.{◌≡◌, ◌≤◌, ⊎_elim, ℕ, List, sym, subst, arith}
use Rattle.disk_trait.specs.Image.{Pending, IsImage}
use Rattle.disk_trait.specs.Calls.{DiskState, Elapses}
use Rattle.disk_trait.proofs.Images.{settled_only}
use Rattle.vault.specs.declared.vault.Vault.{Vault}
use Rattle.vault.specs.Standing.{disk_of, IsUp, IsSynced, IsRestarted}
use Rattle.chunk_store.specs.Standing as chunks
use Rattle.slot_store.specs.Standing as slots
use Rattle.plan_log.specs.Standing as journals
use Rattle.client_journal.specs.declared.devs.Journal.{Journal}
use Rattle.client_journal.specs.Devs.{ClientDevs}
use Rattle.client_journal.specs.Standing.{DevsLeave}

module _ {D : Type 0} (state : D → DiskState) (images : D → ℕ → List ℕ → Type 0) (counts_now : (disk : D) (t : ℕ) (image : List ℕ) → t ≤ (state disk).moment → IsImage (state disk).pending image → images disk t image) where
  -- what a crash leaves behind a restart might have been left before it
  abbrev Goes : Vault D → Vault D → Type 0
  Goes old new = Elapses (state (disk_of old)) (state (disk_of new)) (images (disk_of old)) (images (disk_of new))

  back : (old new : Vault D) → IsUp new → IsSynced state new → IsRestarted state old new → Goes old new → (t : ℕ) (image : List ℕ) → t ≤ (state (disk_of old)).moment → images (disk_of new) t image → images (disk_of old) t image
  back old new up synced restarted time t image early left =
      ⊎_elim (λ before. before) (λ now. counts_now (disk_of old) t image early (subst (IsImage (state (disk_of old)).pending) (sym (same now)) restarted)) (time.nothing_else t image early left)
    where
      same : IsImage (state (disk_of new)).pending image → image ≡ (state (disk_of new)).seen
      same now = settled_only (state (disk_of new)).seen image (subst (λ (p : Pending). IsImage p image) (synced up) now)

  module _ (old new : Journal D) where
    pub since_restarted : (start : Journal D) (R : ClientDevs → Type 0) → chunks.Restarts state images old.chunks new.chunks → slots.Restarts state images old.slots new.slots → journals.Restarts state images old.journal new.journal
        → IsRestarted state (chunks.vault_of old.chunks) (chunks.vault_of new.chunks) → IsRestarted state (slots.vault_of old.slots) (slots.vault_of new.slots) → IsRestarted state (journals.vault_of old.journal) (journals.vault_of new.journal)
        → Goes (chunks.vault_of old.chunks) (chunks.vault_of new.chunks) → Goes (slots.vault_of old.slots) (slots.vault_of new.slots) → Goes (journals.vault_of old.journal) (journals.vault_of new.journal)
        → DevsLeave state images start old R → DevsLeave state images start new R
    since_restarted start R c r l ci ri li ct rt lt run = record {
      each = λ x y z ix iy iz. run.each x y z
          (back (chunks.vault_of old.chunks) (chunks.vault_of new.chunks) c.up c.synced ci ct _ x run.later.chunks ix)
          (back (slots.vault_of old.slots) (slots.vault_of new.slots) r.up r.synced ri rt _ y run.later.slots iy)
          (back (journals.vault_of old.journal) (journals.vault_of new.journal) l.up l.synced li lt _ z run.later.journal iz);
      later = record {
        chunks = let a = run.later.chunks in let b = ct.later in omega arith;
        slots = let a = run.later.slots in let b = rt.later in omega arith;
        journal = let a = run.later.journal in let b = lt.later in omega arith;
      };
    }
