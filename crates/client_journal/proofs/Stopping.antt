-- A fuse that is set moves no clock.
use Rattle.std.proofs.Common.{◌≡◌, ◌≤◌, ℕ, List, ◌∷◌, sym, ap, subst}
use Rattle.disk_trait.specs.Calls.{DiskState}
use Rattle.disk_trait.specs.Fuse.{behind, inner_of}
use Rattle.disk_trait.specs.declared.fuse.FuseDisk.{FuseDisk}
use Rattle.vault.specs.Standing.{disk_of}
use Rattle.chunk_store.specs.Standing as chunks
use Rattle.slot_store.specs.Standing as slots
use Rattle.plan_log.specs.Standing as journals
use Rattle.client_journal.specs.declared.devs.Journal.{Journal}
use Rattle.client_journal.specs.declared.fused.Device.{Device}
use Rattle.client_journal.specs.declared.fused.Device.TheVariants.{Chunks, Slots, Plans}
use Rattle.client_journal.specs.Devs.{ClientDevs, Write}
use Rattle.client_journal.specs.Standing.{DevsLeave}
use Rattle.client_journal.specs.Fused.{device_of, StopsOne, StopsNext}

module _ {D : Type 0} (state : D → DiskState) (images : D → ℕ → List ℕ → Type 0) where
  abbrev st : FuseDisk D → DiskState
  st f = behind state f

  abbrev im : FuseDisk D → ℕ → List ℕ → Type 0
  im f = images (inner_of f)

  record SameMoments (old new : Journal (FuseDisk D)) : Type 0 where
    chunks : (st (disk_of (chunks.vault_of new.chunks))).moment ≡ (st (disk_of (chunks.vault_of old.chunks))).moment
    slots : (st (disk_of (slots.vault_of new.slots))).moment ≡ (st (disk_of (slots.vault_of old.slots))).moment
    journal : (st (disk_of (journals.vault_of new.journal))).moment ≡ (st (disk_of (journals.vault_of old.journal))).moment

  stops_moments : (calls pick : ℕ) (device : Device) (old new : Journal (FuseDisk D)) → StopsOne state images calls pick device old new → SameMoments old new
  stops_moments calls pick Chunks old new h = record { chunks = h.0.armed.moment; slots = ap (λ d. (st (disk_of (slots.vault_of d))).moment) h.1; journal = ap (λ d. (st (disk_of (journals.vault_of d))).moment) h.2 }
  stops_moments calls pick Slots old new h = record { chunks = ap (λ d. (st (disk_of (chunks.vault_of d))).moment) h.0; slots = h.1.armed.moment; journal = ap (λ d. (st (disk_of (journals.vault_of d))).moment) h.2 }
  stops_moments calls pick Plans old new h = record { chunks = ap (λ d. (st (disk_of (chunks.vault_of d))).moment) h.0; slots = ap (λ d. (st (disk_of (slots.vault_of d))).moment) h.1; journal = h.2.armed.moment }

  -- what a crash leaves since the fuse was set it leaves since the moment before
  pub since_stopped : (calls pick : ℕ) (w : Write) (ws : List Write) (old stopped new : Journal (FuseDisk D)) (R : ClientDevs → Type 0) → StopsNext state images calls pick (w ∷ ws) old stopped → DevsLeave st im stopped new R
      → DevsLeave st im old new R
  since_stopped calls pick w ws old stopped new R h run =
      let m = stops_moments calls pick (device_of w) old stopped h in
      record {
        each = λ x y z ix iy iz. run.each x y z
            (subst (λ (t : ℕ). im (disk_of (chunks.vault_of new.chunks)) t x) (sym m.chunks) ix)
            (subst (λ (t : ℕ). im (disk_of (slots.vault_of new.slots)) t y) (sym m.slots) iy)
            (subst (λ (t : ℕ). im (disk_of (journals.vault_of new.journal)) t z) (sym m.journal) iz);
        later = record {
          chunks = subst (λ (t : ℕ). t ≤ (st (disk_of (chunks.vault_of new.chunks))).moment) m.chunks run.later.chunks;
          slots = subst (λ (t : ℕ). t ≤ (st (disk_of (slots.vault_of new.slots))).moment) m.slots run.later.slots;
          journal = subst (λ (t : ℕ). t ≤ (st (disk_of (journals.vault_of new.journal))).moment) m.journal run.later.journal;
        };
      }
