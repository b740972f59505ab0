-- What crashes leave of devices on which nothing is done, or which wait for the writes of a plan.
use Rattle.std.proofs.Common.{◌≡◌, ℕ, List, Result, refl}
use Rattle.disk_trait.specs.Image.{IsImage}
use Rattle.disk_trait.specs.Calls.{DiskState}
use Rattle.client_journal.specs.declared.devs.Journal.{Journal}
use Rattle.client_journal.specs.declared.fault.JournalFault.{JournalFault}
use Rattle.client_journal.specs.Devs.{Write}
use Rattle.client_journal.specs.Standing.{IsReady}
use Rattle.client_journal.specs.TakesOn.{Waits}
use Rattle.client_journal.specs.Asking.{AllLeave}
use Rattle.client_journal.proofs.Works.{still_chunk, still_slot, still_journal}

module _ {D : Type 0} (state : D → DiskState) (images : D → ℕ → List ℕ → Type 0) where
  pub rests_all : ((disk : D) (image : List ℕ) → images disk (state disk).moment image → IsImage (state disk).pending image) → (old : Journal D) (ws : List Write) → IsReady state old ws → AllLeave state images old old
  rests_all only_now old ws r = record {
    chunks = still_chunk state images only_now old.chunks r.chunk_looked.vault r.chunk_sound;
    slots = still_slot state images only_now old.slots r.slot_looked.vault r.slot_sound;
    journal = still_journal state images only_now old.journal r.journal_looked.vault r.journal_sound;
  }

  pub waits_all : {T : Type 0} (old mid new : Journal D) (r : Result T JournalFault) → new.chunks ≡ mid.chunks → new.slots ≡ mid.slots → new.journal ≡ mid.journal → Waits state images old mid r → AllLeave state images old new
  waits_all old mid new r cs rs ls w = record { chunks = rw cs w.chunks; slots = rw rs w.slots; journal = rw ls w.journal }
