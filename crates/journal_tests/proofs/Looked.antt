-- Devices that were looked at, behind a call that writes nothing.
use Rattle.std.proofs.Common.{ℕ, List, Result, Ok, Err}
use Rattle.std.specs.Prelude.{OnOk}
use Rattle.disk_trait.specs.Calls.{DiskState}
use Rattle.client_journal.specs.declared.devs.Journal.{Journal}
use Rattle.client_journal.specs.declared.fault.JournalFault.{JournalFault}
use Rattle.client_journal.specs.Standing.{AreLookedAt}
use Rattle.client_journal.specs.Asking.{Asks}

pub still_looked : {D T : Type 0} (state : D → DiskState) (images : D → ℕ → List ℕ → Type 0) (old new : Journal D) (r : Result T JournalFault) → Asks state images old new r → AreLookedAt state old → OnOk r (AreLookedAt state new)
still_looked state images old new (Ok x) k l = let s = k.stay (λ is. cc) in record { chunks = s.chunks.looked l.chunks; slots = s.slots.looked l.slots; journal = s.journal.looked l.journal }
still_looked state images old new (Err e) k l = tt
