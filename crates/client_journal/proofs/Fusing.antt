-- What a call of one device makes of the fuses of all three.
use Rattle.std.proofs.Common.{◌≡◌, ℕ, ◌+◌, Result, ◌∙◌, ap, arith}
use Rattle.disk_trait.specs.Calls.{DiskState}
use Rattle.vault.specs.Standing.{stops, disk_of}
use Rattle.vault.specs.Standing as vaults
use Rattle.chunk_store.specs.declared.device.ChunkDev.{ChunkDev}
use Rattle.chunk_store.specs.Standing as chunks
use Rattle.slot_store.specs.declared.device.SlotDev.{SlotDev}
use Rattle.slot_store.specs.Standing as slots
use Rattle.plan_log.specs.declared.device.PlanLog.{PlanLog}
use Rattle.plan_log.specs.Standing as journals
use Rattle.client_journal.specs.declared.devs.Journal.{Journal}
use Rattle.client_journal.specs.Unset.{all_stops, AreUnset, KeepsUnset}

module _ {D : Type 0} (state : D → DiskState) where
  -- fuses that are as new are unset, and stay as new
  keeps : (old new : Journal D) → (AreUnset state old → AreUnset state new) → (AreUnset state old → all_stops state new ≡ all_stops state old) → KeepsUnset state old new
  keeps old new unset stopped = record { unset = unset; stopped = stopped; fresh = λ f. record { unset = unset f.unset; unstopped = stopped f.unset ∙ f.unstopped } }

  pub keeps_then : (old mid new : Journal D) → KeepsUnset state old mid → KeepsUnset state mid new → KeepsUnset state old new
  keeps_then old mid new a b = keeps old new (λ u. b.unset (a.unset u)) (λ u. b.stopped (a.unset u) ∙ a.stopped u)

  -- the same devices, or devices with the same vaults
  pub keeps_vaults : (old new : Journal D) → chunks.vault_of new.chunks ≡ chunks.vault_of old.chunks → slots.vault_of new.slots ≡ slots.vault_of old.slots → journals.vault_of new.journal ≡ journals.vault_of old.journal → KeepsUnset state old new
  keeps_vaults old new a b c =
      keeps old new
      (λ u. record { chunks = ap (λ v. (state (disk_of v)).is_armed) a ∙ u.chunks; slots = ap (λ v. (state (disk_of v)).is_armed) b ∙ u.slots; journal = ap (λ v. (state (disk_of v)).is_armed) c ∙ u.journal })
      (λ u. let x : stops state (chunks.vault_of new.chunks) ≡ stops state (chunks.vault_of old.chunks) = ap (λ v. stops state v) a in
      let y : stops state (slots.vault_of new.slots) ≡ stops state (slots.vault_of old.slots) = ap (λ v. stops state v) b in
      let z : stops state (journals.vault_of new.journal) ≡ stops state (journals.vault_of old.journal) = ap (λ v. stops state v) c in
      omega (arith, x, y, z))

  pub keeps_same : (old new : Journal D) → new.chunks ≡ old.chunks → new.slots ≡ old.slots → new.journal ≡ old.journal → KeepsUnset state old new
  keeps_same old new a b c = keeps_vaults old new (ap chunks.vault_of a) (ap slots.vault_of b) (ap journals.vault_of c)

  -- a run of so many calls of one disk
  pub chunk_burns : {T E : Type 0} (old : Journal D) (dev : ChunkDev D) (count : ℕ) (r : Result T E) → vaults.Burns state count (chunks.vault_of old.chunks) (chunks.vault_of dev) r → KeepsUnset state old (record old { chunks = dev })
  chunk_burns old dev count r b =
      keeps old (record old { chunks = dev })
      (λ u. record { chunks = (b.unarmed u.chunks).0; slots = u.slots; journal = u.journal })
      (λ u. ap (λ (n : ℕ). n + (stops state (slots.vault_of old.slots) + stops state (journals.vault_of old.journal))) (b.unarmed u.chunks).1)

  pub slot_burns : {T E : Type 0} (old : Journal D) (dev : SlotDev D) (count : ℕ) (r : Result T E) → vaults.Burns state count (slots.vault_of old.slots) (slots.vault_of dev) r → KeepsUnset state old (record old { slots = dev })
  slot_burns old dev count r b =
      keeps old (record old { slots = dev })
      (λ u. record { chunks = u.chunks; slots = (b.unarmed u.slots).0; journal = u.journal })
      (λ u. ap (λ (n : ℕ). stops state (chunks.vault_of old.chunks) + (n + stops state (journals.vault_of old.journal))) (b.unarmed u.slots).1)

  pub journal_burns : {T E : Type 0} (old : Journal D) (dev : PlanLog D) (count : ℕ) (r : Result T E) → vaults.Burns state count (journals.vault_of old.journal) (journals.vault_of dev) r → KeepsUnset state old (record old { journal = dev })
  journal_burns old dev count r b =
      keeps old (record old { journal = dev })
      (λ u. record { chunks = u.chunks; slots = u.slots; journal = (b.unarmed u.journal).0 })
      (λ u. ap (λ (n : ℕ). stops state (chunks.vault_of old.chunks) + (stops state (slots.vault_of old.slots) + n)) (b.unarmed u.journal).1)

  -- the fuse of one disk is as it was
  pub chunk_same : (old : Journal D) (dev : ChunkDev D) → vaults.SameFuse state (chunks.vault_of old.chunks) (chunks.vault_of dev) → KeepsUnset state old (record old { chunks = dev })
  chunk_same old dev b =
      keeps old (record old { chunks = dev })
      (λ u. record { chunks = b.is_armed ∙ u.chunks; slots = u.slots; journal = u.journal })
      (λ u. ap (λ (n : ℕ). n + (stops state (slots.vault_of old.slots) + stops state (journals.vault_of old.journal))) b.stops)

  pub slot_same : (old : Journal D) (dev : SlotDev D) → vaults.SameFuse state (slots.vault_of old.slots) (slots.vault_of dev) → KeepsUnset state old (record old { slots = dev })
  slot_same old dev b =
      keeps old (record old { slots = dev })
      (λ u. record { chunks = u.chunks; slots = b.is_armed ∙ u.slots; journal = u.journal })
      (λ u. ap (λ (n : ℕ). stops state (chunks.vault_of old.chunks) + (n + stops state (journals.vault_of old.journal))) b.stops)

  pub journal_same : (old : Journal D) (dev : PlanLog D) → vaults.SameFuse state (journals.vault_of old.journal) (journals.vault_of dev) → KeepsUnset state old (record old { journal = dev })
  journal_same old dev b =
      keeps old (record old { journal = dev })
      (λ u. record { chunks = u.chunks; slots = u.slots; journal = b.is_armed ∙ u.journal })
      (λ u. ap (λ (n : ℕ). stops state (chunks.vault_of old.chunks) + (stops state (slots.vault_of old.slots) + n)) b.stops)
