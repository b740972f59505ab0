-- Why a call of devices that were up was refused, from call to call.
use Rattle.std.proofs.Common.{◌≡◌, inl, inr, ℕ, ◌+◌, ◌<◌, Result, Ok, Err, refl, sym, ◌∙◌, ap, arith}
use Rattle.disk_trait.specs.Calls.{DiskState}
use Rattle.vault.specs.declared.fault.VaultFault.{VaultFault}
use Rattle.vault.specs.declared.fault.VaultFault.TheVariants as causes
use Rattle.vault.specs.Standing.{faults, IsUp, IsDown}
use Rattle.vault.specs.Calls.{Refuses, RefusesOnly}
use Rattle.chunk_store.specs.declared.device.ChunkDev.{ChunkDev}
use Rattle.chunk_store.specs.declared.fault.ChunkFault.{ChunkFault}
use Rattle.chunk_store.specs.Fault.{fault_of as chunk_fault}
use Rattle.chunk_store.specs.Standing as chunks
use Rattle.slot_store.specs.declared.device.SlotDev.{SlotDev}
use Rattle.slot_store.specs.declared.fault.SlotFault.{SlotFault}
use Rattle.slot_store.specs.Fault.{fault_of as slot_fault}
use Rattle.slot_store.specs.Standing as slots
use Rattle.plan_log.specs.declared.device.PlanLog.{PlanLog}
use Rattle.plan_log.specs.declared.fault.PlanFault.{PlanFault}
use Rattle.plan_log.specs.Fault.{fault_of as plan_fault}
use Rattle.plan_log.specs.Standing as journals
use Rattle.client_journal.specs.declared.devs.Journal.{Journal}
use Rattle.client_journal.specs.declared.fault.JournalFault.{JournalFault}
use Rattle.client_journal.specs.declared.fault.JournalFault.TheVariants.{Disk, Down, Memory}
use Rattle.client_journal.specs.Fault.{caused, chunk_cause, slot_cause, journal_cause}
use Rattle.client_journal.specs.Causes.{HasCause}

module _ {D : Type 0} (state : D → DiskState) where
  pub cause_then : {S T : Type 0} (old mid new : Journal D) (x : S) (r : Result T JournalFault) → HasCause {T = S} state old mid (Ok x) → HasCause state mid new r → HasCause state old new r
  cause_then old mid new x (Ok y) a b = record { cause = b.cause ∙ a.cause; only = tt }
  cause_then old mid new x (Err e) a b = record { cause = (λ is. let less = b.cause.0 is in omega (arith, a.cause, less), λ is. b.cause.1 is ∙ a.cause); only = b.only }

  pub chunk_caused : {T X : Type 0} (old : Journal D) (dev : ChunkDev D) (before after : X) (r : Result T ChunkFault) → Refuses state chunk_fault (chunks.vault_of old.chunks) (chunks.vault_of dev) before after r → RefusesOnly chunk_fault r → IsUp (chunks.vault_of old.chunks)
      → HasCause state old (record old { chunks = dev }) (caused chunk_cause r)
  chunk_caused old dev before after (Ok x) refuses only up = record { cause = ap (λ (n : ℕ). n + (faults state (slots.vault_of old.slots) + faults state (journals.vault_of old.journal))) refuses.cause; only = tt }
  chunk_caused {T} {X} old dev before after (Err x) refuses only up = pick only.0 only.1
    where
      pick : (c : VaultFault) → x ≡ chunk_fault c → HasCause {T = T} state old (record old { chunks = dev }) (Err (chunk_cause x))
      pick causes.Disk same = let less = refuses.cause.0 same in let is : chunk_cause x ≡ Disk = ap chunk_cause same in
          record { cause = (λ _. omega (arith, less), λ isnt. absurd (isnt is)); only = inl is }
      pick causes.Down same = let is_down : IsDown (chunks.vault_of old.chunks) = refuses.down.0 (ap (λ e. Err e) same) in absurd cc
      pick causes.Memory same = let is : chunk_cause x ≡ Memory = ap chunk_cause same in let stays = refuses.cause.1 (λ is_disk. cc) in
          record { cause = (λ is_disk. cc, λ isnt. omega (arith, stays)); only = inr is }

  pub slot_caused : {T X : Type 0} (old : Journal D) (dev : SlotDev D) (before after : X) (r : Result T SlotFault) → Refuses state slot_fault (slots.vault_of old.slots) (slots.vault_of dev) before after r → RefusesOnly slot_fault r → IsUp (slots.vault_of old.slots)
      → HasCause state old (record old { slots = dev }) (caused slot_cause r)
  slot_caused old dev before after (Ok x) refuses only up = record { cause = ap (λ (n : ℕ). faults state (chunks.vault_of old.chunks) + (n + faults state (journals.vault_of old.journal))) refuses.cause; only = tt }
  slot_caused {T} {X} old dev before after (Err x) refuses only up = pick only.0 only.1
    where
      pick : (c : VaultFault) → x ≡ slot_fault c → HasCause {T = T} state old (record old { slots = dev }) (Err (slot_cause x))
      pick causes.Disk same = let less = refuses.cause.0 same in let is : slot_cause x ≡ Disk = ap slot_cause same in
          record { cause = (λ _. omega (arith, less), λ isnt. absurd (isnt is)); only = inl is }
      pick causes.Down same = let is_down : IsDown (slots.vault_of old.slots) = refuses.down.0 (ap (λ e. Err e) same) in absurd cc
      pick causes.Memory same = let is : slot_cause x ≡ Memory = ap slot_cause same in let stays = refuses.cause.1 (λ is_disk. cc) in
          record { cause = (λ is_disk. cc, λ isnt. omega (arith, stays)); only = inr is }

  pub journal_caused : {T X : Type 0} (old : Journal D) (dev : PlanLog D) (before after : X) (r : Result T PlanFault) → Refuses state plan_fault (journals.vault_of old.journal) (journals.vault_of dev) before after r → RefusesOnly plan_fault r → IsUp (journals.vault_of old.journal)
      → HasCause state old (record old { journal = dev }) (caused journal_cause r)
  journal_caused old dev before after (Ok x) refuses only up = record { cause = ap (λ (n : ℕ). faults state (chunks.vault_of old.chunks) + (faults state (slots.vault_of old.slots) + n)) refuses.cause; only = tt }
  journal_caused {T} {X} old dev before after (Err x) refuses only up = pick only.0 only.1
    where
      pick : (c : VaultFault) → x ≡ plan_fault c → HasCause {T = T} state old (record old { journal = dev }) (Err (journal_cause x))
      pick causes.Disk same = let less = refuses.cause.0 same in let is : journal_cause x ≡ Disk = ap journal_cause same in
          record { cause = (λ _. omega (arith, less), λ isnt. absurd (isnt is)); only = inl is }
      pick causes.Down same = let is_down : IsDown (journals.vault_of old.journal) = refuses.down.0 (ap (λ e. Err e) same) in absurd cc
      pick causes.Memory same = let is : journal_cause x ≡ Memory = ap journal_cause same in let stays = refuses.cause.1 (λ is_disk. cc) in
          record { cause = (λ is_disk. cc, λ isnt. omega (arith, stays)); only = inr is }
