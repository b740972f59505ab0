-- What a call of one device makes of the fuses and of the count of faults of all three.
use Rattle.std.proofs.Common.{◌≡◌, inl, inr, ℕ, ◌+◌, ◌<◌, Result, Ok, Err, refl, sym, ◌∙◌, ap, arith}
use Rattle.disk_trait.specs.Calls.{DiskState}
use Rattle.vault.specs.declared.fault.VaultFault.{VaultFault}
use Rattle.vault.specs.declared.fault.VaultFault.TheVariants as causes
use Rattle.vault.specs.Standing.{stops, faults, disk_of, IsUp, IsDown}
use Rattle.vault.specs.Standing as vaults
use Rattle.vault.specs.Calls.{Refuses, RefusesOnly}
use Rattle.chunk_store.specs.declared.device.ChunkDev.{ChunkDev}
use Rattle.chunk_store.specs.declared.fault.ChunkFault.{ChunkFault}
use Rattle.chunk_store.specs.Fault.{fault_of as chunk_fault}
use Rattle.chunk_store.specs.Standing as chunks
use Rattle.row_store.specs.declared.device.RowDev.{RowDev}
use Rattle.row_store.specs.declared.fault.RowFault.{RowFault}
use Rattle.row_store.specs.Fault.{fault_of as row_fault}
use Rattle.row_store.specs.Standing as rows
use Rattle.status_log.specs.declared.device.StatusLog.{StatusLog}
use Rattle.status_log.specs.declared.fault.LogFault.{LogFault}
use Rattle.status_log.specs.Fault.{fault_of as log_fault}
use Rattle.status_log.specs.Standing as logs
use Rattle.store_commit.specs.declared.devs.TableDevs.{TableDevs}
use Rattle.store_commit.specs.declared.fault.CommitFault.{CommitFault}
use Rattle.store_commit.specs.declared.fault.CommitFault.TheVariants.{Disk, Down, Memory}
use Rattle.store_commit.specs.Fault.{caused, chunk_cause, row_cause, log_cause}
use Rattle.store_commit.specs.Standing.{all_stops}
use Rattle.store_commit.specs.Unset.{AreUnset, KeepsUnset, HasCause}

module _ {D : Type 0} (state : D → DiskState) where
  -- fuses that are as new are unset, and stay as new
  pub keeps : (old new : TableDevs D) → (AreUnset state old → AreUnset state new) → (AreUnset state old → all_stops state new ≡ all_stops state old) → KeepsUnset state old new
  keeps old new unset stopped = record { unset = unset; stopped = stopped; fresh = λ f. record { unset = unset f.unset; unstopped = stopped f.unset ∙ f.unstopped } }

  pub keeps_then : (old mid new : TableDevs D) → KeepsUnset state old mid → KeepsUnset state mid new → KeepsUnset state old new
  keeps_then old mid new a b = keeps old new (λ u. b.unset (a.unset u)) (λ u. b.stopped (a.unset u) ∙ a.stopped u)

  -- the same devices, or devices with the same vaults
  pub keeps_vaults : (old new : TableDevs D) → chunks.vault_of new.chunks ≡ chunks.vault_of old.chunks → rows.vault_of new.rows ≡ rows.vault_of old.rows → logs.vault_of new.log ≡ logs.vault_of old.log → KeepsUnset state old new
  keeps_vaults old new a b c =
      keeps old new
      (λ u. record { chunks = ap (λ v. (state (disk_of v)).is_armed) a ∙ u.chunks; rows = ap (λ v. (state (disk_of v)).is_armed) b ∙ u.rows; log = ap (λ v. (state (disk_of v)).is_armed) c ∙ u.log })
      (λ u. let x : stops state (chunks.vault_of new.chunks) ≡ stops state (chunks.vault_of old.chunks) = ap (λ v. stops state v) a in
      let y : stops state (rows.vault_of new.rows) ≡ stops state (rows.vault_of old.rows) = ap (λ v. stops state v) b in
      let z : stops state (logs.vault_of new.log) ≡ stops state (logs.vault_of old.log) = ap (λ v. stops state v) c in
      omega (arith, x, y, z))

  pub keeps_same : (old new : TableDevs D) → new.chunks ≡ old.chunks → new.rows ≡ old.rows → new.log ≡ old.log → KeepsUnset state old new
  keeps_same old new a b c = keeps_vaults old new (ap chunks.vault_of a) (ap rows.vault_of b) (ap logs.vault_of c)

  pub chunk_burns : {T E : Type 0} (old : TableDevs D) (dev : ChunkDev D) (count : ℕ) (r : Result T E) → vaults.Burns state count (chunks.vault_of old.chunks) (chunks.vault_of dev) r → KeepsUnset state old (record old { chunks = dev })
  chunk_burns old dev count r b =
      keeps old (record old { chunks = dev })
      (λ u. record { chunks = (b.unarmed u.chunks).0; rows = u.rows; log = u.log })
      (λ u. ap (λ (n : ℕ). n + (stops state (rows.vault_of old.rows) + stops state (logs.vault_of old.log))) (b.unarmed u.chunks).1)

  pub row_burns : {T E : Type 0} (old : TableDevs D) (dev : RowDev D) (count : ℕ) (r : Result T E) → vaults.Burns state count (rows.vault_of old.rows) (rows.vault_of dev) r → KeepsUnset state old (record old { rows = dev })
  row_burns old dev count r b =
      keeps old (record old { rows = dev })
      (λ u. record { chunks = u.chunks; rows = (b.unarmed u.rows).0; log = u.log })
      (λ u. ap (λ (n : ℕ). stops state (chunks.vault_of old.chunks) + (n + stops state (logs.vault_of old.log))) (b.unarmed u.rows).1)

  pub log_burns : {T E : Type 0} (old : TableDevs D) (dev : StatusLog D) (count : ℕ) (r : Result T E) → vaults.Burns state count (logs.vault_of old.log) (logs.vault_of dev) r → KeepsUnset state old (record old { log = dev })
  log_burns old dev count r b =
      keeps old (record old { log = dev })
      (λ u. record { chunks = u.chunks; rows = u.rows; log = (b.unarmed u.log).0 })
      (λ u. ap (λ (n : ℕ). stops state (chunks.vault_of old.chunks) + (stops state (rows.vault_of old.rows) + n)) (b.unarmed u.log).1)

  pub chunk_same : (old : TableDevs D) (dev : ChunkDev D) → vaults.SameFuse state (chunks.vault_of old.chunks) (chunks.vault_of dev) → KeepsUnset state old (record old { chunks = dev })
  chunk_same old dev b =
      keeps old (record old { chunks = dev })
      (λ u. record { chunks = b.is_armed ∙ u.chunks; rows = u.rows; log = u.log })
      (λ u. ap (λ (n : ℕ). n + (stops state (rows.vault_of old.rows) + stops state (logs.vault_of old.log))) b.stops)

  pub row_same : (old : TableDevs D) (dev : RowDev D) → vaults.SameFuse state (rows.vault_of old.rows) (rows.vault_of dev) → KeepsUnset state old (record old { rows = dev })
  row_same old dev b =
      keeps old (record old { rows = dev })
      (λ u. record { chunks = u.chunks; rows = b.is_armed ∙ u.rows; log = u.log })
      (λ u. ap (λ (n : ℕ). stops state (chunks.vault_of old.chunks) + (n + stops state (logs.vault_of old.log))) b.stops)

  pub log_same : (old : TableDevs D) (dev : StatusLog D) → vaults.SameFuse state (logs.vault_of old.log) (logs.vault_of dev) → KeepsUnset state old (record old { log = dev })
  log_same old dev b =
      keeps old (record old { log = dev })
      (λ u. record { chunks = u.chunks; rows = u.rows; log = b.is_armed ∙ u.log })
      (λ u. ap (λ (n : ℕ). stops state (chunks.vault_of old.chunks) + (stops state (rows.vault_of old.rows) + n)) b.stops)

  -- ---- the count of faults

  pub cause_then : {S T : Type 0} (old mid new : TableDevs D) (x : S) (r : Result T CommitFault) → HasCause {T = S} state old mid (Ok x) → HasCause state mid new r → HasCause state old new r
  cause_then old mid new x (Ok y) a b = record { cause = b.cause ∙ a.cause; only = tt }
  cause_then old mid new x (Err e) a b = record { cause = (λ is. let less = b.cause.0 is in omega (arith, a.cause, less), λ is. b.cause.1 is ∙ a.cause); only = b.only }

  pub chunk_caused : {T X : Type 0} (old : TableDevs D) (dev : ChunkDev D) (before after : X) (r : Result T ChunkFault) → Refuses state chunk_fault (chunks.vault_of old.chunks) (chunks.vault_of dev) before after r → RefusesOnly chunk_fault r → IsUp (chunks.vault_of old.chunks)
      → HasCause state old (record old { chunks = dev }) (caused chunk_cause r)
  chunk_caused old dev before after (Ok x) refuses only up = record { cause = ap (λ (n : ℕ). n + (faults state (rows.vault_of old.rows) + faults state (logs.vault_of old.log))) refuses.cause; only = tt }
  chunk_caused {T} {X} old dev before after (Err x) refuses only up = pick only.0 only.1
    where
      pick : (c : VaultFault) → x ≡ chunk_fault c → HasCause {T = T} state old (record old { chunks = dev }) (Err (chunk_cause x))
      pick causes.Disk same = let less = refuses.cause.0 same in let is : chunk_cause x ≡ Disk = ap chunk_cause same in
          record { cause = (λ _. omega (arith, less), λ isnt. absurd (isnt is)); only = inl is }
      pick causes.Down same = let is_down : IsDown (chunks.vault_of old.chunks) = refuses.down.0 (ap (λ e. Err e) same) in absurd cc
      pick causes.Memory same = let is : chunk_cause x ≡ Memory = ap chunk_cause same in let stays = refuses.cause.1 (λ is_disk. cc) in
          record { cause = (λ is_disk. cc, λ isnt. omega (arith, stays)); only = inr is }

  pub row_caused : {T X : Type 0} (old : TableDevs D) (dev : RowDev D) (before after : X) (r : Result T RowFault) → Refuses state row_fault (rows.vault_of old.rows) (rows.vault_of dev) before after r → RefusesOnly row_fault r → IsUp (rows.vault_of old.rows)
      → HasCause state old (record old { rows = dev }) (caused row_cause r)
  row_caused old dev before after (Ok x) refuses only up = record { cause = ap (λ (n : ℕ). faults state (chunks.vault_of old.chunks) + (n + faults state (logs.vault_of old.log))) refuses.cause; only = tt }
  row_caused {T} {X} old dev before after (Err x) refuses only up = pick only.0 only.1
    where
      pick : (c : VaultFault) → x ≡ row_fault c → HasCause {T = T} state old (record old { rows = dev }) (Err (row_cause x))
      pick causes.Disk same = let less = refuses.cause.0 same in let is : row_cause x ≡ Disk = ap row_cause same in
          record { cause = (λ _. omega (arith, less), λ isnt. absurd (isnt is)); only = inl is }
      pick causes.Down same = let is_down : IsDown (rows.vault_of old.rows) = refuses.down.0 (ap (λ e. Err e) same) in absurd cc
      pick causes.Memory same = let is : row_cause x ≡ Memory = ap row_cause same in let stays = refuses.cause.1 (λ is_disk. cc) in
          record { cause = (λ is_disk. cc, λ isnt. omega (arith, stays)); only = inr is }

  pub log_caused : {T X : Type 0} (old : TableDevs D) (dev : StatusLog D) (before after : X) (r : Result T LogFault) → Refuses state log_fault (logs.vault_of old.log) (logs.vault_of dev) before after r → RefusesOnly log_fault r → IsUp (logs.vault_of old.log)
      → HasCause state old (record old { log = dev }) (caused log_cause r)
  log_caused old dev before after (Ok x) refuses only up = record { cause = ap (λ (n : ℕ). faults state (chunks.vault_of old.chunks) + (faults state (rows.vault_of old.rows) + n)) refuses.cause; only = tt }
  log_caused {T} {X} old dev before after (Err x) refuses only up = pick only.0 only.1
    where
      pick : (c : VaultFault) → x ≡ log_fault c → HasCause {T = T} state old (record old { log = dev }) (Err (log_cause x))
      pick causes.Disk same = let less = refuses.cause.0 same in let is : log_cause x ≡ Disk = ap log_cause same in
          record { cause = (λ _. omega (arith, less), λ isnt. absurd (isnt is)); only = inl is }
      pick causes.Down same = let is_down : IsDown (logs.vault_of old.log) = refuses.down.0 (ap (λ e. Err e) same) in absurd cc
      pick causes.Memory same = let is : log_cause x ≡ Memory = ap log_cause same in let stays = refuses.cause.1 (λ is_disk. cc) in
          record { cause = (λ is_disk. cc, λ isnt. omega (arith, stays)); only = inr is }
