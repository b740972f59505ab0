-- A fuse that was as new, and is set.
use Rattle.std.proofs.Common.{◌≡◌, ℕ, ◌+◌, ◌<◌, true, List, ◌∷◌, ap, arith}
use Rattle.disk_trait.specs.Calls.{DiskState}
use Rattle.disk_trait.specs.Fuse.{behind, inner_of}
use Rattle.disk_trait.specs.declared.fuse.FuseDisk.{FuseDisk}
use Rattle.vault.specs.Standing.{disk_of, stops, faults}
use Rattle.chunk_store.specs.Standing as chunks
use Rattle.slot_store.specs.Standing as slots
use Rattle.plan_log.specs.Standing as journals
use Rattle.client_journal.specs.declared.devs.Journal.{Journal}
use Rattle.client_journal.specs.declared.fused.Device.{Device}
use Rattle.client_journal.specs.declared.fused.Device.TheVariants as devices
use Rattle.client_journal.specs.Devs.{Write}
use Rattle.client_journal.specs.Standing.{all_faults, all_stops}
use Rattle.client_journal.specs.Fused.{device_of, vault_at, StopsOne, StopsNext}
use Rattle.client_journal.specs.Unset.{AreFresh}

-- the fuse of this device's disk lets so many calls pass, and none was stopped or has failed
pub record IsSetAt {D : Type 0} (state : D → DiskState) (calls : ℕ) (device : Device) (old stopped : Journal (FuseDisk D)) : Type 0 where
  pub armed : (behind state (disk_of (vault_at stopped device))).is_armed ≡ true
  pub passes : (behind state (disk_of (vault_at stopped device))).passes ≡ calls
  pub stops_stay : all_stops (λ f. behind state f) stopped ≡ all_stops (λ f. behind state f) old
  pub faults_stay : all_faults (λ f. behind state f) stopped ≡ all_faults (λ f. behind state f) old

-- and so the fuse of the disk of this write
abbrev pub IsSet : {D : Type 0} → (D → DiskState) → ℕ → Write → Journal (FuseDisk D) → Journal (FuseDisk D) → Type 0
IsSet state calls w old stopped = IsSetAt state calls (device_of w) old stopped

module _ {D : Type 0} (state : D → DiskState) (images : D → ℕ → List ℕ → Type 0) where
  abbrev st : FuseDisk D → DiskState
  st f = behind state f

  set_at : (calls pick : ℕ) (device : Device) (old stopped : Journal (FuseDisk D)) → AreFresh st old → StopsOne state images calls pick device old stopped → IsSetAt state calls device old stopped
  set_at calls pick devices.Chunks old stopped fresh h =
      let none = fresh.unstopped in
      let a = h.0.armed.stops in
      let b = ap (λ d. stops st (slots.vault_of d)) h.1 in
      let c = ap (λ d. stops st (journals.vault_of d)) h.2 in
      let x = h.0.armed.faults in
      let y = ap (λ d. faults st (slots.vault_of d)) h.1 in
      let z = ap (λ d. faults st (journals.vault_of d)) h.2 in
      record { armed = h.0.armed.is_armed (omega (arith, none)); passes = h.0.armed.passes; stops_stay = omega (arith, a, b, c); faults_stay = omega (arith, x, y, z) }
  set_at calls pick devices.Slots old stopped fresh h =
      let none = fresh.unstopped in
      let a = ap (λ d. stops st (chunks.vault_of d)) h.0 in
      let b = h.1.armed.stops in
      let c = ap (λ d. stops st (journals.vault_of d)) h.2 in
      let x = ap (λ d. faults st (chunks.vault_of d)) h.0 in
      let y = h.1.armed.faults in
      let z = ap (λ d. faults st (journals.vault_of d)) h.2 in
      record { armed = h.1.armed.is_armed (omega (arith, none)); passes = h.1.armed.passes; stops_stay = omega (arith, a, b, c); faults_stay = omega (arith, x, y, z) }
  set_at calls pick devices.Plans old stopped fresh h =
      let none = fresh.unstopped in
      let a = ap (λ d. stops st (chunks.vault_of d)) h.0 in
      let b = ap (λ d. stops st (slots.vault_of d)) h.1 in
      let c = h.2.armed.stops in
      let x = ap (λ d. faults st (chunks.vault_of d)) h.0 in
      let y = ap (λ d. faults st (slots.vault_of d)) h.1 in
      let z = h.2.armed.faults in
      record { armed = h.2.armed.is_armed (omega (arith, none)); passes = h.2.armed.passes; stops_stay = omega (arith, a, b, c); faults_stay = omega (arith, x, y, z) }

  pub is_set : (calls pick : ℕ) (w : Write) (ws : List Write) (old stopped : Journal (FuseDisk D)) → AreFresh st old → StopsNext state images calls pick (w ∷ ws) old stopped → IsSet state calls w old stopped
  is_set calls pick w ws old stopped fresh h = set_at calls pick (device_of w) old stopped fresh h
