-- A folded vault between calls. What it holds and how it stands is said of its vault; these words say besides that
-- what is kept in memory fits the payloads.
use Rattle.std.specs.Prelude.{◌≡◌, ℕ, ◌<◌, ◌≤◌, min, List}
use Rattle.std.specs.Vec.{vec_capacity}
use Rattle.disk_trait.specs.Calls.{DiskState}
use Rattle.vault.specs.Limit.{payload_most}
use Rattle.vault.specs.declared.vault.Vault.{Vault}
use Rattle.vault.specs.Standing.{payloads, IsSynced, IsSound}
use Rattle.vault.specs.Standing as vaults
use Rattle.vault.specs.declared.folded.Folded.{Folded}

abbrev pub vault_of : {D F : Type 0} → Folded D F → Vault D
vault_of folded = folded.vault

abbrev pub memory_of : {D F : Type 0} → Folded D F → F
memory_of folded = folded.memory

-- formatted, or looked at since the last restart
pub record IsLookedAt {D F : Type 0} (state : D → DiskState) (fits : F → List (List ℕ) → Type 0)
    (folded : Folded D F) : Type 0 where
  pub vault : vaults.IsLookedAt state folded.vault
  pub memory : fits folded.memory (payloads state folded.vault)

-- ready for appends
pub record IsOpened {D F : Type 0} (state : D → DiskState) (fits : F → List (List ℕ) → Type 0)
    (folded : Folded D F) : Type 0 where
  pub vault : vaults.IsOpened state folded.vault
  pub memory : fits folded.memory (payloads state folded.vault)

-- There is room for so many openings, and for so many appends of so many bytes in all.
pub record HasRoom {D F : Type 0} (state : D → DiskState) (has_spare : F → ℕ → ℕ → Type 0) (folded : Folded D F)
    (openings appends bytes : ℕ) : Type 0 where
  pub vault : vaults.HasRoom state folded.vault openings appends bytes
  pub memory : 0 < appends → has_spare folded.memory appends bytes
  pub payload : 0 < appends → min bytes payload_most ≤ vec_capacity folded.payload

-- Nothing has changed but room that was added.
pub record Stays {D F : Type 0} (state : D → DiskState) (fits : F → List (List ℕ) → Type 0) (has_spare : F → ℕ → ℕ
    → Type 0) (old new : Folded D F) : Type 0 where
  pub same : payloads state new.vault ≡ payloads state old.vault
  pub down : new.vault.is_down ≡ old.vault.is_down
  pub synced : IsSynced state old.vault → IsSynced state new.vault
  pub looked : IsLookedAt state fits old → IsLookedAt state fits new
  pub opened : IsOpened state fits old → IsOpened state fits new
  pub sound : IsSound state old.vault → IsSound state new.vault
  pub room : (openings appends bytes : ℕ) → HasRoom state has_spare old openings appends bytes
      → HasRoom state has_spare new openings appends bytes
