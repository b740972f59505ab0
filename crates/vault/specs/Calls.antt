-- What each call promises of a vault and of what is kept in memory of its payloads: said once, for all that is built on
-- one. `view` is what its payloads are read as, and `fault` names the vault's faults as the caller's own.
use Rattle.std.specs.Prelude.{◌≡◌, ◌⊎◌, ◌↔◌, ℕ, ◌+◌, false, List, [], Result, Ok, Err, OnOk, OnErr, IfErr, IsErrOf}
use Rattle.disk_trait.specs.Calls.{DiskState, IsCounted}
use Rattle.vault.specs.declared.fault.VaultFault.{VaultFault}
use Rattle.vault.specs.declared.fault.VaultFault.TheVariants.{Disk, Down, Memory}
use Rattle.vault.specs.declared.vault.Vault.{Vault}
use Rattle.vault.specs.declared.folded.Folded.{Folded}
use Rattle.vault.specs.Standing.{payloads, faults, stops, disk_of, IsDown, IsUp, IsSound, IsSynced, IsBlank, Leaves}
use Rattle.vault.specs.Standing.{SameFuse, Burns, StopsWithin}
use Rattle.vault.specs.Folded.{IsLookedAt, IsOpened, HasRoom, Stays}

-- one of the two
abbrev pub IsEither : {X : Type 0} → X → X → X → Type 0
IsEither before after here = (here ≡ before) ⊎ (here ≡ after)

-- the names of the three faults are three
pub record AreApart {E : Type 0} (fault : VaultFault → E) : Type 0 where
  pub down : fault Disk ≡ fault Down → ⊥
  pub memory : fault Memory ≡ fault Down → ⊥
  pub disk : fault Memory ≡ fault Disk → ⊥

-- Why a call was refused, and what it left. The object as a whole was `before`, and is `after`.
pub record Refuses {X D T E : Type 0} (state : D → DiskState) (fault : VaultFault → E) (old new : Vault D)
    (before after : X) (result : Result T E) : Type 0 where
  pub down : IsErrOf result (fault Down) ↔ IsDown old
  pub unchanged : IsErrOf result (fault Down) → after ≡ before
  pub disk : IsErrOf result (fault Disk) → IsDown new
  pub cause : IsCounted (fault Disk) (faults state old) (faults state new) result

-- no fault but the vault's
abbrev pub RefusesOnly : {T E : Type 0} → (VaultFault → E) → Result T E → Type 0
RefusesOnly fault result = IfErr result (λ e. (cause : VaultFault) × (e ≡ fault cause))

-- at every moment since the old one a crash leaves payloads whose view has R
abbrev pub Views : {D F V : Type 0} → (D → DiskState) → (D → ℕ → List ℕ → Type 0) → (List (List ℕ) → V) → Folded D F
    → Folded D F → (V → Type 0) → Type 0
Views state images view old new R = Leaves state images old.vault new.vault (λ list. R (view list))

abbrev pub seen : {D F V : Type 0} → (D → DiskState) → (List (List ℕ) → V) → Folded D F → V
seen state view folded = view (payloads state folded.vault)

-- A restart. What is held is known once it is looked at.
pub record Restarts {D F V : Type 0} (state : D → DiskState) (images : D → ℕ → List ℕ → Type 0) (view : List (List ℕ)
    → V) (old new : Folded D F) : Type 0 where
  pub up : IsUp new.vault
  pub synced : IsSynced state new.vault
  pub same : IsUp old.vault → IsSynced state old.vault → seen state view new ≡ seen state view old
  -- What was promised of each crash since an earlier moment holds of what is there now, and of each crash from then on.
  pub left : (start : Folded D F) (a b : V) → Views state images view start old (IsEither a b)
      → IsEither a b (seen state view new)
  pub sound : (start : Folded D F) (a b : V) → Views state images view start old (IsEither a b)
      → IsSound state new.vault
  pub since : (start : Folded D F) (a b : V) → Views state images view start old (IsEither a b)
      → Views state images view start new (IsEither a b)
  pub faults_stay : faults state new.vault ≡ faults state old.vault
  pub stops_stay : stops state new.vault ≡ stops state old.vault
  pub unset : (state (disk_of new.vault)).is_armed ≡ false

module _ {D F V E : Type 0} (state : D → DiskState) (images : D → ℕ → List ℕ → Type 0) (fits : F → List (List ℕ)
    → Type 0) (has_spare : F → ℕ → ℕ → Type 0) (view : List (List ℕ) → V) (fault : VaultFault → E) where
  -- a format: afterwards there is no payload
  pub record Formats {X : Type 0} (old new : Folded D F) (before after : X)
      (result : Result (Unit {0}) E) : Type 0 where
    pub opened : OnOk result (IsOpened state fits new)
    pub empty : OnOk result (seen state view new ≡ view [])
    pub durable : OnOk result (Views state images view new new (λ here. here ≡ view []))
    -- a crash inside the format of a blank file leaves no payload
    pub blank : IsUp old.vault → IsBlank state old.vault → Views state images view old new (λ here. here ≡ view [])
    pub room : OnOk result (HasRoom state has_spare new 1 0 0)
    pub memory : IsErrOf result (fault Memory) → Stays state fits has_spare old new
    pub fuse : IsUp old.vault → Burns state 3 old.vault new.vault result
    pub refuses : Refuses state fault old.vault new.vault before after result
    pub only : RefusesOnly fault result

  -- a look: it writes nothing
  pub record Looks {X : Type 0} (old new : Folded D F) (before after : X) (result : Result (Unit {0}) E) : Type 0 where
    pub looked : OnOk result (IsLookedAt state fits new)
    pub same : OnOk result (seen state view new ≡ seen state view old)
    pub sound : OnOk result (IsSound state old.vault → IsSound state new.vault)
    pub room : OnOk result (HasRoom state has_spare new 1 0 0)
    pub any_moment : IsUp old.vault → IsSound state old.vault
        → Views state images view old new (λ here. here ≡ seen state view old)
    -- What was looked at before stays, with what was opened and reserved. What wasn't is still to be looked at.
    pub memory : IsErrOf result (fault Memory) → IsLookedAt state fits old → Stays state fits has_spare old new
    pub memory_same : IsErrOf result (fault Memory) → seen state view new ≡ seen state view old
    pub memory_synced : IsErrOf result (fault Memory) → IsSynced state new.vault
    pub memory_up : IsErrOf result (fault Memory) → IsUp new.vault
    pub memory_sound : IsErrOf result (fault Memory) → IsSound state old.vault → IsSound state new.vault
    pub fuse : SameFuse state old.vault new.vault
    pub refuses : Refuses state fault old.vault new.vault before after result
    pub only : RefusesOnly fault result

  -- what an append left that was cut short is taken away
  pub record OpensWrite {X : Type 0} (old new : Folded D F) (before after : X)
      (result : Result (Unit {0}) E) : Type 0 where
    pub opened : OnOk result (IsOpened state fits new)
    pub same : OnOk result (seen state view new ≡ seen state view old)
    pub durable : OnOk result (Views state images view new new (λ here. here ≡ seen state view old))
    pub room : OnOk result ((openings appends bytes : ℕ) → HasRoom state has_spare old (openings + 1) appends bytes
        → HasRoom state has_spare new openings appends bytes)
    pub any_moment : IsUp old.vault → IsSound state old.vault
        → Views state images view old new (λ here. here ≡ seen state view old)
    pub failed : OnErr result (IsDown new.vault)
    pub no_memory : IsErrOf result (fault Memory) → ⊥
    pub fuse : IsUp old.vault → Burns state 4 old.vault new.vault result
    pub refuses : Refuses state fault old.vault new.vault before after result
    pub only : RefusesOnly fault result

  -- room for so many appends, of so many bytes in all, and for one opening
  pub record Reserves {X : Type 0} (appends bytes : ℕ) (old new : Folded D F) (before after : X)
      (result : Result (Unit {0}) E) : Type 0 where
    pub room : OnOk result (HasRoom state has_spare new 1 appends bytes)
    pub stays : OnOk result (Stays state fits has_spare old new)
    pub any_moment : IsUp old.vault → IsSound state old.vault
        → Views state images view old new (λ here. here ≡ seen state view old)
    pub memory : IsErrOf result (fault Memory) → Stays state fits has_spare old new
    pub fuse : SameFuse state old.vault new.vault
    pub refuses : Refuses state fault old.vault new.vault before after result
    pub only : RefusesOnly fault result

  -- an append of so many bytes, after which the view is this one
  pub record Appends {X : Type 0} (bytes : ℕ) (added : V) (old new : Folded D F) (before after : X)
      (result : Result (Unit {0}) E) : Type 0 where
    pub opened : OnOk result (IsOpened state fits new)
    pub put : OnOk result (seen state view new ≡ added)
    pub durable : OnOk result (Views state images view new new (λ here. here ≡ added))
    pub room : OnOk result ((openings appends more : ℕ)
        → HasRoom state has_spare old openings (appends + 1) (more + bytes)
        → HasRoom state has_spare new openings appends more)
    -- a crash at any moment of the call leaves the view from before it, or the one after it
    pub any_moment : IsUp old.vault → Views state images view old new (IsEither (seen state view old) added)
    -- where a fuse stops one of the first two of its four calls, that from before it
    pub early : IsUp old.vault → StopsWithin state old.vault 2
        → Views state images view old new (λ here. here ≡ seen state view old)
    pub failed : OnErr result (IsDown new.vault)
    pub no_memory : IsErrOf result (fault Memory) → ⊥
    pub fuse : IsUp old.vault → Burns state 4 old.vault new.vault result
    pub refuses : Refuses state fault old.vault new.vault before after result
    pub only : RefusesOnly fault result

  -- a read of the disk
  pub record Reads {X T : Type 0} (old new : Folded D F) (before after : X) (result : Result T E) : Type 0 where
    pub stays : OnOk result (Stays state fits has_spare old new)
    pub any_moment : IsUp old.vault → IsSound state old.vault
        → Views state images view old new (λ here. here ≡ seen state view old)
    pub memory : IsErrOf result (fault Memory) → Stays state fits has_spare old new
    pub fuse : SameFuse state old.vault new.vault
    pub refuses : Refuses state fault old.vault new.vault before after result

-- a vault's answer, with its fault named as the caller's own
abbrev pub answer_as : {T E : Type 0} → (VaultFault → E) → Result T VaultFault → Result T E
answer_as fault (Ok x) = Ok x
answer_as fault (Err e) = Err (fault e)
