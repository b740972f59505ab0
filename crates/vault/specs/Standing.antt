-- A vault between calls, in lists of payloads. Nothing above a vault needs more than these words.
use Rattle.std.specs.Prelude.{◌≡◌, ℕ, ◌+◌, ◌-◌, ◌*◌, ◌^◌, ◌<◌, ◌≤◌, min, false, true, List, [], ◌∷◌, ◌++◌, length}
use Rattle.std.specs.Prelude.{Result}
use Rattle.std.specs.Vec.{vec_capacity, vec_len}
use Rattle.disk_trait.specs.Image.{IsImage, settled}
use Rattle.disk_trait.specs.Calls.{DiskState, LeavesOnly}
use Rattle.disk_trait.specs.Calls as calls
use Rattle.vault.specs.declared.vault.Vault.{Vault}
use Rattle.vault.specs.Limit.{payload_most}
use Rattle.vault.specs.File.{payloads_of, records, places_from, EndsAt, StandsFor, StandsForOne, FindsFirst}

-- The payloads of a vault, in the order in which they were appended. While a vault is down they are those that
-- stand there by chance.
abbrev pub payloads : {D : Type 0} → (D → DiskState) → Vault D → List (List ℕ)
payloads state vault = payloads_of (state vault.disk).seen

-- how often its disk has failed, the stops of a fuse among them
abbrev pub faults : {D : Type 0} → (D → DiskState) → Vault D → ℕ
faults state vault = (state vault.disk).faults

-- how many of these were stops of a fuse
abbrev pub stops : {D : Type 0} → (D → DiskState) → Vault D → ℕ
stops state vault = (state vault.disk).stops

-- how often a payload was read
abbrev pub gets : {D : Type 0} → Vault D → ℕ
gets vault = vault.gets

-- one more, where the count isn't at its end
abbrev pub one_more : ℕ → ℕ
one_more count = min (count + 1) (2 ^ 64 - 1)

abbrev pub disk_of : {D : Type 0} → Vault D → D
disk_of vault = vault.disk

-- The disk has failed, and has not been restarted since.
abbrev pub IsDown : {D : Type 0} → Vault D → Type 0
IsDown vault = vault.is_down ≡ true

abbrev pub IsUp : {D : Type 0} → Vault D → Type 0
IsUp vault = vault.is_down ≡ false

-- Its file stands for its payloads, and not for them by chance.
abbrev pub IsSound : {D : Type 0} → (D → DiskState) → Vault D → Type 0
IsSound state vault = StandsFor (state vault.disk).seen (payloads_of (state vault.disk).seen)

-- Unless it is down, a crash leaves the file as it is.
abbrev pub IsSynced : {D : Type 0} → (D → DiskState) → Vault D → Type 0
IsSynced state vault = vault.is_down ≡ false → (state vault.disk).pending ≡ settled (state vault.disk).seen

-- Its file is empty, or a gate and nothing more, and all on the disk.
pub record IsBlank {D : Type 0} (state : D → DiskState) (vault : Vault D) : Type 0 where
  pub synced : (state vault.disk).pending ≡ settled (state vault.disk).seen
  pub short : length (state vault.disk).seen ≤ 1

-- formatted, or looked at since the last restart
pub record IsLookedAt {D : Type 0} (state : D → DiskState) (vault : Vault D) : Type 0 where
  pub up : vault.is_down ≡ false
  pub synced : (state vault.disk).pending ≡ settled (state vault.disk).seen
  pub ends : EndsAt (state vault.disk).seen vault.gate (payloads_of (state vault.disk).seen)
  pub within : vault.gate ≤ length (state vault.disk).seen
  pub small : vault.gate < 2 ^ 62
  pub places : vault.places.items ≡ places_from 0 (payloads_of (state vault.disk).seen)

-- ready for appends
pub record IsOpened {D : Type 0} (state : D → DiskState) (vault : Vault D) : Type 0 where
  pub looked : IsLookedAt state vault
  pub file : (state vault.disk).seen ≡ records (payloads_of (state vault.disk).seen) ++ 0 ∷ []
  pub gate : length (state vault.disk).seen ≡ vault.gate + 1

-- There is room for so many openings, and for so many appends of so many bytes in all.
pub record HasRoom {D : Type 0} (state : D → DiskState) (vault : Vault D) (openings appends bytes : ℕ) : Type 0 where
  pub len : vault.gate + 1 + 5 * appends + bytes ≤ (state vault.disk).room
  pub fits : vault.gate + 1 + 5 * appends + bytes ≤ 2 ^ 62
  pub calls_left : 4 * (openings + appends) ≤ (state vault.disk).calls
  pub bytes_left : openings + 6 * appends + bytes ≤ (state vault.disk).bytes
  pub frame : 0 < appends → 5 + min bytes payload_most ≤ vec_capacity vault.frame
  pub index : vec_len vault.places + appends ≤ vec_capacity vault.places

-- At every moment since the old state a crash leaves a file that stands for a list with R.
abbrev pub Leaves : {D : Type 0} → (D → DiskState) → (D → ℕ → List ℕ → Type 0) → Vault D → Vault D
    → (List (List ℕ) → Type 0) → Type 0
Leaves state images old new R = LeavesOnly state images old.disk new.disk (StandsForOne R)

-- At every moment since the old state these payloads are found in what a crash leaves, and maybe more.
abbrev pub LeavesFound : {D : Type 0} → (D → DiskState) → (D → ℕ → List ℕ → Type 0) → Vault D → Vault D → List (List ℕ)
    → Type 0
LeavesFound state images old new list = LeavesOnly state images old.disk new.disk (FindsFirst list)

-- The payloads are those that a crash has left.
abbrev pub IsRestarted : {D : Type 0} → (D → DiskState) → Vault D → Vault D → Type 0
IsRestarted state old new = IsImage (state old.disk).pending (state new.disk).seen

-- the fuse is as it was
pub record SameFuse {D : Type 0} (state : D → DiskState) (old new : Vault D) : Type 0 where
  pub stops : (state new.disk).stops ≡ (state old.disk).stops
  pub is_armed : (state new.disk).is_armed ≡ (state old.disk).is_armed
  pub passes : (state new.disk).passes ≡ (state old.disk).passes
  pub pick : (state new.disk).pick ≡ (state old.disk).pick

-- Nothing has changed but room that was added.
pub record Stays {D : Type 0} (state : D → DiskState) (old new : Vault D) : Type 0 where
  pub same : payloads state new ≡ payloads state old
  pub down : new.is_down ≡ old.is_down
  pub synced : IsSynced state old → IsSynced state new
  pub looked : IsLookedAt state old → IsLookedAt state new
  pub opened : IsOpened state old → IsOpened state new
  pub sound : IsSound state old → IsSound state new
  pub room : (openings appends bytes : ℕ) → HasRoom state old openings appends bytes
      → HasRoom state new openings appends bytes

-- What a fuse does to a run of so many calls.
abbrev pub Burns : {D T E : Type 0} → (D → DiskState) → ℕ → Vault D → Vault D → Result T E → Type 0
Burns state count old new result = calls.Burns count (state old.disk) (state new.disk) result

-- A set fuse lets fewer calls pass, and then stops the next.
abbrev pub StopsWithin : {D : Type 0} → (D → DiskState) → Vault D → ℕ → Type 0
StopsWithin state vault calls = ((state vault.disk).is_armed ≡ true) × ((state vault.disk).passes < calls)
