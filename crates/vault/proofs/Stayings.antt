-- What stays while nothing is appended.
use Rattle.std.proofs.Common.{◌≡◌, ℕ, ◌≤◌, List, Result, Ok, Err, refl, sym, ◌∙◌, subst, arith}
use Rattle.std.specs.Vec.{vec_capacity}
use Rattle.disk_trait.specs.Image.{IsImage}
use Rattle.disk_trait.specs.Calls.{DiskState}
use Rattle.disk_trait.proofs.Images.{settled_only}
use Rattle.disk_trait.proofs.Moments.{started}
use Rattle.vault.specs.File.{StandsForOne}
use Rattle.vault.specs.declared.vault.Vault.{Vault}
use Rattle.vault.specs.Standing as vaults
use Rattle.vault.specs.declared.folded.Folded.{Folded}
use Rattle.vault.specs.Folded.{Stays}
use Rattle.vault.specs.Calls.{RefusesOnly}
use Rattle.vault.specs.declared.fault.VaultFault.{VaultFault}

module _ {D : Type 0} (state : D → DiskState) where
  pub vault_stays : (vault : Vault D) → vaults.Stays state vault vault
  vault_stays vault = record { same = refl; down = refl; synced = λ h. h; looked = λ h. h; opened = λ h. h; sound = λ h. h; room = λ o a b h. h }

  pub stays_then : (old mid new : Vault D) → vaults.Stays state old mid → vaults.Stays state mid new → vaults.Stays state old new
  stays_then old mid new first second = record {
    same = second.same ∙ first.same;
    down = second.down ∙ first.down;
    synced = λ h. second.synced (first.synced h);
    looked = λ h. second.looked (first.looked h);
    opened = λ h. second.opened (first.opened h);
    sound = λ h. second.sound (first.sound h);
    room = λ o a b h. second.room o a b (first.room o a b h);
  }

  pub same_fuse : (vault : Vault D) → vaults.SameFuse state vault vault
  same_fuse vault = record { stops = refl; is_armed = refl; passes = refl; pick = refl }

  pub same_fuse_then : (old mid new : Vault D) → vaults.SameFuse state old mid → vaults.SameFuse state mid new → vaults.SameFuse state old new
  same_fuse_then old mid new first second = record { stops = second.stops ∙ first.stops; is_armed = second.is_armed ∙ first.is_armed; passes = second.passes ∙ first.passes; pick = second.pick ∙ first.pick }

  -- a crash of a vault that was looked at leaves its payloads
  pub looked_leaves : (images : D → ℕ → List ℕ → Type 0) → ((disk : D) (image : List ℕ) → images disk (state disk).moment image → IsImage (state disk).pending image) → (vault : Vault D)
      → vaults.IsLookedAt state vault → vaults.IsSound state vault
      → vaults.Leaves state images vault vault (λ list. list ≡ vaults.payloads state vault)
  looked_leaves images only_now vault looked sound =
      let file = (state vault.disk).seen in
      let P : List ℕ → Type 0 = StandsForOne (λ list. list ≡ vaults.payloads state vault) in
      let here : P file = (vaults.payloads state vault, sound, refl) in
      started state images vault.disk P (λ image left. subst P (sym (settled_only file image (subst (λ q. IsImage q image) looked.synced (only_now vault.disk image left)))) here)

  module _ {F : Type 0} (fits : F → List (List ℕ) → Type 0) (has_spare : F → ℕ → ℕ → Type 0) where
    -- the vault stays, and what is kept in memory keeps what it fits and its room
    pub stays_with : (old new : Folded D F) → vaults.Stays state old.vault new.vault → ((list : List (List ℕ)) → fits old.memory list → fits new.memory list)
        → ((appends bytes : ℕ) → has_spare old.memory appends bytes → has_spare new.memory appends bytes) → vec_capacity old.payload ≤ vec_capacity new.payload → Stays state fits has_spare old new
    stays_with old new s fit spare capacity = record {
      same = s.same;
      down = s.down;
      synced = s.synced;
      looked = λ h. record { vault = s.looked h.vault; memory = subst (fits new.memory) (sym s.same) (fit (vaults.payloads state old.vault) h.memory) };
      opened = λ h. record { vault = s.opened h.vault; memory = subst (fits new.memory) (sym s.same) (fit (vaults.payloads state old.vault) h.memory) };
      sound = s.sound;
      room = λ o a b h. record { vault = s.room o a b h.vault; memory = λ some. spare a b (h.memory some); payload = λ some. omega (arith, h.payload some, capacity) };
    }

    -- what is kept in memory is as it was
    pub stays_alone : (old new : Folded D F) → vaults.Stays state old.vault new.vault → new.memory ≡ old.memory → new.payload ≡ old.payload → Stays state fits has_spare old new
    stays_alone old new s memory payload =
        stays_with old new s (λ list h. subst (λ (m : F). fits m list) (sym memory) h) (λ a b h. subst (λ (m : F). has_spare m a b) (sym memory) h) (omega (arith, payload_capacity))
      where
        payload_capacity : vec_capacity old.payload ≡ vec_capacity new.payload
        payload_capacity = cc

-- each fault of a vault is one of the vault's
pub only_own : {T : Type 0} → (r : Result T VaultFault) → RefusesOnly (λ (fault : VaultFault). fault) r
only_own (Ok x) = tt
only_own (Err e) = (e, refl)
