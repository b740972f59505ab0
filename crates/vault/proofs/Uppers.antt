-- What layers above a vault need of it, in lists of payloads.
use Rattle.std.proofs.Common.{◌≡◌, ◌≤◌, ℕ, List, refl, sym, subst, arith}
use Rattle.disk_trait.specs.Image.{IsImage, settled}
use Rattle.disk_trait.specs.Calls.{DiskState, Elapses}
use Rattle.disk_trait.proofs.Images.{settled_only}
use Rattle.disk_trait.proofs.Moments.{goes_on, leaves_then, leaves_weaker}
use Rattle.vault.specs.File.{StandsFor, StandsForOne}
use Rattle.vault.specs.Standing.{payloads, IsSound, IsOpened, IsRestarted, HasRoom, Leaves}
use Rattle.vault.specs.declared.vault.Vault.{Vault}
use Rattle.vault.proofs.Repairs.{closed_stands}
use Rattle.vault.proofs.Quiet.{still}

module _ {D : Type 0} (state : D → DiskState) where
  -- an opened vault's file stands for its payloads
  pub opened_sound : (vault : Vault D) → IsOpened state vault → IsSound state vault
  opened_sound vault o = closed_stands (state vault.disk).seen (payloads state vault) o.file o.looked.ends.front.short

  -- room for more is room for less
  pub less_room : (vault : Vault D) (openings appends bytes fewer less few : ℕ) → fewer ≤ openings → less ≤ appends → few ≤ bytes → HasRoom state vault openings appends bytes
      → HasRoom state vault fewer less few
  less_room vault openings appends bytes fewer less few a b c r = record {
    len = omega (arith, r.len);
    fits = omega (arith, r.fits);
    calls_left = omega (arith, r.calls_left);
    bytes_left = omega (arith, r.bytes_left);
    frame = λ some. omega (arith, r.frame (omega arith));
    index = omega (arith, r.index);
  }

  module _ (images : D → ℕ → List ℕ → Type 0) where
    -- one run, and then another
    pub runs_then : (old mid new : Vault D) (P Q S : List (List ℕ) → Type 0) → Leaves state images old mid P → Leaves state images mid new Q
        → ((list : List (List ℕ)) → P list → S list) → ((list : List (List ℕ)) → Q list → S list) → Leaves state images old new S
    runs_then old mid new P Q S first second from_first from_second =
        leaves_then state images old.disk mid.disk new.disk (StandsForOne P) (StandsForOne Q) (StandsForOne S) first second
        (λ image left. (left.0, left.1, from_first left.0 left.2))
        (λ image left. (left.0, left.1, from_second left.0 left.2))

    pub runs_weaker : (old new : Vault D) (P S : List (List ℕ) → Type 0) → Leaves state images old new P → ((list : List (List ℕ)) → P list → S list) → Leaves state images old new S
    runs_weaker old new P S run to = leaves_weaker state images old.disk new.disk (StandsForOne P) (StandsForOne S) run (λ image left. (left.0, left.1, to left.0 left.2))

    -- a crash of an opened vault leaves its payloads
    pub opened_leaves : ((disk : D) (image : List ℕ) → images disk (state disk).moment image → IsImage (state disk).pending image) → (vault : Vault D) → IsOpened state vault
        → Leaves state images vault vault (λ list. list ≡ payloads state vault)
    opened_leaves only_now vault o = still state images only_now vault.disk o.looked.synced (StandsForOne (λ list. list ≡ payloads state vault)) (payloads state vault, opened_sound vault o, refl)

    -- what was promised of each crash holds of the payloads after a restart
    pub restarted : ((disk : D) (t : ℕ) (image : List ℕ) → t ≤ (state disk).moment → IsImage (state disk).pending image → images disk t image) → (old mid new : Vault D) (R : List (List ℕ) → Type 0)
        → Leaves state images old mid R → IsRestarted state mid new → R (payloads state new) × IsSound state new
    restarted counts_now old mid new R run image =
        let left : StandsForOne R (state new.disk).seen = run.each (state new.disk).seen (counts_now mid.disk (state old.disk).moment (state new.disk).seen run.later image) in
        let list : payloads state new ≡ left.0 = left.1.records in
        (subst R (sym list) left.2, subst (StandsFor (state new.disk).seen) (sym list) left.1)

    -- and of each crash from then on
    pub restarted_leaves : ((disk : D) (t : ℕ) (image : List ℕ) → t ≤ (state disk).moment → IsImage (state disk).pending image → images disk t image)
        → (old mid new : Vault D) (R : List (List ℕ) → Type 0) → Leaves state images old mid R → IsRestarted state mid new → (state new.disk).pending ≡ settled (state new.disk).seen
        → Elapses (state mid.disk) (state new.disk) (images mid.disk) (images new.disk) → Leaves state images old new R
    restarted_leaves counts_now old mid new R run image synced time =
        let left : StandsForOne R (state new.disk).seen = run.each (state new.disk).seen (counts_now mid.disk (state old.disk).moment (state new.disk).seen run.later image) in
        goes_on state images old.disk mid.disk new.disk (StandsForOne R) run time
        (λ image is. subst (StandsForOne R) (sym (settled_only (state new.disk).seen image (subst (λ p. IsImage p image) synced is))) left)
