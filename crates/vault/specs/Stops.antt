-- What is promised where a fuse is set.
use Rattle.std.specs.Prelude.{◌≡◌, ℕ, List}
use Rattle.disk_trait.specs.Calls.{DiskState}
use Rattle.disk_trait.specs.Fuse.{behind, inner_of, fused, IsArmed}
use Rattle.disk_trait.specs.declared.fuse.FuseDisk.{FuseDisk}
use Rattle.disk_trait.specs.declared.fuse.FuseSetting.TheVariants.{Unset}
use Rattle.vault.specs.declared.folded.Folded.{Folded}
use Rattle.vault.specs.Standing.{disk_of, IsUp, IsSynced, IsSound}
use Rattle.vault.specs.Folded as folded
use Rattle.vault.specs.Calls.{IsEither, Views, seen}

pub record Stops {D F V : Type 0} (state : D → DiskState) (images : D → ℕ → List ℕ → Type 0) (fits : F → List (List ℕ)
    → Type 0) (has_spare : F → ℕ → ℕ → Type 0) (view : List (List ℕ) → V) (calls count : ℕ)
    (old new : Folded (FuseDisk D) F) : Type 0 where
  -- so many calls pass, and so many bytes of the write after them
  pub armed : IsArmed calls count (behind state (disk_of old.vault)) (behind state (disk_of new.vault))
  pub stays : folded.Stays (behind state) fits has_spare old new
  pub any_moment : IsUp old.vault → IsSynced (behind state) old.vault → IsSound (behind state) old.vault
      → Views (behind state) (λ f. images (inner_of f)) view old new (λ here. here ≡ seen (behind state) view old)

-- The fuse is unset and has stopped nothing, and all else is as it was.
pub record Renews {D F V : Type 0} (state : D → DiskState) (images : D → ℕ → List ℕ → Type 0) (fits : F → List (List ℕ)
    → Type 0) (has_spare : F → ℕ → ℕ → Type 0) (view : List (List ℕ) → V)
    (old new : Folded (FuseDisk D) F) : Type 0 where
  pub inner : inner_of (disk_of new.vault) ≡ inner_of (disk_of old.vault)
  pub fuse : behind state (disk_of new.vault) ≡ fused (state (inner_of (disk_of old.vault))) Unset 0
  pub stays : folded.Stays (behind state) fits has_spare old new
  -- what was promised of each crash since an earlier moment still is
  pub left : (start : Folded (FuseDisk D) F) (a b : V)
      → Views (behind state) (λ f. images (inner_of f)) view start old (IsEither a b)
      → Views (behind state) (λ f. images (inner_of f)) view start new (IsEither a b)
