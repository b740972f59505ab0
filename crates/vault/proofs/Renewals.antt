-- A fuse that is renewed leaves what was promised of each crash.
use Rattle.std.proofs.Common.{◌≡◌, ◌≤◌, ℕ, List, sym, subst}
use Rattle.disk_trait.specs.Calls.{DiskState}
use Rattle.disk_trait.specs.Fuse.{behind, inner_of}
use Rattle.disk_trait.specs.declared.fuse.FuseDisk.{FuseDisk}
use Rattle.vault.specs.declared.vault.Vault.{Vault}
use Rattle.vault.specs.declared.folded.Folded.{Folded}
use Rattle.vault.specs.Standing.{disk_of, Leaves}
use Rattle.vault.specs.Calls.{IsEither}
use Rattle.vault.specs.Stops.{Renews}

module _ {D : Type 0} (state : D → DiskState) (images : D → ℕ → List ℕ → Type 0) where
  -- the disk behind it is the same
  abbrev SameInner : Vault (FuseDisk D) → Vault (FuseDisk D) → Type 0
  SameInner old new = inner_of (disk_of new) ≡ inner_of (disk_of old)

  -- what a crash may leave since a moment, and the moment itself
  pub same_images : (old new : Vault (FuseDisk D)) → SameInner old new → (t : ℕ) (image : List ℕ) → images (inner_of (disk_of new)) t image → images (inner_of (disk_of old)) t image
  same_images old new same t image left = subst (λ (d : D). images d t image) same left

  pub same_moment : (old new : Vault (FuseDisk D)) → SameInner old new → (t : ℕ) → t ≤ (state (inner_of (disk_of old))).moment → t ≤ (state (inner_of (disk_of new))).moment
  same_moment old new same t le = subst (λ (d : D). t ≤ (state d).moment) (sym same) le

  pub renewed_leaves : (start old new : Vault (FuseDisk D)) (R : List (List ℕ) → Type 0) → SameInner old new → Leaves (behind state) (λ f. images (inner_of f)) start old R → Leaves (behind state) (λ f. images (inner_of f)) start new R
  renewed_leaves start old new R same run = record {
    later = same_moment old new same _ run.later;
    each = λ image left. run.each image (same_images old new same _ image left);
    before = λ t image le left. run.before t image le (same_images old new same t image left);
  }

  -- what is said of the payloads is said of what they are read as
  pub renews_as : {F V : Type 0} (fits : F → List (List ℕ) → Type 0) (has_spare : F → ℕ → ℕ → Type 0) (view : List (List ℕ) → V) (old new : Folded (FuseDisk D) F) → Renews state images fits has_spare (λ (list : List (List ℕ)). list) old new
      → Renews state images fits has_spare view old new
  renews_as fits has_spare view old new k = record {
    inner = k.inner;
    fuse = k.fuse;
    stays = k.stays;
    left = λ start a b run. renewed_leaves start.vault old.vault new.vault (λ list. IsEither a b (view list)) k.inner run;
  }
