-- While nothing is written, a crash leaves what is there.
use Rattle.std.proofs.Common.{◌≡◌, ℕ, List, sym, ◌∙◌, subst}
use Rattle.disk_trait.specs.Image.{Pending, IsImage, settled}
use Rattle.disk_trait.specs.Calls.{DiskState, Elapses, SameFile, LeavesOnly}
use Rattle.disk_trait.proofs.Images.{settled_only}
use Rattle.disk_trait.proofs.Moments.{started, goes_on}

module _ {D : Type 0} (state : D → DiskState) (images : D → ℕ → List ℕ → Type 0) (only_now : (disk : D) (image : List ℕ) → images disk (state disk).moment image → IsImage (state disk).pending image) (old : D) (synced : (state old).pending ≡ settled (state old).seen) (P : List ℕ → Type 0) (here : P (state old).seen) where
  left_now : (p : Pending) → p ≡ settled (state old).seen → (image : List ℕ) → IsImage p image → P image
  left_now p is image at_p = subst P (sym (settled_only (state old).seen image (subst (λ q. IsImage q image) is at_p))) here

  -- no call at all
  pub still : LeavesOnly state images old old P
  still = started state images old P (λ image left. left_now (state old).pending synced image (only_now old image left))

  -- reads alone
  pub quiet : (new : D) → SameFile (state old) (state new) → Elapses (state old) (state new) (images old) (images new) → LeavesOnly state images old new P
  quiet new same time = goes_on state images old old new P still time (left_now (state new).pending (same.pending ∙ synced))
