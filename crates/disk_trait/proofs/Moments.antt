-- How a run of calls goes on.
use Rattle.std.proofs.Common.{inl, inr, ⊎_elim, ℕ, List, arith}
use Rattle.disk_trait.specs.Image.{Pending, IsImage, LeavesLess}
use Rattle.disk_trait.specs.Calls.{DiskState, Elapses, LeavesOnly}

module _ {D : Type 0} (state : D → DiskState) (images : D → ℕ → List ℕ → Type 0) where
  -- before the first call
  pub started : (old : D) (P : List ℕ → Type 0) → ((image : List ℕ) → images old (state old).moment image → P image) → LeavesOnly state images old old P
  started old P here = record { later = omega arith; each = here; before = λ t image le left. inl left }

  -- one call more, after which a crash leaves what has P
  pub goes_on : (old mid new : D) (P : List ℕ → Type 0) → LeavesOnly state images old mid P → Elapses (state mid) (state new) (images mid) (images new)
      → ((image : List ℕ) → IsImage (state new).pending image → P image) → LeavesOnly state images old new P
  goes_on old mid new P so_far time here = record {
    later = omega (arith, so_far.later, time.later);
    each = λ image left. ⊎_elim (so_far.each image) (here image) (time.nothing_else (state old).moment image so_far.later left);
    before = λ t image le left. ⊎_elim (so_far.before t image le) (λ now. inr (here image now)) (time.nothing_else t image (omega (arith, le, so_far.later)) left);
  }

  -- one run, and then another
  pub leaves_then : (old mid new : D) (P Q S : List ℕ → Type 0) → LeavesOnly state images old mid P → LeavesOnly state images mid new Q
      → ((image : List ℕ) → P image → S image) → ((image : List ℕ) → Q image → S image) → LeavesOnly state images old new S
  leaves_then old mid new P Q S first second from_first from_second = record {
    later = omega (arith, first.later, second.later);
    each = λ image left. ⊎_elim (λ early. from_first image (first.each image early)) (from_second image) (second.before (state old).moment image first.later left);
    before = λ t image le left. ⊎_elim (λ early. ⊎_elim inl (λ p. inr (from_first image p)) (first.before t image le early)) (λ q. inr (from_second image q)) (second.before t image (omega (arith, le, first.later)) left);
  }

  pub leaves_weaker : (old new : D) (P S : List ℕ → Type 0) → LeavesOnly state images old new P → ((image : List ℕ) → P image → S image) → LeavesOnly state images old new S
  leaves_weaker old new P S run to = record {
    later = run.later;
    each = λ image left. to image (run.each image left);
    before = λ t image le left. ⊎_elim inl (λ p. inr (to image p)) (run.before t image le left);
  }

  -- a write or a cut, and a sync
  pub two_calls : ((disk : D) (image : List ℕ) → images disk (state disk).moment image → IsImage (state disk).pending image) → (old mid new : D) (limit : Pending)
      → LeavesLess (state old).pending limit
      → Elapses (state old) (state mid) (images old) (images mid) → LeavesLess (state mid).pending limit
      → Elapses (state mid) (state new) (images mid) (images new) → LeavesLess (state new).pending (state mid).pending → LeavesOnly state images old new (IsImage limit)
  two_calls only_now old mid new limit at_first time at_mid time' at_last =
      let first = goes_on old old mid (IsImage limit) (started old (IsImage limit) (λ image left. at_first.each image (only_now old image left))) time at_mid.each in
      goes_on old mid new (IsImage limit) first time' (λ image is. at_mid.each image (at_last.each image is))
