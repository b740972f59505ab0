-- While a blank file is wiped, it stays short.
use Rattle.std.proofs.Common.{◌≡◌, inl, inr, ℕ, ◌<◌, ◌≤◌, List, [], ◌++◌, length, get_or, take, refl, subst, arith, length-append}
use Rattle.std.proofs.Common.{length-take}
use Rattle.std.proofs.lemmas.List.{places, length-replicate}
use Rattle.std.proofs.Math.ListN.{replicate}
use Rattle.std.proofs.lemmas.Bool.{cases_lt}
use Rattle.disk_trait.specs.Image.{Pending, IsImage, LeavesLess, settled, touched, shortened}
use Rattle.disk_trait.specs.Calls.{DiskState}
use Rattle.vault.specs.File.{StandsForOne}
use Rattle.vault.proofs.Lists.{stands_at}

abbrev pub IsShort : List ℕ → Type 0
IsShort image = length image ≤ 1

-- the synced bytes, and then zeros
abbrev long : Pending → List ℕ
long p = take p.greatest (p.synced ++ replicate p.greatest 0)

long_size : (p : Pending) → length (long p) ≡ p.greatest
long_size p = omega (arith, length-take p.greatest (p.synced ++ replicate p.greatest 0), length-append p.synced (replicate p.greatest 0), length-replicate {A = ℕ} p.greatest 0)

long_same : (p : Pending) (k : ℕ) → k < p.greatest → get_or (long p) k 0 ≡ get_or p.synced k 0
long_same p k lt = elim (cases_lt k (length p.synced)) [
  | inl there ↦ grind (arith, places)
  | inr past ↦ grind (arith, places, length-replicate {A = ℕ} p.greatest 0)
]

-- no image is longer, so no greater length was noted
greatest_within : (p : Pending) (some : List ℕ) (n : ℕ) → IsImage p some → ((image : List ℕ) → IsImage p image → length image ≤ n) → p.greatest ≤ n
greatest_within p some n there each =
    let is : IsImage p (long p) = record {
      no_shorter = omega (arith, long_size p, there.no_shorter, there.no_longer);
      no_longer = omega (arith, long_size p);
      stays = λ k lt tight. long_same p k (omega (arith, there.no_shorter, there.no_longer));
    } in
    omega (arith, each (long p) is, long_size p)

-- a file that is blank stands for no payload
pub short_stands : (image : List ℕ) → IsShort image → StandsForOne (λ list. list ≡ []) image
short_stands image short = ([], stands_at image 0 [] (record { size = refl; front = refl; more = λ lt. absurd (omega arith); short = tt }) (λ _. omega arith), refl)

module _ {D : Type 0} (state : D → DiskState) (images : D → ℕ → List ℕ → Type 0) (seen_left : (disk : D) → IsImage (state disk).pending (state disk).seen) where
  -- all that a crash may leave now is short
  abbrev pub IsShortNow : D → Type 0
  IsShortNow disk = (image : List ℕ) → IsImage (state disk).pending image → IsShort image

  pub short_settled : (disk : D) → (state disk).pending ≡ settled (state disk).seen → length (state disk).seen ≤ 1 → IsShortNow disk
  short_settled disk synced short image is = let at = subst (λ p. IsImage p image) synced is in omega (arith, at.no_longer)

  pub short_cut : (old new : D) → IsShortNow old → LeavesLess (state new).pending (shortened 0 (state old).pending) → IsShortNow new
  short_cut old new short less image is =
      let most = greatest_within (state old).pending (state old).seen 1 (seen_left old) short in
      let at = less.each image is in
      omega (arith, at.no_longer, most)

  pub short_write : (old new : D) → IsShortNow old → LeavesLess (state new).pending (touched 0 1 (state old).pending) → IsShortNow new
  short_write old new short less image is =
      let most = greatest_within (state old).pending (state old).seen 1 (seen_left old) short in
      let at = less.each image is in
      omega (arith, at.no_longer, most)

  pub short_less : (old new : D) → IsShortNow old → LeavesLess (state new).pending (state old).pending → IsShortNow new
  short_less old new short less image is = short image (less.each image is)
