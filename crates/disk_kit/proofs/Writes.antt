-- What a write, a cut and a sync make of the bytes that are held, and the way back.
use Rattle.std.proofs.Common.{◌≡◌, ◌⊎◌, inl, inr, ℕ, ◌+◌, ◌-◌, ◌<◌, ◌≤◌, max, rules, false, List, ◌++◌, length, take, drop, slice_index, refl, ◌∙◌, arith}
use Rattle.std.proofs.lemmas.List.{same_lists, places}
use Rattle.std.proofs.lemmas.Bool.Decides.{nat_tests}
use Rattle.disk_trait.specs.Image.{Pending, IsImage, is_loose, settled, touched, shortened, overwritten}
use Rattle.disk_kit.specs.Record.{covered}

-- with the bytes that it overwrote a write is undone
pub undo_write : (bytes more : List ℕ) (at : ℕ) → at ≤ length bytes
    → take at (overwritten bytes at more) ++ (covered at (length more) bytes ++ drop (at + length more) (overwritten bytes at more)) ≡ bytes
undo_write bytes more at le =
    same_lists _ bytes (search (arith, rules, places)) (λ k d lt. grind (arith, places))

pub file_write : (bytes more : List ℕ) (at len : ℕ) → at ≤ len → len ≤ length bytes → take (max len (at + length more)) (overwritten bytes at more) ≡ overwritten (take len bytes) at more
file_write bytes more at len le within =
    same_lists _ _ (search (arith, rules, places)) (λ k d lt. grind (arith, places))

pub within_write : (bytes more : List ℕ) (at len : ℕ) → at ≤ len → len ≤ length bytes → max len (at + length more) ≤ length (overwritten bytes at more)
within_write bytes more at len le within = grind (arith, places)

pub image_write : (p : Pending) (bytes more : List ℕ) (at : ℕ) → IsImage p bytes → at ≤ length bytes → IsImage (touched at (length more) p) (overwritten bytes at more)
image_write p bytes more at is le =
    let long : length (overwritten bytes at more) ≡ at + (length more + (length bytes - (at + length more))) = search (rules, places) in
    record {
      no_shorter = omega (arith, is.no_shorter, long);
      no_longer = omega (arith, is.no_longer, long);
      stays = λ k lt tight. same k lt tight ∙ is.stays k lt (tight_of k tight);
    }
  where
    tight_of : (k : ℕ) → is_loose (touched at (length more) p).ranges k ≡ false → is_loose p.ranges k ≡ false
    tight_of k tight = grind (arith, nat_tests)

    outside : (k : ℕ) → is_loose (touched at (length more) p).ranges k ≡ false → (k < at) ⊎ (at + length more ≤ k)
    outside k tight = grind (arith, nat_tests)

    same : (k : ℕ) → k < p.least → is_loose (touched at (length more) p).ranges k ≡ false → slice_index (overwritten bytes at more) k ≡ slice_index bytes k
    same k lt tight = elim (outside k tight) [
      | inl before ↦ grind (arith, places)
      | inr behind ↦ grind (arith, places)
    ]

pub file_cut : (bytes : List ℕ) (len len' : ℕ) → len' ≤ len → take len' (take len bytes) ≡ take len' bytes
file_cut bytes len len' le = same_lists _ _ (search (arith, rules, places)) (λ k d lt. grind (arith, places))

pub image_cut : (p : Pending) (bytes : List ℕ) (len : ℕ) → IsImage p bytes → len ≤ length bytes → IsImage (shortened len p) (take len bytes)
image_cut p bytes len is le =
    let long : length (take len bytes) ≡ len = search (rules, places) in
    record {
      no_shorter = omega (arith, is.no_shorter, long);
      no_longer = omega (arith, is.no_longer, long);
      stays = λ k lt tight. same k (omega arith) ∙ is.stays k (omega arith) tight;
    }
  where
    same : (k : ℕ) → k < len → slice_index (take len bytes) k ≡ slice_index bytes k
    same k lt = grind (arith, places)

pub image_settled : (bytes : List ℕ) → IsImage (settled bytes) bytes
image_settled bytes = record { no_shorter = omega arith; no_longer = omega arith; stays = λ k lt tight. refl }
