-- Which images are among which.
use Rattle.std.proofs.Common.{◌≡◌, ℕ, ◌+◌, ◌-◌, ◌<◌, ◌≤◌, min, List, length, get_or, take, drop, refl, ◌∙◌, arith, false, length-take, length-drop}
use Rattle.std.proofs.lemmas.List.{same_lists, get_or_default, places}
use Rattle.std.proofs.lemmas.Bool.Decides.{nat_tests}
use Rattle.disk_trait.specs.Image.{Pending, IsImage, LeavesLess, is_loose, settled, touched, shortened}

pub less_refl : (p : Pending) → LeavesLess p p
less_refl p = record { each = λ image is. is }

pub less_trans : (p q r : Pending) → LeavesLess p q → LeavesLess q r → LeavesLess p r
less_trans p q r a b = record { each = λ image is. b.each image (a.each image is) }

pub less_untouched : (at n : ℕ) (p : Pending) → LeavesLess p (touched at n p)
less_untouched at n p = record {
  each = λ image is. record {
    no_shorter = is.no_shorter;
    no_longer = omega (arith, is.no_longer);
    stays = λ k lt tight. is.stays k lt (tight_of k tight);
  };
}
  where
    tight_of : (k : ℕ) → is_loose (touched at n p).ranges k ≡ false → is_loose p.ranges k ≡ false
    tight_of k tight = grind (arith, nat_tests)

pub less_touched : (at n m : ℕ) (p : Pending) → n ≤ m → LeavesLess (touched at n p) (touched at m p)
less_touched at n m p le = record {
  each = λ image is. record {
    no_shorter = is.no_shorter;
    no_longer = omega (arith, is.no_longer);
    stays = λ k lt tight. is.stays k lt (tight_of k tight);
  };
}
  where
    tight_of : (k : ℕ) → is_loose (touched at m p).ranges k ≡ false → is_loose (touched at n p).ranges k ≡ false
    tight_of k tight = grind (arith, nat_tests)

pub less_shortened : (len : ℕ) (p : Pending) → LeavesLess p (shortened len p)
less_shortened len p = record {
  each = λ image is. record {
    no_shorter = omega (arith, is.no_shorter);
    no_longer = is.no_longer;
    stays = λ k lt tight. is.stays k (omega arith) tight;
  };
}

-- of a settled file a crash leaves what stands there
pub settled_only : (file image : List ℕ) → IsImage (settled file) image → image ≡ file
settled_only file image is =
    same_lists image file (omega (arith, is.no_shorter, is.no_longer)) (λ k d lt. rw (get_or_default image k d 0 lt) (is.stays k (omega (arith, lt, is.no_longer)) refl ∙ get_or_default file k 0 d (omega (arith, lt, is.no_longer))))

-- after a write: the front stands, and what lies behind
pub touched_front : (file image : List ℕ) (at n : ℕ) → at ≤ length file → IsImage (touched at n (settled file)) image → take at image ≡ take at file
touched_front file image at n le is =
    same_lists (take at image) (take at file) (rw (length-take, length-take) (omega (arith, is.no_shorter))) (λ k d lt. same k d (rw length-take at lt))
  where
    tight : (k : ℕ) → k < at → is_loose (touched at n (settled file)).ranges k ≡ false
    tight k lt = grind (arith, nat_tests)

    same : (k d : ℕ) → k < min at (length image) → get_or (take at image) k d ≡ get_or (take at file) k d
    same k d lt =
        let there : get_or image k 0 ≡ get_or file k 0 = is.stays k (omega arith) (tight k (omega arith)) in
        grind (arith, places)

pub touched_back : (file image : List ℕ) (at n : ℕ) → at + n ≤ length file → IsImage (touched at n (settled file)) image → drop (at + n) image ≡ drop (at + n) file
touched_back file image at n le is =
    same_lists (drop (at + n) image) (drop (at + n) file) (rw (length-drop, length-drop) (omega (arith, is.no_shorter, is.no_longer))) (λ k d lt. same k d (rw length-drop at lt))
  where
    tight : (k : ℕ) → at + n ≤ k → is_loose (touched at n (settled file)).ranges k ≡ false
    tight k le = grind (arith, nat_tests)

    same : (k d : ℕ) → k < length image - (at + n) → get_or (drop (at + n) image) k d ≡ get_or (drop (at + n) file) k d
    same k d lt =
        let in_file : at + n + k < length file = omega (arith, is.no_longer) in
        let there : get_or image (at + n + k) 0 ≡ get_or file (at + n + k) 0 = is.stays (at + n + k) in_file (tight (at + n + k) (omega arith)) in
        grind (arith, places)

pub length_touched : (file image : List ℕ) (at n : ℕ) → at + n ≤ length file → IsImage (touched at n (settled file)) image → length image ≡ length file
length_touched file image at n le is = omega (arith, is.no_shorter, is.no_longer)

-- after a cut: the front stands
pub shortened_front : (file image : List ℕ) (len : ℕ) → len ≤ length file → IsImage (shortened len (settled file)) image → take len image ≡ take len file
shortened_front file image len le is =
    same_lists (take len image) (take len file) (rw (length-take, length-take) (omega (arith, is.no_shorter))) (λ k d lt. same k d (rw length-take at lt))
  where
    same : (k d : ℕ) → k < min len (length image) → get_or (take len image) k d ≡ get_or (take len file) k d
    same k d lt =
        let there : get_or image k 0 ≡ get_or file k 0 = is.stays k (omega arith) refl in
        grind (arith, places)
