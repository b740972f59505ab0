-- How many names a content has where each of its chunks has one.
use Rattle.std.proofs.Common.{◌≡◌, ℕ, zero, suc, ◌+◌, ◌<◌, ◌≤◌, true, false, List, [], ◌∷◌, length, drop, refl, ◌∙◌, ap, arith, length-append}
use Rattle.std.specs.Prelude.{◌==◌, ◌*◌, ◌-◌}
use Rattle.std.specs.Int.{div_ceil}
use Rattle.std.proofs.lemmas.Grind.{div_ceil_times}
use Rattle.std.proofs.lemmas.Bool.{and_parts, eqb-true}
use Rattle.std.proofs.lemmas.List.{length-drop}
use Rattle.std.proofs.lemmas.List.Sums.{sum_by-cons}
use Rattle.std.proofs.lemmas.Bool.Decides.{nat_tests}
use Rattle.std.proofs.Math.Nat.{lt_of_mul-lt-mul_right}
use Rattle.row_value.specs.Fit.{chunk_count}
use Rattle.row_value.specs.Fit as fit
use Rattle.step_tables.specs.Chunks.{cut_up_to, cut, flat, is_of_each}

module _ (size : ℕ) (some : 0 < size) where
  -- so many chunks hold the object, and one less doesn't
  pub record Holds (count bytes : ℕ) : Type 0 where
    pub enough : bytes ≤ count * size
    pub no_more : count * size < bytes + size

  cut_holds : (most : ℕ) (object : List ℕ) → length object ≤ most → Holds (length (cut_up_to most size object)) (length object)
  cut_holds zero [] le = record { enough = omega arith; no_more = omega arith }
  cut_holds zero (byte ∷ bytes) le = absurd (omega (arith, le))
  cut_holds (suc most) [] le = record { enough = omega arith; no_more = omega arith }
  cut_holds (suc most) (byte ∷ bytes) le =
      let rest = cut_holds most (drop size (byte ∷ bytes)) (omega (arith, length-drop size (byte ∷ bytes), le)) in
      let enough = rest.enough in
      let no_more = rest.no_more in
      let left = length-drop size (byte ∷ bytes) in
      let product : (suc (length (cut_up_to most size (drop size (byte ∷ bytes))))) * size ≡ length (cut_up_to most size (drop size (byte ∷ bytes))) * size + size = omega arith in
      record {
        enough = omega (arith, enough, left, product);
        no_more = short (length (cut_up_to most size (drop size (byte ∷ bytes)))) (length (byte ∷ bytes)) (length (drop size (byte ∷ bytes))) left enough no_more
            (cut_none most size (drop size (byte ∷ bytes))) (omega arith);
      }
    where
      cut_none : (m s : ℕ) (bs : List ℕ) → length bs ≡ 0 → length (cut_up_to m s bs) ≡ 0
      cut_none zero s bs e = refl
      cut_none (suc m) s [] e = refl
      cut_none (suc m) s (b ∷ bs) e = absurd (omega (arith, e))

      short : (c n r : ℕ) → r ≡ n - size → r ≤ c * size → c * size < r + size → (r ≡ 0 → c ≡ 0) → 0 < n → (suc c) * size < n + size
      short c n r is enough no_more none positive = go r refl
        where
          go : (x : ℕ) → r ≡ x → (suc c) * size < n + size
          go zero e = let nothing = none e in let product : (suc c) * size ≡ size = ap (λ (k : ℕ). (suc k) * size) nothing ∙ (omega arith) in omega (arith, product, positive)
          go (suc x) e = let product : (suc c) * size ≡ c * size + size = omega arith in omega (arith, product, is, e, no_more)

  no_less : (a b n : ℕ) → a * size < n + size → n ≤ b * size → a ≤ b
  no_less a b n less most =
      let below : a * size < (b + 1) * size = omega (arith, less, most) in
      let count = lt_of_mul-lt-mul_right size below in
      omega (arith, count)

  pub cut_count : (object : List ℕ) → length (cut size object) ≡ chunk_count size object
  cut_count object =
      let here = cut_holds (length object) object (omega arith) in
      let there = div_ceil_times (length object) size some in
      let most = no_less (length (cut size object)) (div_ceil (length object) size) (length object) here.no_more there.0 in
      let least = no_less (div_ceil (length object) size) (length (cut size object)) (length object) there.1 here.enough in
      let is : length (cut size object) ≡ div_ceil (length object) size = omega (arith, most, least) in
      let sized : (size == 0) ≡ false = grind (arith, nat_tests) in
      rw sized is

  pub said_count : {X : Type 0} (said : List (List X)) (objects : List (List ℕ)) → is_of_each size said objects ≡ true → length (flat said) ≡ fit.chunks_of size objects
  said_count [] [] is = refl
  said_count [] (object ∷ objects) is = absurd cc
  said_count (here ∷ said) [] is = absurd cc
  said_count (here ∷ said) (object ∷ objects) is =
      let both = and_parts (length here == length (cut size object)) (is_of_each size said objects) is in
      let first : length here ≡ chunk_count size object = eqb-true (length here) (length (cut size object)) both.0 ∙ cut_count object in
      let rest = said_count said objects both.1 in
      let sum : fit.chunks_of size (object ∷ objects) ≡ chunk_count size object + fit.chunks_of size objects = sum_by-cons (chunk_count size) object objects in
      omega (arith, length-append here (flat said), first, rest, sum)
