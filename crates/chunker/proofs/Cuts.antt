-- Chunks one after the other, and that there is one cut.
use Rattle.std.proofs.Common.{false, true, ◌≡◌, ℕ, ◌+◌, ◌<◌, ◌≤◌, List, [], ◌∷◌, ◌++◌, length, get_or, take, drop, refl, sym, ap, ◌∙◌, arith, append_assoc, length-append}
use Rattle.std.specs.Prelude.{◌==◌, ◌*◌, min}
use Rattle.std.specs.List.{concat, AllByRecursion}
use Rattle.std.specs.Int.{div_ceil}
use Rattle.std.proofs.lemmas.List.{append-nil, take_more, length-take, length-drop, take-append-drop}
use Rattle.std.proofs.lemmas.Grind.{div_ceil_times}
use Rattle.std.proofs.lemmas.Bool.{eqb-true}
use Rattle.std.proofs.lemmas.Bool.Decides.{nat_tests}
use Rattle.std.proofs.Math.Seq.{take-append_seam, drop-append_seam}
use Rattle.std.proofs.Math.Nat.{lt_of_mul-lt-mul_right}
use Rattle.row_value.specs.Fit.{chunk_count}
use Rattle.chunker.specs.Cut.{HaveSize, IsCut}

pub concat-push : (chunks : List (List ℕ)) (chunk : List ℕ) → concat (chunks ++ chunk ∷ []) ≡ concat chunks ++ chunk
concat-push [] chunk = append-nil chunk
concat-push (first ∷ chunks) chunk = ap (λ (tail : List ℕ). first ++ tail) (concat-push chunks chunk) ∙ sym (append_assoc first (concat chunks) chunk)

abbrev pub AreFull : ℕ → List (List ℕ) → Type 0
AreFull size chunks = AllByRecursion (λ chunk. length chunk ≡ size) chunks

pub AreFull-push : (size : ℕ) (chunks : List (List ℕ)) (chunk : List ℕ) → AreFull size chunks → length chunk ≡ size → AreFull size (chunks ++ chunk ∷ [])
AreFull-push size [] chunk full is = (is, tt)
AreFull-push size (first ∷ chunks) chunk full is = (full.0, AreFull-push size chunks chunk full.1 is)

pub HaveSize-push : (size : ℕ) (chunks : List (List ℕ)) (chunk : List ℕ) → AreFull size chunks → 0 < length chunk → length chunk ≤ size → HaveSize size (chunks ++ chunk ∷ [])
HaveSize-push size [] chunk full some most = (some, most)
HaveSize-push size (first ∷ []) chunk full some most = (full.0, (some, most))
HaveSize-push size (first ∷ next ∷ chunks) chunk full some most = (full.0, HaveSize-push size (next ∷ chunks) chunk full.1 some most)

-- ---- one cut

module _ (size : ℕ) (some : 0 < size) where
  first_some : (chunk : List ℕ) (chunks : List (List ℕ)) → HaveSize size (chunk ∷ chunks) → 0 < length chunk
  first_some chunk [] h = h.0
  first_some chunk (next ∷ chunks) h = omega (arith, h.0)

  some_left : (chunk : List ℕ) (chunks : List (List ℕ)) → HaveSize size (chunk ∷ chunks) → 0 < length (concat (chunk ∷ chunks))
  some_left chunk chunks h = let first = first_some chunk chunks h in omega (arith, first, length-append chunk (concat chunks))

  not_last : (x y next : List ℕ) (chunks : List (List ℕ)) → length x ≤ size → HaveSize size (y ∷ next ∷ chunks) → x ++ [] ≡ y ++ concat (next ∷ chunks) → ⊥
  not_last x y next chunks most h e =
      let same : length x ≡ length y + length (concat (next ∷ chunks)) = ap length (sym (append-nil x) ∙ e) ∙ length-append y (concat (next ∷ chunks)) in
      let left = some_left next chunks h.1 in omega (arith, same, left, h.0)

  pub same_cut : (xs ys : List (List ℕ)) → HaveSize size xs → HaveSize size ys → concat xs ≡ concat ys → xs ≡ ys
  same_cut [] [] p q e = refl
  same_cut [] (y ∷ ys) p q e = absurd (let left = some_left y ys q in omega (arith, left, ap length e))
  same_cut (x ∷ xs) [] p q e = absurd (let left = some_left x xs p in omega (arith, left, ap length e))
  same_cut (x ∷ []) (y ∷ []) p q e = ap (λ (z : List ℕ). z ∷ []) (sym (append-nil x) ∙ e ∙ append-nil y)
  same_cut (x ∷ []) (y ∷ next ∷ ys) p q e = absurd (not_last x y next ys p.1 q e)
  same_cut (x ∷ next ∷ xs) (y ∷ []) p q e = absurd (not_last y x next xs q.1 p (sym e))
  same_cut (x ∷ m ∷ xs) (y ∷ n ∷ ys) p q e =
      let lengths : length x ≡ length y = p.0 ∙ sym q.0 in
      let fronts : x ≡ y = sym (take-append_seam x (concat (m ∷ xs))) ∙ ap (λ n. take n (x ++ concat (m ∷ xs))) lengths ∙ ap (λ (z : List ℕ). take (length y) z) e ∙ take-append_seam y (concat (n ∷ ys)) in
      let rests : concat (m ∷ xs) ≡ concat (n ∷ ys) = sym (drop-append_seam x (concat (m ∷ xs))) ∙ ap (λ n. drop n (x ++ concat (m ∷ xs))) lengths ∙ ap (λ (z : List ℕ). drop (length y) z) e ∙ drop-append_seam y (concat (n ∷ ys)) in
      let next : m ∷ xs ≡ n ∷ ys = same_cut (m ∷ xs) (n ∷ ys) p.1 q.1 rests in
      cc

  -- so many chunks hold the object, and one less doesn't
  enough : (chunks : List (List ℕ)) → HaveSize size chunks → (length (concat chunks) ≤ length chunks * size) × (length chunks * size < length (concat chunks) + size)
  enough [] h = (omega arith, omega arith)
  enough (chunk ∷ []) h = let whole : length (concat (chunk ∷ [])) ≡ length chunk = ap length (append-nil chunk) in (omega (arith, whole, h.1), omega (arith, whole, h.0))
  enough (chunk ∷ next ∷ chunks) h =
      let rest = enough (next ∷ chunks) h.1 in
      let whole = length-append chunk (concat (next ∷ chunks)) in
      (omega (arith, whole, rest.0, h.0), omega (arith, whole, rest.1, h.0))

  no_more : (a b n : ℕ) → a * size < n + size → n ≤ b * size → a ≤ b
  no_more a b n less most =
      let below : a * size < (b + 1) * size = omega (arith, less, most) in
      let count = lt_of_mul-lt-mul_right size below in omega (arith, count)

  pub count_is : (chunks : List (List ℕ)) → HaveSize size chunks → length chunks ≡ chunk_count size (concat chunks)
  count_is chunks h =
      let here = enough chunks h in
      let there = div_ceil_times (length (concat chunks)) size some in
      let most = no_more (length chunks) (div_ceil (length (concat chunks)) size) (length (concat chunks)) here.1 there.0 in
      let least = no_more (div_ceil (length (concat chunks)) size) (length chunks) (length (concat chunks)) there.1 here.0 in
      let is : length chunks ≡ div_ceil (length (concat chunks)) size = omega (arith, most, least) in
      let sized : (size == 0) ≡ false = grind (arith, nat_tests) in
      rw sized is

pub one_cut : (size : ℕ) (object : List ℕ) (xs ys : List (List ℕ)) → 0 < size → IsCut size object xs → IsCut size object ys → xs ≡ ys
one_cut size object xs ys some p q = same_cut size some xs ys p.sizes q.sizes (p.whole ∙ sym q.whole)

pub counted : (size : ℕ) (object : List ℕ) (chunks : List (List ℕ)) → 0 < size → IsCut size object chunks → length chunks ≡ chunk_count size object
counted size object chunks some h = count_is size some chunks h.sizes ∙ ap (chunk_count size) h.whole

-- ---- one chunk more

-- what is cut so far, and what is left
pub record SoFar (size : ℕ) (object : List ℕ) (chunks : List (List ℕ)) (rest : List ℕ) : Type 0 where
  pub whole : concat chunks ++ rest ≡ object
  pub sizes : HaveSize size chunks
  pub full : 0 < length rest → AreFull size chunks

pub cut_more : (size n : ℕ) (object : List ℕ) (chunks : List (List ℕ)) (rest : List ℕ) → SoFar size object chunks rest → 0 < size → 0 < length rest → n ≡ min (length rest) size
    → SoFar size object (chunks ++ take n rest ∷ []) (drop n rest)
cut_more size n object chunks rest h some left is =
    let front : length (take n rest) ≡ n = length-take n rest ∙ omega (arith, is) in
    record {
      whole = ap (λ (z : List ℕ). z ++ drop n rest) (concat-push chunks (take n rest)) ∙ append_assoc (concat chunks) (take n rest) (drop n rest)
          ∙ ap (λ (z : List ℕ). concat chunks ++ z) (take-append-drop n rest) ∙ h.whole;
      sizes = HaveSize-push size chunks (take n rest) (h.full left) (omega (arith, front, is)) (omega (arith, front, is));
      full = λ more. AreFull-push size chunks (take n rest) (h.full left) (omega (arith, front, is, length-drop n rest, more));
    }

pub nothing_cut : (size : ℕ) (object : List ℕ) → SoFar size object [] object
nothing_cut size object = record { whole = refl; sizes = tt; full = λ more. tt }

pub all_cut : (size : ℕ) (object : List ℕ) (chunks : List (List ℕ)) (rest : List ℕ) → SoFar size object chunks rest → (length rest == 0) ≡ true → IsCut size object chunks
all_cut size object chunks [] h e = record { whole = sym (append-nil (concat chunks)) ∙ h.whole; sizes = h.sizes }
all_cut size object chunks (b ∷ rest) h e = absurd (let none = eqb-true (length (b ∷ rest)) 0 e in omega (arith, none))

pub join_more : (chunks : List (List ℕ)) (i : ℕ) (object chunk bytes : List ℕ) → object ≡ concat (take i chunks) → bytes ≡ chunk → i < length chunks → chunk ≡ get_or chunks i chunk
    → object ++ bytes ≡ concat (take (i + 1) chunks)
join_more chunks i object chunk bytes so_far is within at =
    rw (so_far, is) (sym (concat-push (take i chunks) chunk) ∙ ap (λ (c : List ℕ). concat (take i chunks ++ c ∷ [])) at ∙ ap concat (sym (take_more chunks i chunk within)))
