-- Something said of each chunk, object by object; new chunks numbered in order, piece by piece.
use Rattle.std.proofs.Common.{◌≡◌, ℕ, zero, suc, ◌+◌, ◌<◌, ◌≤◌, Bool, true, false, List, [], ◌∷◌, length, get_or, drop, Some, None, refl, sym, ◌∙◌, ap, arith, drop-cons, add-one}
use Rattle.std.specs.Prelude.{◌==◌, ◌&&◌, if◌then◌else◌}
use Rattle.std.proofs.lemmas.Bool.Decides.{nat_tests}
use Rattle.row_value.specs.declared.pieces.Piece.{Piece}
use Rattle.row_value.specs.declared.pieces.Piece.TheVariants.{Keep, Fresh}
use Rattle.step_tables.specs.Chunks.{cut, is_of_each, are_counted}
use Rattle.row_pieces.specs.Counted.{counted_by}

-- ---- of each object

module _ {X : Type 0} (size : ℕ) where
  pub other_count : (said : List (List X)) (objects : List (List ℕ)) → (length said ≡ length objects → ⊥) → is_of_each size said objects ≡ false
  other_count [] [] other = absurd (other refl)
  other_count [] (object ∷ objects) other = refl
  other_count (here ∷ said) [] other = refl
  other_count (here ∷ said) (object ∷ objects) other = none (length here == length (cut size object)) (is_of_each size said objects) (other_count said objects (λ same. other (ap suc same)))
    where
      none : (a b : Bool) → b ≡ false → (a && b) ≡ false
      none true b h = h
      none false b h = refl

  pub nothing_left : (said : List (List X)) (objects : List (List ℕ)) (i : ℕ) → length said ≡ length objects → length said ≤ i → is_of_each size (drop i said) (drop i objects) ≡ true
  nothing_left [] [] zero same le = refl
  nothing_left [] [] (suc i) same le = refl
  nothing_left [] (object ∷ objects) i same le = absurd (omega (arith, same))
  nothing_left (here ∷ said) [] i same le = absurd (omega (arith, same))
  nothing_left (here ∷ said) (object ∷ objects) zero same le = absurd (omega (arith, le))
  nothing_left (here ∷ said) (object ∷ objects) (suc i) same le = nothing_left said objects i (omega (arith, same)) (omega (arith, le))

  one_next : (said : List (List X)) (objects : List (List ℕ)) (i : ℕ) (here d : List X) (object e : List ℕ) → length said ≡ length objects → i < length said → here ≡ get_or said i d
      → object ≡ get_or objects i e
      → is_of_each size (drop i said) (drop i objects) ≡ (length here == length (cut size object)) && is_of_each size (drop (suc i) said) (drop (suc i) objects)
  one_next [] objects i here d object e same lt at be = absurd (omega (arith, lt))
  one_next (first ∷ said) [] i here d object e same lt at be = absurd (omega (arith, same))
  one_next (first ∷ said) (o ∷ objects) zero here d object e same lt at be =
      ap (λ (x : List X). (length x == length (cut size o)) && is_of_each size said objects) (sym at)
      ∙ ap (λ (x : List ℕ). (length here == length (cut size x)) && is_of_each size said objects) (sym be)
  one_next (first ∷ said) (o ∷ objects) (suc i) here d object e same lt at be = one_next said objects i here d object e (omega (arith, same)) (omega (arith, lt)) at be

  pub one_of_each : (said : List (List X)) (objects : List (List ℕ)) (i : ℕ) (here d : List X) (object e : List ℕ) → length said ≡ length objects → i < length said → here ≡ get_or said i d
      → object ≡ get_or objects i e
      → is_of_each size (drop i said) (drop i objects) ≡ (length here == length (cut size object)) && is_of_each size (drop (i + 1) said) (drop (i + 1) objects)
  one_of_each said objects i here d object e same lt at be = rw add-one (one_next said objects i here d object e same lt at be)

  pub of_none : (said : List (List X)) → (length said == 0) ≡ is_of_each size said []
  of_none [] = refl
  of_none (here ∷ said) = other (length (here ∷ said)) (omega arith)
    where
      other : (n : ℕ) → 0 < n → (n == 0) ≡ false
      other n lt = grind (arith, nat_tests)

-- ---- piece by piece

pub counted_one : (next more : ℕ) (piece : Piece) (pieces : List Piece) → counted_by next piece ≡ Some more → are_counted next (piece ∷ pieces) ≡ are_counted more pieces
counted_one next more (Keep name) pieces is = ap (λ (n : ℕ). are_counted n pieces) (some_same next more is)
  where
    some_same : (a b : ℕ) → Some a ≡ Some b → a ≡ b
    some_same a b e = cc
counted_one next more (Fresh ordinal) pieces is = pick (ordinal == next) is
  where
    some_same : (a b : ℕ) → Some a ≡ Some b → a ≡ b
    some_same a b e = cc

    pick : (b : Bool) → (if b then Some (next + 1) else None) ≡ Some more → (b && are_counted (next + 1) pieces) ≡ are_counted more pieces
    pick true e = ap (λ (n : ℕ). are_counted n pieces) (some_same (next + 1) more e)
    pick false e = absurd cc

pub miscounted : (next : ℕ) (piece : Piece) (pieces : List Piece) → counted_by next piece ≡ None → are_counted next (piece ∷ pieces) ≡ false
miscounted next (Keep name) pieces is = absurd cc
miscounted next (Fresh ordinal) pieces is = pick (ordinal == next) is
  where
    pick : (b : Bool) → (if b then Some (next + 1) else None) ≡ None → (b && are_counted (next + 1) pieces) ≡ false
    pick true e = absurd cc
    pick false e = refl

-- what is left begins with the next one
pub next_of : {X : Type 0} (xs : List X) (i : ℕ) (x e : X) → i < length xs → x ≡ get_or xs i e → drop i xs ≡ x ∷ drop (i + 1) xs
next_of xs i x e lt is = drop-cons xs i e lt ∙ (ap (λ y. y ∷ drop (suc i) xs) (sym is) ∙ ap (λ n. x ∷ drop n xs) (sym (add-one i)))
