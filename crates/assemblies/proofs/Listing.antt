-- The chunks that are awaited, one more at a time, and that they rise.
use Rattle.std.proofs.Common.{true, false, ◌≡◌, ℕ, zero, suc, ◌+◌, ◌<◌, ◌≤◌, Bool, List, [], ◌∷◌, ◌++◌, length, get_or, drop, refl, sym, ap, ◌∙◌, arith, inl, inr, append_assoc}
use Rattle.std.specs.Prelude.{◌&&◌, if◌then◌else◌}
use Rattle.std.specs.List.{AllByRecursion}
use Rattle.std.proofs.Math.Seq.{drop-cons}
use Rattle.std.proofs.lemmas.List.{append-nil}
use Rattle.row_value.specs.declared.pieces.Piece.{Piece}
use Rattle.row_value.specs.declared.pieces.PieceObject.{PieceObject}
use Rattle.chunker.specs.Sized.{len_at}
use Rattle.assemblies.specs.declared.awaiting.Awaited.{Awaited}
use Rattle.assemblies.specs.Places.{awaited_in, awaited_from, IsBefore, Rises}

module _ {X : Type 0} where
  -- what is left at a place, and behind it
  left_at : (xs : List X) (i : ℕ) (d x : X) → i < length xs → x ≡ get_or xs i d → drop i xs ≡ x ∷ drop (i + 1) xs
  left_at xs i d x h is =
      drop-cons xs i d h ∙ ap (λ z. z ∷ drop (suc i) xs) (sym is) ∙ ap (λ n. x ∷ drop n xs) (let next : suc i ≡ i + 1 = omega arith in next)

  pub at_index : (P : X → Type 0) (xs : List X) → AllByRecursion P xs → (i : ℕ) (d : X) → i < length xs → P (get_or xs i d)
  at_index P [] all i d h = absurd (omega (arith, h))
  at_index P (x ∷ xs) all zero d h = all.0
  at_index P (x ∷ xs) all (suc i) d h = at_index P xs all.1 i d (omega (arith, h))

  pub by_index : (P : X → Type 0) (xs : List X) → ((i : ℕ) (d : X) → i < length xs → P (get_or xs i d)) → AllByRecursion P xs
  by_index P [] each = tt
  by_index P (x ∷ xs) each = (each 0 x (omega arith), by_index P xs (λ i d h. each (suc i) d (omega (arith, h))))

  pub all-append : (P : X → Type 0) (xs ys : List X) → AllByRecursion P xs → AllByRecursion P ys → AllByRecursion P (xs ++ ys)
  all-append P [] ys p q = q
  all-append P (x ∷ xs) ys p q = (p.0, all-append P xs ys p.1 q)

  all-mapped : (P Q : X → Type 0) → ((x : X) → P x → Q x) → (xs : List X) → AllByRecursion P xs → AllByRecursion Q xs
  all-mapped P Q f [] p = tt
  all-mapped P Q f (x ∷ xs) p = (f x p.0, all-mapped P Q f xs p.1)

pub both_left : (a b : Bool) → (a && b) ≡ true → a ≡ true
both_left true b e = refl
both_left false b e = absurd (let bad : false ≡ true = e in cc)

pub both_right : (a b : Bool) → (a && b) ≡ true → b ≡ true
both_right true b e = e
both_right false b e = absurd (let bad : false ≡ true = e in cc)

-- ---- one more

module _ (sends : Piece → Bool) (size len column : ℕ) where
  abbrev at_place : ℕ → ℕ → Awaited
  at_place n l = record { column = column; place = n; len = l }

  one_piece : (n : ℕ) (piece : Piece) (rest : List Piece) (l : ℕ) (b : Bool) → b ≡ sends piece → l ≡ len_at size len n
      → awaited_in sends size len column n (piece ∷ rest) ≡ (if b then at_place n l ∷ [] else []) ++ awaited_in sends size len column (n + 1) rest
  one_piece n piece rest l true sent is = rw (← sent, is) refl
  one_piece n piece rest l false sent is = rw (← sent) refl

  added : (list new : List Awaited) (it : Awaited) (b : Bool) → new ≡ (if b then list ++ it ∷ [] else list) → new ≡ list ++ (if b then it ∷ [] else [])
  added list new it true is = is
  added list new it false is = is ∙ sym (append-nil list)

  pub step_piece : (list new : List Awaited) (pieces : List Piece) (n : ℕ) (d piece : Piece) (l : ℕ) (b : Bool) (target : List Awaited) → n < length pieces → piece ≡ get_or pieces n d
      → b ≡ sends piece → l ≡ len_at size len n → new ≡ (if b then list ++ at_place n l ∷ [] else list)
      → list ++ awaited_in sends size len column n (drop n pieces) ≡ target → new ++ awaited_in sends size len column (n + 1) (drop (n + 1) pieces) ≡ target
  step_piece list new pieces n d piece l b target within is sent long made so_far =
      let rest = awaited_in sends size len column (n + 1) (drop (n + 1) pieces) in
      ap (λ (z : List Awaited). z ++ rest) (added list new (at_place n l) b made) ∙ append_assoc list (if b then at_place n l ∷ [] else []) rest
      ∙ ap (λ (z : List Awaited). list ++ z) (sym (ap (awaited_in sends size len column n) (left_at pieces n d piece within is) ∙ one_piece n piece (drop (n + 1) pieces) l b sent long)) ∙ so_far

pub step_object : (sends : Piece → Bool) (size first : ℕ) (list new : List Awaited) (objects : List PieceObject) (n : ℕ) (object : PieceObject) (target : List Awaited)
    → n < length objects → object ≡ get_or objects n object → new ≡ list ++ awaited_in sends size object.len (first + n) 0 object.pieces
    → list ++ awaited_from sends size (first + n) (drop n objects) ≡ target → new ++ awaited_from sends size (first + (n + 1)) (drop (n + 1) objects) ≡ target
step_object sends size first list new objects n object target within is made so_far =
    let front = awaited_in sends size object.len (first + n) 0 object.pieces in
    let rest = awaited_from sends size (first + (n + 1)) (drop (n + 1) objects) in
    let here : awaited_from sends size (first + n) (object ∷ drop (n + 1) objects) ≡ front ++ rest =
    ap (λ c. front ++ awaited_from sends size c (drop (n + 1) objects)) (omega arith) in
    ap (λ (z : List Awaited). z ++ rest) made ∙ append_assoc list front rest
    ∙ ap (λ (z : List Awaited). list ++ z) (sym (ap (awaited_from sends size (first + n)) (left_at objects n object object within is) ∙ here)) ∙ so_far

-- ---- they rise

Rises-append : (xs ys : List Awaited) → Rises xs → Rises ys → AllByRecursion (λ a. AllByRecursion (λ b. IsBefore a b) ys) xs → Rises (xs ++ ys)
Rises-append [] ys p q before = q
Rises-append (x ∷ xs) ys p q before = (all-append (λ b. IsBefore x b) xs ys p.0 before.0, Rises-append xs ys p.1 q before.1)

-- in a column, from a place on
abbrev IsIn : ℕ → ℕ → Awaited → Type 0
IsIn column place it = (it.column ≡ column) × (place ≤ it.place)

module _ (sends : Piece → Bool) (size len column : ℕ) where
  abbrev with_one : ℕ → List Piece → Bool → List Awaited
  with_one place pieces b =
      if b then record { column = column; place = place; len = len_at size len place } ∷ awaited_in sends size len column (place + 1) pieces
      else awaited_in sends size len column (place + 1) pieces

  one_in : (place : ℕ) (pieces : List Piece) (b : Bool) → AllByRecursion (IsIn column place) (awaited_in sends size len column (place + 1) pieces)
      → AllByRecursion (IsIn column place) (with_one place pieces b)
  one_in place pieces true behind = ((refl, omega arith), behind)
  one_in place pieces false behind = behind

  in_column : (place : ℕ) (pieces : List Piece) → AllByRecursion (IsIn column place) (awaited_in sends size len column place pieces)
  in_column place [] = tt
  in_column place (piece ∷ pieces) = one_in place pieces (sends piece)
      (all-mapped (IsIn column (place + 1)) (IsIn column place) (λ it h. (h.0, omega (arith, h.1))) (awaited_in sends size len column (place + 1) pieces) (in_column (place + 1) pieces))

  one_rises : (place : ℕ) (pieces : List Piece) (b : Bool) → Rises (awaited_in sends size len column (place + 1) pieces) → Rises (with_one place pieces b)
  one_rises place pieces true behind = (
    all-mapped (IsIn column (place + 1)) (λ b. IsBefore (record { column = column; place = place; len = len_at size len place }) b)
        (λ it h. inr (sym h.0, omega (arith, h.1))) (awaited_in sends size len column (place + 1) pieces) (in_column (place + 1) pieces),
    behind,
  )
  one_rises place pieces false behind = behind

  rises_in : (place : ℕ) (pieces : List Piece) → Rises (awaited_in sends size len column place pieces)
  rises_in place [] = tt
  rises_in place (piece ∷ pieces) = one_rises place pieces (sends piece) (rises_in (place + 1) pieces)

module _ (sends : Piece → Bool) (size : ℕ) where
  from_column : (column : ℕ) (objects : List PieceObject) → AllByRecursion (λ it. column ≤ it.column) (awaited_from sends size column objects)
  from_column column [] = tt
  from_column column (object ∷ objects) =
      all-append (λ it. column ≤ it.column) (awaited_in sends size object.len column 0 object.pieces) (awaited_from sends size (column + 1) objects)
      (all-mapped (IsIn column 0) (λ it. column ≤ it.column) (λ it h. omega (arith, h.0)) (awaited_in sends size object.len column 0 object.pieces) (in_column sends size object.len column 0 object.pieces))
      (all-mapped (λ it. column + 1 ≤ it.column) (λ it. column ≤ it.column) (λ it h. omega (arith, h)) (awaited_from sends size (column + 1) objects) (from_column (column + 1) objects))

  pub rises_from : (column : ℕ) (objects : List PieceObject) → Rises (awaited_from sends size column objects)
  rises_from column [] = tt
  rises_from column (object ∷ objects) =
      Rises-append (awaited_in sends size object.len column 0 object.pieces) (awaited_from sends size (column + 1) objects) (rises_in sends size object.len column 0 object.pieces) (rises_from (column + 1) objects)
      (all-mapped (IsIn column 0) (λ a. AllByRecursion (λ b. IsBefore a b) (awaited_from sends size (column + 1) objects))
      (λ a h. all-mapped (λ it. column + 1 ≤ it.column) (λ b. IsBefore a b) (λ b k. inl (omega (arith, h.0, k))) (awaited_from sends size (column + 1) objects) (from_column (column + 1) objects))
      (awaited_in sends size object.len column 0 object.pieces) (in_column sends size object.len column 0 object.pieces))
