-- One piece more.
use Rattle.std.proofs.Common.{◌≡◌, ℕ, zero, suc, ◌+◌, ◌<◌, ◌≤◌, List, [], ◌∷◌, ◌++◌, length, get_or, take, Option, Some, None, refl, sym, ap, ◌∙◌, arith, inl, inr, length-append}
use Rattle.std.specs.Prelude.{slice_get, ◌⊎◌}
use Rattle.std.proofs.lemmas.List.{append-nil, take_more, length-take-le}
use Rattle.std.proofs.lemmas.Bool.{cases_lt}
use Rattle.std.proofs.lemmas.Option.{slice_get_within}
use Rattle.stab_base.specs.declared.chunk_name.ChunkName.{ChunkName}
use Rattle.row_value.specs.declared.pieces.Piece.{Piece}
use Rattle.row_value.specs.declared.pieces.Piece.TheVariants.{Keep, Fresh}
use Rattle.value_codec.specs.Spelling.{CountsFrom, fresh_in}
use Rattle.value_codec.proofs.FreshOrder.{fresh_in-append}
use Rattle.chunker.specs.Against.{AreAgainst, IsPieceOf, IsKept}

module _ {X : Type 0} where
  slice_get-front : (xs ys : List X) (i : ℕ) → i < length xs → slice_get (xs ++ ys) i ≡ slice_get xs i
  slice_get-front [] ys i h = absurd (omega (arith, h))
  slice_get-front (x ∷ xs) ys zero h = refl
  slice_get-front (x ∷ xs) ys (suc i) h = slice_get-front xs ys i (omega (arith, h))

  slice_get-last : (xs : List X) (x : X) → slice_get (xs ++ x ∷ []) (length xs) ≡ Some x
  slice_get-last [] x = refl
  slice_get-last (y ∷ xs) x = slice_get-last xs x

  -- a place of a list with one item more
  place_of : (xs : List X) (x y : X) (i : ℕ) → slice_get (xs ++ x ∷ []) i ≡ Some y → ((i < length xs) × (slice_get xs i ≡ Some y)) ⊎ ((i ≡ length xs) × (x ≡ y))
  place_of xs x y i e = elim (cases_lt i (length xs)) [
    | inl h ↦ inl (h, sym (slice_get-front xs (x ∷ []) i h) ∙ e)
    | inr h ↦ (let within = slice_get_within (xs ++ x ∷ []) i y e in
        let last : i ≡ length xs = omega (arith, within, length-append xs (x ∷ [])) in
        let same : Some x ≡ Some y = sym (slice_get-last xs x) ∙ sym (ap (λ (n : ℕ). slice_get (xs ++ x ∷ []) n) last) ∙ e in inr (last, cc))
  ]

CountsFrom-push : (first : ℕ) (ns : List ℕ) (next : ℕ) → CountsFrom first ns → next ≡ first + length ns → CountsFrom first (ns ++ next ∷ [])
CountsFrom-push first [] next h is = (omega (arith, is), tt)
CountsFrom-push first (n ∷ ns) next h is = (h.0, CountsFrom-push (first + 1) ns next h.1 (omega (arith, is)))

-- what is kept, or that nothing is, makes the piece
abbrev piece_for : Option ChunkName → ℕ → Piece
piece_for None next = Fresh next
piece_for (Some name) next = Keep name

kept_piece : (old : Option (ChunkName × List ℕ)) (chunk : List ℕ) (found : Option ChunkName) (next : ℕ) → IsKept old chunk found → IsPieceOf old chunk (piece_for found next)
kept_piece None chunk None next is = tt
kept_piece None chunk (Some name) next is = absurd (let bad : Some name ≡ None = is in cc)
kept_piece (Some old) chunk None next is = is
kept_piece (Some old) chunk (Some name) next is = is

module _ (old : List (ChunkName × List ℕ)) (chunks : List (List ℕ)) (first : ℕ) (pieces : List Piece) (so_far : AreAgainst old chunks first pieces) (chunk : List ℕ) where
  each_more : (piece : Piece) → IsPieceOf (slice_get old (length chunks)) chunk piece → (place : ℕ) (c : List ℕ) (p : Piece)
      → slice_get (chunks ++ chunk ∷ []) place ≡ Some c → slice_get (pieces ++ piece ∷ []) place ≡ Some p → IsPieceOf (slice_get old place) c p
  each_more piece is place c p there given =
      elim (place_of chunks chunk c place there) [
        | inl h ↦ elim (place_of pieces piece p place given) [
          | inl g ↦ so_far.each place c p h.1 g.1
          | inr g ↦ absurd (omega (arith, h.0, g.0, so_far.count))
        ]
        | inr h ↦ elim (place_of pieces piece p place given) [
          | inl g ↦ absurd (omega (arith, h.0, g.0, so_far.count))
          | inr g ↦ rw (h.0, ← h.1, ← g.1) is
        ]
      ]

  more : (piece : Piece) → IsPieceOf (slice_get old (length chunks)) chunk piece → CountsFrom first (fresh_in (pieces ++ piece ∷ []))
      → AreAgainst old (chunks ++ chunk ∷ []) first (pieces ++ piece ∷ [])
  more piece is fresh = record {
    count = length-append pieces (piece ∷ []) ∙ ap (λ n. n + 1) so_far.count ∙ sym (length-append chunks (chunk ∷ []));
    each = each_more piece is;
    fresh = fresh;
  }

  pub keep_more : (name : ChunkName) → IsKept (slice_get old (length chunks)) chunk (Some name) → AreAgainst old (chunks ++ chunk ∷ []) first (pieces ++ Keep name ∷ [])
  keep_more name is = more (Keep name) (kept_piece (slice_get old (length chunks)) chunk (Some name) 0 is)
      (rw (fresh_in-append pieces (Keep name ∷ []), append-nil) so_far.fresh)

  pub fresh_more : IsKept (slice_get old (length chunks)) chunk None → (next : ℕ) → next ≡ first + length (fresh_in pieces)
      → AreAgainst old (chunks ++ chunk ∷ []) first (pieces ++ Fresh next ∷ [])
  fresh_more is next at = more (Fresh next) (kept_piece (slice_get old (length chunks)) chunk None next is)
      (rw (fresh_in-append pieces (Fresh next ∷ [])) (CountsFrom-push first (fresh_in pieces) next so_far.fresh at))

pub no_pieces : (old : List (ChunkName × List ℕ)) (first : ℕ) → AreAgainst old [] first []
no_pieces old first = record {
  count = refl;
  each = λ place c p there given. absurd (let bad : None ≡ Some c = there in cc);
  fresh = tt;
}

-- ---- the pieces so far

pub record SoFar (old : List (ChunkName × List ℕ)) (chunks : List (List ℕ)) (first place : ℕ) (pieces : List Piece) (next : ℕ) : Type 0 where
  pub against : AreAgainst old (take place chunks) first pieces
  pub next_is : next ≡ first + length (fresh_in pieces)
  pub few : length (fresh_in pieces) ≤ place

module _ (old : List (ChunkName × List ℕ)) (chunks : List (List ℕ)) (first place : ℕ) (pieces : List Piece) (next : ℕ) (chunk : List ℕ) (within : place < length chunks)
    (is : chunk ≡ get_or chunks place chunk) (h : SoFar old chunks first place pieces next) where
  here : length (take place chunks) ≡ place
  here = length-take-le place chunks (omega (arith, within))

  front : take (place + 1) chunks ≡ take place chunks ++ chunk ∷ []
  front = take_more chunks place chunk within ∙ ap (λ (c : List ℕ). take place chunks ++ c ∷ []) (sym is)

  pub kept_step : (name : ChunkName) → IsKept (slice_get old place) chunk (Some name) → SoFar old chunks first (place + 1) (pieces ++ Keep name ∷ []) next
  kept_step name kept = record {
    against = rw front (keep_more old (take place chunks) first pieces h.against chunk name (rw here kept));
    next_is = rw (fresh_in-append pieces (Keep name ∷ []), append-nil) h.next_is;
    few = rw (fresh_in-append pieces (Keep name ∷ []), append-nil) (omega (arith, h.few));
  }

  pub fresh_step : IsKept (slice_get old place) chunk None → SoFar old chunks first (place + 1) (pieces ++ Fresh next ∷ []) (next + 1)
  fresh_step kept =
      let count : length (fresh_in (pieces ++ Fresh next ∷ [])) ≡ length (fresh_in pieces) + 1 =
      ap length (fresh_in-append pieces (Fresh next ∷ [])) ∙ length-append (fresh_in pieces) (next ∷ []) in
      record {
        against = rw front (fresh_more old (take place chunks) first pieces h.against chunk (rw here kept) next h.next_is);
        next_is = omega (arith, count, h.next_is);
        few = omega (arith, count, h.few);
      }

-- ---- one list of pieces

one_piece : (old : Option (ChunkName × List ℕ)) (chunk : List ℕ) (n : ℕ) (p q : Piece) → IsPieceOf old chunk p → IsPieceOf old chunk q
    → ((a b : ℕ) → p ≡ Fresh a → q ≡ Fresh b → a ≡ b) → p ≡ q
one_piece None chunk n (Keep a) q h k same = absurd h
one_piece None chunk n p (Keep b) h k same = absurd k
one_piece None chunk n (Fresh a) (Fresh b) h k same = ap Fresh (same a b refl refl)
one_piece (Some old) chunk n (Keep a) (Keep b) h k same = ap Keep (h.0 ∙ sym k.0)
one_piece (Some old) chunk n (Keep a) (Fresh b) h k same = absurd (k h.1)
one_piece (Some old) chunk n (Fresh a) (Keep b) h k same = absurd (h k.1)
one_piece (Some old) chunk n (Fresh a) (Fresh b) h k same = ap Fresh (same a b refl refl)

tail_of : {X : Type 0} → List X → List X
tail_of [] = []
tail_of (x ∷ xs) = xs

tail_at : {X : Type 0} (xs : List X) (i : ℕ) → slice_get (tail_of xs) i ≡ slice_get xs (suc i)
unfolding tail_of
tail_at [] i = refl
tail_at (x ∷ xs) i = refl

rest_against : (old : List (ChunkName × List ℕ)) (chunk : List ℕ) (chunks : List (List ℕ)) (first : ℕ) (p : Piece) (ps : List Piece) → AreAgainst old (chunk ∷ chunks) first (p ∷ ps)
    → (next : ℕ) → CountsFrom next (fresh_in ps) → AreAgainst (tail_of old) chunks next ps
rest_against old chunk chunks first p ps h next fresh = record {
  count = omega (arith, h.count);
  each = λ place c q there given. rw (tail_at old place) (h.each (suc place) c q there given);
  fresh = fresh;
}

pub one_list : (old : List (ChunkName × List ℕ)) (chunks : List (List ℕ)) (first : ℕ) (xs ys : List Piece)
    → AreAgainst old chunks first xs → AreAgainst old chunks first ys → xs ≡ ys
one_list old [] first [] [] h k = refl
one_list old [] first (x ∷ xs) ys h k = absurd (omega (arith, h.count))
one_list old [] first xs (y ∷ ys) h k = absurd (omega (arith, k.count))
one_list old (chunk ∷ chunks) first [] ys h k = absurd (omega (arith, h.count))
one_list old (chunk ∷ chunks) first xs [] h k = absurd (omega (arith, k.count))
one_list old (chunk ∷ chunks) first (Keep a ∷ xs) (Keep b ∷ ys) h k =
    let head = one_piece (slice_get old 0) chunk 0 (Keep a) (Keep b) (h.each 0 chunk (Keep a) refl refl) (k.each 0 chunk (Keep b) refl refl) (λ m n e f. absurd (let bad : Keep a ≡ Fresh m = e in cc)) in
    let rest = one_list (tail_of old) chunks first xs ys (rest_against old chunk chunks first (Keep a) xs h first h.fresh) (rest_against old chunk chunks first (Keep b) ys k first k.fresh) in
    cc
one_list old (chunk ∷ chunks) first (Fresh a ∷ xs) (Fresh b ∷ ys) h k =
    let rest = one_list (tail_of old) chunks (first + 1) xs ys
    (rest_against old chunk chunks first (Fresh a) xs h (first + 1) h.fresh.1) (rest_against old chunk chunks first (Fresh b) ys k (first + 1) k.fresh.1) in
    let head : a ≡ b = h.fresh.0 ∙ sym k.fresh.0 in
    cc
one_list old (chunk ∷ chunks) first (Keep a ∷ xs) (Fresh b ∷ ys) h k =
    absurd (let bad = one_piece (slice_get old 0) chunk 0 (Keep a) (Fresh b) (h.each 0 chunk (Keep a) refl refl) (k.each 0 chunk (Fresh b) refl refl) (λ m n e f. absurd (let bad : Keep a ≡ Fresh m = e in cc)) in cc)
one_list old (chunk ∷ chunks) first (Fresh a ∷ xs) (Keep b ∷ ys) h k =
    absurd (let bad = one_piece (slice_get old 0) chunk 0 (Fresh a) (Keep b) (h.each 0 chunk (Fresh a) refl refl) (k.each 0 chunk (Keep b) refl refl) (λ m n e f. absurd (let bad : Keep b ≡ Fresh n = f in cc)) in cc)
