-- What is known of contents by the lengths of their objects.
use Rattle.std.proofs.Common.{◌≡◌, ℕ, zero, suc, Bool, true, List, [], ◌∷◌, length, drop, take, refl, sym, ◌∙◌, ap, arith}
use Rattle.std.specs.Prelude.{◌==◌, ◌&&◌, map, zip}
use Rattle.std.specs.List.{list_all}
use Rattle.std.proofs.lemmas.Bool.{and_parts}
use Rattle.std.proofs.lemmas.List.{length-replicate, length-take, length-drop}
use Rattle.std.proofs.lemmas.List.Folds.{list_all-append}
use Rattle.stab_base.specs.declared.chunk_name.ChunkName.{ChunkName}
use Rattle.row_value.specs.declared.content.Content.{Content}
use Rattle.row_value.specs.declared.content.Content.TheVariants as contents
use Rattle.row_value.specs.declared.pieces.Piece.{Piece}
use Rattle.row_value.specs.declared.pieces.Piece.TheVariants.{Keep}
use Rattle.row_value.specs.declared.pieces.PieceObject.{PieceObject}
use Rattle.chunker.specs.Sized.{sized, zeros_for}
use Rattle.step_tables.specs.Chunks.{cut_up_to, cut, flat, each_chunk, is_of_each, objects_of, is_spelled, is_named, are_counted, are_apart, kept_in}
use Rattle.part_tables.specs.Parts.{objects_by, spelled_by, pieces_in, kept}
use Rattle.part_tables.specs.ClientParts.{names_in}
use Rattle.part_laws.specs.Lengths.{AreAsLong}

abbrev pub lengths : List (List ℕ) → List ℕ
lengths objects = map (λ (object : List ℕ). length object) objects

-- ---- heads and rests of lists of numbers

first_same : (a b : ℕ) (xs ys : List ℕ) → (a ∷ xs) ≡ (b ∷ ys) → a ≡ b
first_same a b xs ys e = cc

rest_same : (a b : ℕ) (xs ys : List ℕ) → (a ∷ xs) ≡ (b ∷ ys) → xs ≡ ys
rest_same a b xs ys e = cc

-- ---- cuts

cut_lens : (most size : ℕ) (a b : List ℕ) → length a ≡ length b → lengths (cut_up_to most size a) ≡ lengths (cut_up_to most size b)
cut_lens zero size a b e = refl
cut_lens (suc most) size [] [] e = refl
cut_lens (suc most) size [] (y ∷ ys) e = absurd (omega (arith, e))
cut_lens (suc most) size (x ∷ xs) [] e = absurd (omega (arith, e))
cut_lens (suc most) size (x ∷ xs) (y ∷ ys) e =
    let front : length (take size (x ∷ xs)) ≡ length (take size (y ∷ ys)) = omega (arith, length-take size (x ∷ xs), length-take size (y ∷ ys), e) in
    let left : length (drop size (x ∷ xs)) ≡ length (drop size (y ∷ ys)) = omega (arith, length-drop size (x ∷ xs), length-drop size (y ∷ ys), e) in
    ap (λ n. n ∷ lengths (cut_up_to most size (drop size (x ∷ xs)))) front
    ∙ ap (λ (ns : List ℕ). length (take size (y ∷ ys)) ∷ ns) (cut_lens most size (drop size (x ∷ xs)) (drop size (y ∷ ys)) left)

pub cuts_alike : (size : ℕ) (a b : List ℕ) → length a ≡ length b → lengths (cut size a) ≡ lengths (cut size b)
cuts_alike size a b e = ap (λ n. lengths (cut_up_to n size a)) e ∙ cut_lens (length b) size a b e

count_of_lens : (xs ys : List (List ℕ)) → lengths xs ≡ lengths ys → length xs ≡ length ys
count_of_lens [] [] e = refl
count_of_lens [] (b ∷ ys) e = absurd cc
count_of_lens (a ∷ xs) [] e = absurd cc
count_of_lens (a ∷ xs) (b ∷ ys) e = ap suc (count_of_lens xs ys (rest_same (length a) (length b) (lengths xs) (lengths ys) e))

cut_counts : (size : ℕ) (a b : List ℕ) → length a ≡ length b → length (cut size a) ≡ length (cut size b)
cut_counts size a b e = count_of_lens (cut size a) (cut size b) (cuts_alike size a b e)

-- ---- what is said of each chunk

pub each_alike : {X : Type 0} (size : ℕ) (said : List (List X)) (xs ys : List (List ℕ)) → lengths xs ≡ lengths ys → is_of_each size said xs ≡ is_of_each size said ys
each_alike size said [] [] e = refl
each_alike size said [] (b ∷ ys) e = absurd cc
each_alike size said (a ∷ xs) [] e = absurd cc
each_alike size [] (a ∷ xs) (b ∷ ys) e = refl
each_alike size (here ∷ said) (a ∷ xs) (b ∷ ys) e =
    ap (λ n. (length here == n) && is_of_each size said xs) (cut_counts size a b (first_same (length a) (length b) (lengths xs) (lengths ys) e))
    ∙ ap (λ (t : Bool). (length here == length (cut size b)) && t) (each_alike size said xs ys (rest_same (length a) (length b) (lengths xs) (lengths ys) e))

module _ {X : Type 0} (f : X × List ℕ → Bool) (by_len : (x : X) (a b : List ℕ) → length a ≡ length b → f (x, a) ≡ f (x, b)) where
  zip_alike : (said : List X) (xs ys : List (List ℕ)) → lengths xs ≡ lengths ys → list_all f (zip said xs) ≡ list_all f (zip said ys)
  zip_alike [] xs ys e = refl
  zip_alike (x ∷ said) [] [] e = refl
  zip_alike (x ∷ said) [] (b ∷ ys) e = absurd cc
  zip_alike (x ∷ said) (a ∷ xs) [] e = absurd cc
  zip_alike (x ∷ said) (a ∷ xs) (b ∷ ys) e =
      ap (λ (t : Bool). t && list_all f (zip said xs)) (by_len x a b (first_same (length a) (length b) (lengths xs) (lengths ys) e))
      ∙ ap (λ (t : Bool). f (x, b) && t) (zip_alike said xs ys (rest_same (length a) (length b) (lengths xs) (lengths ys) e))

  pub all_alike : (size : ℕ) (said : List (List X)) (xs ys : List (List ℕ)) → is_of_each size said xs ≡ true → lengths xs ≡ lengths ys
      → list_all f (flat (each_chunk size said xs)) ≡ list_all f (flat (each_chunk size said ys))
  all_alike size said [] [] is e = refl
  all_alike size said [] (b ∷ ys) is e = absurd cc
  all_alike size said (a ∷ xs) [] is e = absurd cc
  all_alike size [] (a ∷ xs) (b ∷ ys) is e = absurd cc
  all_alike size (here ∷ said) (a ∷ xs) (b ∷ ys) is e =
      list_all-append f (zip here (cut size a)) (flat (each_chunk size said xs))
      ∙ (ap (λ (t : Bool). t && list_all f (flat (each_chunk size said xs))) (zip_alike here (cut size a) (cut size b) (cuts_alike size a b (first_same (length a) (length b) (lengths xs) (lengths ys) e)))
      ∙ (ap (λ (t : Bool). list_all f (zip here (cut size b)) && t)
      (all_alike size said xs ys (and_parts (length here == length (cut size a)) (is_of_each size said xs) is).1 (rest_same (length a) (length b) (lengths xs) (lengths ys) e))
      ∙ sym (list_all-append f (zip here (cut size b)) (flat (each_chunk size said ys)))))

-- ---- a content by its pieces

objects_as_long : (objects : List (List ℕ)) (pieces : List (List Piece)) → lengths (zeros_for (objects_by objects pieces)) ≡ lengths objects
objects_as_long [] pieces = refl
objects_as_long (object ∷ objects) [] =
    ap (λ n. n ∷ lengths (zeros_for (objects_by objects []))) (length-replicate (length object) 0) ∙ ap (λ (ns : List ℕ). length object ∷ ns) (objects_as_long objects [])
objects_as_long (object ∷ objects) (here ∷ pieces) =
    ap (λ n. n ∷ lengths (zeros_for (objects_by objects pieces))) (length-replicate (length object) 0) ∙ ap (λ (ns : List ℕ). length object ∷ ns) (objects_as_long objects pieces)

pub as_long : (content : Content) (pieces : List (List Piece)) → AreAsLong (sized (spelled_by content pieces)) content
as_long contents.Gone pieces = refl
as_long (contents.Row some objects) pieces = objects_as_long objects pieces

pub spelled_alike : (size : ℕ) (a b : Content) (pieces : List (List Piece)) → AreAsLong a b → is_spelled size a pieces ≡ is_spelled size b pieces
spelled_alike size a b pieces e =
    ap (λ (t : Bool). t && (are_counted 0 (flat pieces) && are_apart (kept_in (flat pieces)))) (each_alike size pieces (objects_of a) (objects_of b) e)

pub named_alike : (size : ℕ) (a b : Content) (names : List (List ChunkName)) → AreAsLong a b → is_named size a names ≡ is_named size b names
named_alike size a b names e = ap (λ (t : Bool). t && are_apart (flat names)) (each_alike size names (objects_of a) (objects_of b) e)

pub spelled_by_lens : (size : ℕ) (content : Content) (pieces : List (List Piece)) → is_spelled size (sized (spelled_by content pieces)) pieces ≡ is_spelled size content pieces
spelled_by_lens size content pieces = spelled_alike size (sized (spelled_by content pieces)) content pieces (as_long content pieces)

pub named_by_lens : (size : ℕ) (content : Content) (pieces : List (List Piece)) (names : List (List ChunkName)) → is_named size (sized (spelled_by content pieces)) names ≡ is_named size content names
named_by_lens size content pieces names = named_alike size (sized (spelled_by content pieces)) content names (as_long content pieces)

abbrev said_in : List PieceObject → List (List Piece)
said_in objects = map (λ (object : PieceObject). object.pieces) objects

pieces_of_objects : (size : ℕ) (objects : List (List ℕ)) (pieces : List (List Piece)) → is_of_each size pieces objects ≡ true → said_in (objects_by objects pieces) ≡ pieces
pieces_of_objects size [] [] is = refl
pieces_of_objects size [] (here ∷ pieces) is = absurd cc
pieces_of_objects size (object ∷ objects) [] is = absurd cc
pieces_of_objects size (object ∷ objects) (here ∷ pieces) is =
    ap (λ (ps : List (List Piece)). here ∷ ps) (pieces_of_objects size objects pieces (and_parts (length here == length (cut size object)) (is_of_each size pieces objects) is).1)

none_said : (size : ℕ) (pieces : List (List Piece)) → is_of_each size pieces [] ≡ true → [] ≡ pieces
none_said size [] is = refl
none_said size (here ∷ pieces) is = absurd cc

pub pieces_back : (size : ℕ) (content : Content) (pieces : List (List Piece)) → is_of_each size pieces (objects_of content) ≡ true → pieces_in (spelled_by content pieces) ≡ pieces
pieces_back size contents.Gone pieces is = none_said size pieces is
pieces_back size (contents.Row some objects) pieces is = pieces_of_objects size objects pieces is

-- ---- names as pieces that are kept

kept_each : (names : List ChunkName) → kept_in (map (λ (name : ChunkName). Keep name) names) ≡ names
kept_each [] = refl
kept_each (name ∷ names) = ap (λ (ns : List ChunkName). name ∷ ns) (kept_each names)

kept_all : (names : List (List ChunkName)) → map kept_in (kept names) ≡ names
kept_all [] = refl
kept_all (here ∷ names) = ap (λ (ns : List ChunkName). ns ∷ map kept_in (kept names)) (kept_each here) ∙ ap (λ (ns : List (List ChunkName)). here ∷ ns) (kept_all names)

kept_count : (names : List ChunkName) → length (map (λ (name : ChunkName). Keep name) names) ≡ length names
kept_count [] = refl
kept_count (name ∷ names) = ap suc (kept_count names)

pub kept_of_each : (size : ℕ) (names : List (List ChunkName)) (objects : List (List ℕ)) → is_of_each size (kept names) objects ≡ is_of_each size names objects
kept_of_each size [] [] = refl
kept_of_each size [] (object ∷ objects) = refl
kept_of_each size (here ∷ names) [] = refl
kept_of_each size (here ∷ names) (object ∷ objects) =
    ap (λ n. (n == length (cut size object)) && is_of_each size (kept names) objects) (kept_count here)
    ∙ ap (λ (t : Bool). (length here == length (cut size object)) && t) (kept_of_each size names objects)

pub names_back : (size : ℕ) (content : Content) (names : List (List ChunkName)) → is_of_each size names (objects_of content) ≡ true → names_in (spelled_by content (kept names)) ≡ names
names_back size content names is = ap (map kept_in) (pieces_back size content (kept names) (kept_of_each size names (objects_of content) ∙ is)) ∙ kept_all names
