-- What is said of each chunk of a row's objects: how many chunks there are, and pieces that have spellings.
use Rattle.std.proofs.Common.{◌≡◌, ℕ, suc, ◌+◌, ◌<◌, Bool, true, false, List, [], ◌∷◌, ◌++◌, length, map, refl, sym, ◌∙◌, ap, subst, arith, length-append}
use Rattle.std.specs.Prelude.{◌==◌, ◌&&◌, ◌^◌, sum_by}
use Rattle.std.specs.List.{list_all, AllByRecursion}
use Rattle.std.proofs.lemmas.Bool.{and_parts, eqb-true}
use Rattle.std.proofs.lemmas.Bool.Decides.{nat_tests}
use Rattle.std.proofs.lemmas.List.Sums.{sum_by-cons}
use Rattle.stab_base.specs.declared.chunk_name.ChunkName.{ChunkName}
use Rattle.row_value.specs.declared.pieces.Piece.{Piece}
use Rattle.row_value.specs.declared.pieces.Piece.TheVariants.{Keep, Fresh}
use Rattle.row_value.specs.Fit.{chunk_count, chunks_of}
use Rattle.value_codec.specs.Spelling.{HasNameSpelling, HasPieceSpelling, CountsFrom, fresh_in, pieces_of}
use Rattle.row_pieces.proofs.Cuts.{cut_count}
use Rattle.step_tables.specs.Chunks.{cut, flat, is_of_each, kept_in, are_counted}
use Rattle.part_tables.specs.Parts.{objects_by, kept}
use Rattle.message_parts.specs.Splits.{is_short}

-- ---- how many chunks

-- what is said of an object, and of those behind it
pub parts_said : {X : Type 0} (size : ℕ) (here : List X) (said : List (List X)) (object : List ℕ) (objects : List (List ℕ)) → is_of_each size (here ∷ said) (object ∷ objects) ≡ true
    → (length here ≡ length (cut size object)) × (is_of_each size said objects ≡ true)
parts_said size here said object objects each =
    let both = and_parts (length here == length (cut size object)) (is_of_each size said objects) each in
    (eqb-true (length here) (length (cut size object)) both.0, both.1)

pub as_many_said : {X : Type 0} (size : ℕ) (said : List (List X)) (objects : List (List ℕ)) → 0 < size → is_of_each size said objects ≡ true
    → (length (flat said) ≡ chunks_of size objects) × (length said ≡ length objects)
as_many_said size [] [] some each = (refl, refl)
as_many_said size [] (object ∷ objects) some each = absurd cc
as_many_said size (here ∷ said) [] some each = absurd cc
as_many_said size (here ∷ said) (object ∷ objects) some each =
    let both = parts_said size here said object objects each in
    let rest = as_many_said size said objects some both.1 in (
      omega (
        arith,
        length-append here (flat said),
        both.0,
        cut_count size object some,
        rest.0,
        sum_by-cons (chunk_count size) object objects,
      ),
      ap suc rest.1,
    )

short_is : {X : Type 0} (list : List X) → length list < 2 ^ 32 → is_short list ≡ true
short_is list lt = grind (arith, nat_tests)

pub two_true : (a b : Bool) → a ≡ true → b ≡ true → a && b ≡ true
two_true true b p q = q
two_true false b p q = absurd cc

pub said_short : {X : Type 0} (said : List (List X)) → length (flat said) < 2 ^ 32 → list_all is_short said ≡ true
said_short [] lt = refl
said_short (here ∷ said) lt =
    let sum = length-append here (flat said) in
    two_true (is_short here) (list_all is_short said) (short_is here (omega (arith, sum, lt))) (said_short said (omega (arith, sum, lt)))

pub objects_short : (objects : List (List ℕ)) → sum_by length objects < 2 ^ 32 → list_all is_short objects ≡ true
objects_short [] lt = refl
objects_short (object ∷ objects) lt =
    let sum = sum_by-cons length object objects in
    two_true (is_short object) (list_all is_short objects) (short_is object (omega (arith, sum, lt))) (objects_short objects (omega (arith, sum, lt)))

-- ---- pieces

-- pieces of which each chunk has one, each with a spelling, and the new ones numbered
pub record AreSpelled (size : ℕ) (objects : List (List ℕ)) (pieces : List (List Piece)) : Type 0 where
  pub each : is_of_each size pieces objects ≡ true
  pub spelled : AllByRecursion HasPieceSpelling (flat pieces)
  pub fresh : CountsFrom 0 (fresh_in (flat pieces))

pub pieces_back : (size : ℕ) (objects : List (List ℕ)) (pieces : List (List Piece)) → is_of_each size pieces objects ≡ true → pieces_of (objects_by objects pieces) ≡ flat pieces
pieces_back size [] [] each = refl
pieces_back size [] (here ∷ pieces) each = absurd cc
pieces_back size (object ∷ objects) [] each = absurd cc
pieces_back size (object ∷ objects) (here ∷ pieces) each = ap (λ (l : List Piece). here ++ l) (pieces_back size objects pieces (parts_said size here pieces object objects each).1)

counted_from : (next : ℕ) (pieces : List Piece) → are_counted next pieces ≡ true → CountsFrom next (fresh_in pieces)
counted_from next [] counted = tt
counted_from next (Keep name ∷ pieces) counted = counted_from next pieces counted
counted_from next (Fresh ordinal ∷ pieces) counted =
    let both = and_parts (ordinal == next) (are_counted (next + 1) pieces) counted in
    (eqb-true ordinal next both.0, counted_from (next + 1) pieces both.1)

pieces_spelled : (next : ℕ) (pieces : List Piece) → are_counted next pieces ≡ true → next + length pieces < 2 ^ 32 → AllByRecursion HasNameSpelling (kept_in pieces)
    → AllByRecursion HasPieceSpelling pieces
pieces_spelled next [] counted few names = tt
pieces_spelled next (Keep name ∷ pieces) counted few names = (names.0, pieces_spelled next pieces counted (omega (arith, few)) names.1)
pieces_spelled next (Fresh ordinal ∷ pieces) counted few names =
    let both = and_parts (ordinal == next) (are_counted (next + 1) pieces) counted in
    let is = eqb-true ordinal next both.0 in
    (omega (arith, is, few), pieces_spelled (next + 1) pieces both.1 (omega (arith, few)) names)

-- new chunks that are numbered, and names with spellings
pub numbered_spelled : (size : ℕ) (objects : List (List ℕ)) (pieces : List (List Piece)) → is_of_each size pieces objects ≡ true → are_counted 0 (flat pieces) ≡ true
    → length (flat pieces) < 2 ^ 32 → AllByRecursion HasNameSpelling (kept_in (flat pieces)) → AreSpelled size objects pieces
numbered_spelled size objects pieces each counted few names = record {
  each = each;
  spelled = pieces_spelled 0 (flat pieces) counted (omega (arith, few)) names;
  fresh = counted_from 0 (flat pieces) counted;
}

-- ---- names

abbrev keeps : List ChunkName → List Piece
keeps names = map (λ (name : ChunkName). Keep name) names

kept_count : (names : List ChunkName) → length (keeps names) ≡ length names
kept_count [] = refl
kept_count (name ∷ names) = ap suc (kept_count names)

kept_each : (size : ℕ) (names : List (List ChunkName)) (objects : List (List ℕ)) → is_of_each size (kept names) objects ≡ is_of_each size names objects
kept_each size [] [] = refl
kept_each size [] (object ∷ objects) = refl
kept_each size (here ∷ names) [] = refl
kept_each size (here ∷ names) (object ∷ objects) =
    ap (λ n. (n == length (cut size object)) && is_of_each size (kept names) objects) (kept_count here)
    ∙ ap (λ (b : Bool). (length here == length (cut size object)) && b) (kept_each size names objects)

keeps_both : (a b : List ChunkName) → keeps (a ++ b) ≡ keeps a ++ keeps b
keeps_both [] b = refl
keeps_both (name ∷ a) b = ap (λ (l : List Piece). Keep name ∷ l) (keeps_both a b)

kept_flat : (names : List (List ChunkName)) → flat (kept names) ≡ keeps (flat names)
kept_flat [] = refl
kept_flat (here ∷ names) = ap (λ (l : List Piece). keeps here ++ l) (kept_flat names) ∙ sym (keeps_both here (flat names))

keeps_spelled : (names : List ChunkName) → AllByRecursion HasNameSpelling names → AllByRecursion HasPieceSpelling (keeps names)
keeps_spelled [] all = tt
keeps_spelled (name ∷ names) all = (all.0, keeps_spelled names all.1)

none_fresh : (names : List ChunkName) → fresh_in (keeps names) ≡ []
none_fresh [] = refl
none_fresh (name ∷ names) = none_fresh names

-- no chunk is new
pub kept_fresh : (names : List (List ChunkName)) → fresh_in (flat (kept names)) ≡ []
kept_fresh names = ap fresh_in (kept_flat names) ∙ none_fresh (flat names)

pub names_spelled : (size : ℕ) (objects : List (List ℕ)) (names : List (List ChunkName)) → is_of_each size names objects ≡ true → AllByRecursion HasNameSpelling (flat names)
    → AreSpelled size objects (kept names)
names_spelled size objects names each all = record {
  each = kept_each size names objects ∙ each;
  spelled = subst (AllByRecursion HasPieceSpelling) (sym (kept_flat names)) (keeps_spelled (flat names) all);
  fresh = subst (CountsFrom 0) (sym (kept_fresh names)) tt;
}
