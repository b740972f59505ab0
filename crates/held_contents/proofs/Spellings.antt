-- Pieces added chunk by chunk and object by object, and split again.
use Rattle.std.proofs.Common.{◌≡◌, ℕ, zero, suc, ◌+◌, ◌<◌, ◌≤◌, List, [], ◌∷◌, ◌++◌, length, take, drop, get_or, Option, Some, None, min, refl, sym, ◌∙◌, ap, subst, arith, append_assoc, length-append, drop-cons, add-one}
use Rattle.std.specs.Prelude.{◌^◌}
use Rattle.std.specs.List.{AllByRecursion}
use Rattle.std.proofs.lemmas.List.{append-nil, take_all, drop_all, length-map}
use Rattle.std.proofs.Math.Seq.{take-append_seam, drop-append_seam}
use Rattle.stab_base.specs.declared.chunk_name.ChunkName.{ChunkName}
use Rattle.row_value.specs.declared.pieces.Piece.{Piece}
use Rattle.value_codec.specs.Spelling.{HasPieceSpelling}
use Rattle.chunker.specs.Cut.{IsCut}
use Rattle.chunker.proofs.Cuts.{one_cut}
use Rattle.held_value.specs.declared.content.HeldPiece.{HeldPiece}
use Rattle.held_value.specs.declared.content.HeldObject.{HeldObject}
use Rattle.step_tables.specs.Chunks.{first_of, others_of, flat, cut, kept_as, piece_by, next_by, against, next_behind, all_against}
use Rattle.journal_laws.specs.Whole.{split_by}
use Rattle.row_pieces.proofs.Cuts.{cut_is}
use Rattle.held_contents.specs.Request.{known_of, known_in, bytes_of, bytes_in, request_pieces, Spelled}

-- ---- what is left

pub next_of : {X : Type 0} (xs : List X) (i : ℕ) (x e : X) → i < length xs → x ≡ get_or xs i e → drop i xs ≡ x ∷ drop (i + 1) xs
next_of xs i x e lt is = drop-cons xs i e lt ∙ (ap (λ y. y ∷ drop (suc i) xs) (sym is) ∙ ap (λ n. x ∷ drop n xs) (sym (add-one i)))

pub known_rest : (read : List (HeldPiece × List ℕ)) → known_of (drop 1 read) ≡ drop 1 (known_of read)
known_rest [] = refl
known_rest (chunk ∷ read) = refl

pub known_others : (read : List (List (HeldPiece × List ℕ))) → known_in (drop 1 read) ≡ others_of (known_in read)
known_others [] = refl
known_others (object ∷ read) = refl

-- ---- chunk by chunk

next_is_behind : (next : ℕ) (kept : Option ChunkName) (pieces : List Piece) → next_behind next (piece_by next kept ∷ pieces) ≡ next_behind (next_by next kept) pieces
next_is_behind next None pieces = refl
next_is_behind next (Some name) pieces = refl

next_most : (next : ℕ) (kept : Option ChunkName) → next_by next kept ≤ next + 1
next_most next None = omega arith
next_most next (Some name) = omega arith

pub one_spelled : (old : List (Option ChunkName × List ℕ)) (bytes : List ℕ) (chunks : List (List ℕ)) (next : ℕ) (before behind : List Piece) (after : ℕ)
    → (AllByRecursion HasPieceSpelling before → AllByRecursion HasPieceSpelling (before ++ piece_by next (kept_as old bytes) ∷ []))
    → Spelled (drop 1 old) chunks (next_by next (kept_as old bytes)) (before ++ piece_by next (kept_as old bytes) ∷ []) behind after → Spelled old (bytes ∷ chunks) next before behind after
one_spelled old bytes chunks next before behind after one k =
    let piece : Piece = piece_by next (kept_as old bytes) in
    let more : List Piece = against (next_by next (kept_as old bytes)) (drop 1 old) chunks in
    record {
      pieces = k.pieces ∙ append_assoc before (piece ∷ []) more;
      next_is = k.next_is ∙ sym (next_is_behind next (kept_as old bytes) more);
      most = omega (arith, k.most, next_most next (kept_as old bytes));
      spelled = λ all. k.spelled (one all);
    }

pub none_spelled : (old : List (Option ChunkName × List ℕ)) (next : ℕ) (before : List Piece) → Spelled old [] next before before next
none_spelled old next before = record { pieces = sym (append-nil before); next_is = refl; most = omega arith; spelled = λ all. all }

-- what is left to do of an object
pub record IsLeft (read now left : List (HeldPiece × List ℕ)) (done next number : ℕ) (before pieces : List Piece) : Type 0 where
  pub few : number + length (drop done now) < 2 ^ 32
  pub rest : (behind : List Piece) (after : ℕ) → Spelled (known_of left) (bytes_of (drop done now)) number pieces behind after → Spelled (known_of read) (bytes_of now) next before behind after

pub all_left : (read now : List (HeldPiece × List ℕ)) (next : ℕ) (before : List Piece) → next + length now < 2 ^ 32 → IsLeft read now read 0 next next before before
all_left read now next before few = record { few = few; rest = λ behind after k. k }

module _ (read now left : List (HeldPiece × List ℕ)) (done next number : ℕ) (before pieces : List Piece) (h : IsLeft read now left done next number before pieces)
    (chunk e : HeldPiece × List ℕ) (lt : done < length now) (is : chunk ≡ get_or now done e) where
  pub room : number + 1 < 2 ^ 32
  room = omega (arith, h.few, ap length (next_of now done chunk e lt is))

  pub less_left : (after : ℕ) (more : List Piece) → after ≡ next_by number (kept_as (known_of left) chunk.1) → more ≡ pieces ++ piece_by number (kept_as (known_of left) chunk.1) ∷ []
      → (AllByRecursion HasPieceSpelling pieces → AllByRecursion HasPieceSpelling more) → IsLeft read now (drop 1 left) (done + 1) next after before more
  less_left after more at adds one = record {
    few = omega (arith, h.few, ap length (next_of now done chunk e lt is), at, next_most number (kept_as (known_of left) chunk.1));
    rest = λ behind last k. h.rest behind last (subst (λ (l : List (HeldPiece × List ℕ)). Spelled (known_of left) (bytes_of l) number pieces behind last) (sym (next_of now done chunk e lt is))
        (one_spelled (known_of left) chunk.1 (bytes_of (drop (done + 1) now)) number pieces behind last (subst (λ (l : List Piece). AllByRecursion HasPieceSpelling pieces → AllByRecursion HasPieceSpelling l) adds one)
        (subst (λ (l : List Piece). Spelled (drop 1 (known_of left)) (bytes_of (drop (done + 1) now)) (next_by number (kept_as (known_of left) chunk.1)) l behind last) adds
        (subst (λ (n : ℕ). Spelled (drop 1 (known_of left)) (bytes_of (drop (done + 1) now)) n more behind last) at
        (subst (λ (o : List (Option ChunkName × List ℕ)). Spelled o (bytes_of (drop (done + 1) now)) after more behind last) (known_rest left) k)))));
  }

pub nothing_left : (read now left : List (HeldPiece × List ℕ)) (done next number : ℕ) (before pieces : List Piece) → IsLeft read now left done next number before pieces → length now ≤ done
    → Spelled (known_of read) (bytes_of now) next before pieces number
nothing_left read now left done next number before pieces h le =
    h.rest pieces number (subst (λ (l : List (HeldPiece × List ℕ)). Spelled (known_of left) (bytes_of l) number pieces pieces number) (sym (drop_all done now le)) (none_spelled (known_of left) number pieces))

-- ---- object by object

pub record AreLeft (read now left : List (List (HeldPiece × List ℕ))) (done next : ℕ) (pieces : List Piece) : Type 0 where
  pub few : next + length (flat (bytes_in (drop done now))) < 2 ^ 32
  pub rest : pieces ++ flat (all_against next (known_in left) (bytes_in (drop done now))) ≡ request_pieces read (bytes_in now)
  pub spelled : AllByRecursion HasPieceSpelling pieces

pub all_are_left : (read now : List (List (HeldPiece × List ℕ))) → length (flat (bytes_in now)) < 2 ^ 32 → AreLeft read now read 0 0 []
all_are_left read now few = record { few = omega (arith, few); rest = refl; spelled = tt }

module _ (read now left : List (List (HeldPiece × List ℕ))) (done next : ℕ) (pieces : List Piece) (h : AreLeft read now left done next pieces)
    (object e : List (HeldPiece × List ℕ)) (lt : done < length now) (is : object ≡ get_or now done e) where
  abbrev others : List (List (HeldPiece × List ℕ))
  others = drop (done + 1) now

  counts : length (flat (bytes_in (drop done now))) ≡ length (bytes_of object) + length (flat (bytes_in others))
  counts = ap (λ (l : List (List (HeldPiece × List ℕ))). length (flat (bytes_in l))) (next_of now done object e lt is) ∙ length-append (bytes_of object) (flat (bytes_in others))

  pub object_room : next + length object < 2 ^ 32
  object_room = omega (arith, h.few, counts, many object)
    where
      many : (l : List (HeldPiece × List ℕ)) → length (bytes_of l) ≡ length l
      many [] = refl
      many (x ∷ l) = ap suc (many l)

  pub fewer_left : (after : ℕ) (more : List Piece) → Spelled (first_of (known_in left)) (bytes_of object) next pieces more after → AreLeft read now (drop 1 left) (done + 1) after more
  fewer_left after more k =
      let here : List Piece = against next (first_of (known_in left)) (bytes_of object) in
      record {
        few = omega (arith, h.few, counts, k.most);
        rest =
            ap (λ (l : List Piece). l ++ flat (all_against after (known_in (drop 1 left)) (bytes_in others))) k.pieces
            ∙ (append_assoc pieces here (flat (all_against after (known_in (drop 1 left)) (bytes_in others)))
            ∙ (ap (λ (n : ℕ). pieces ++ (here ++ flat (all_against n (known_in (drop 1 left)) (bytes_in others)))) k.next_is
            ∙ (ap (λ (o : List (List (Option ChunkName × List ℕ))). pieces ++ (here ++ flat (all_against (next_behind next here) o (bytes_in others)))) (known_others left)
            ∙ (ap (λ (l : List (List (HeldPiece × List ℕ))). pieces ++ flat (all_against next (known_in left) (bytes_in l))) (sym (next_of now done object e lt is)) ∙ h.rest))));
        spelled = k.spelled h.spelled;
      }

pub none_are_left : (read now left : List (List (HeldPiece × List ℕ))) (done next : ℕ) (pieces : List Piece) → AreLeft read now left done next pieces → length now ≤ done
    → pieces ≡ request_pieces read (bytes_in now)
none_are_left read now left done next pieces h le =
    sym (append-nil pieces)
    ∙ (ap (λ (l : List (List (HeldPiece × List ℕ))). pieces ++ flat (all_against next (known_in left) (bytes_in l))) (sym (drop_all done now le)) ∙ h.rest)

-- how many chunks are left
pub count_left : (now : List (List (HeldPiece × List ℕ))) (done : ℕ) (object e : List (HeldPiece × List ℕ)) → done < length now → object ≡ get_or now done e
    → length (flat (bytes_in (drop done now))) ≡ length object + length (flat (bytes_in (drop (done + 1) now)))
count_left now done object e lt is =
    ap (λ (l : List (List (HeldPiece × List ℕ))). length (flat (bytes_in l))) (next_of now done object e lt is)
    ∙ (length-append (bytes_of object) (flat (bytes_in (drop (done + 1) now))) ∙ omega (arith, length-map object (λ (chunk : HeldPiece × List ℕ). chunk.1)))

-- ---- as many pieces as chunks

pub against_count : (next : ℕ) (old : List (Option ChunkName × List ℕ)) (chunks : List (List ℕ)) → length (against next old chunks) ≡ length chunks
against_count next old [] = refl
against_count next old (chunk ∷ chunks) = ap suc (against_count (next_by next (kept_as old chunk)) (drop 1 old) chunks)

pub all_count : (next : ℕ) (old : List (List (Option ChunkName × List ℕ))) (objects : List (List (List ℕ))) → length (flat (all_against next old objects)) ≡ length (flat objects)
all_count next old [] = refl
all_count next old (object ∷ objects) =
    let here : List Piece = against next (first_of old) object in
    let more : List (List Piece) = all_against (next_behind next here) (others_of old) objects in
    length-append here (flat more) ∙ omega (arith, against_count next (first_of old) object, all_count (next_behind next here) (others_of old) objects, length-append object (flat objects))

-- ---- split again

-- each object has as many pieces as there are chunks
abbrev pub AreAsMany : List HeldObject → List (List (List ℕ)) → Type 0
AreAsMany [] [] = Unit {0}
AreAsMany [] (chunks ∷ cuts) = ⊥
AreAsMany (object ∷ objects) [] = ⊥
AreAsMany (object ∷ objects) (chunks ∷ cuts) = (length object.pieces ≡ length chunks) × AreAsMany objects cuts

pub split_again : (objects : List HeldObject) (next : ℕ) (old : List (List (Option ChunkName × List ℕ))) (cuts : List (List (List ℕ))) → AreAsMany objects cuts
    → split_by objects (flat (all_against next old cuts)) ≡ all_against next old cuts
split_again [] next old [] h = refl
split_again [] next old (chunks ∷ cuts) h = absurd h
split_again (object ∷ objects) next old [] h = absurd h
split_again (object ∷ objects) next old (chunks ∷ cuts) h =
    let here : List Piece = against next (first_of old) chunks in
    let rest : List (List Piece) = all_against (next_behind next here) (others_of old) cuts in
    let count : length object.pieces ≡ length here = h.0 ∙ sym (against_count next (first_of old) chunks) in
    ap (λ (n : ℕ). take n (here ++ flat rest) ∷ split_by objects (drop n (here ++ flat rest))) count
    ∙ (ap (λ (l : List Piece). l ∷ split_by objects (drop (length here) (here ++ flat rest))) (take-append_seam here (flat rest))
    ∙ (ap (λ (l : List Piece). here ∷ split_by objects l) (drop-append_seam here (flat rest))
    ∙ ap (λ (l : List (List Piece)). here ∷ l) (split_again objects (next_behind next here) (others_of old) cuts h.1)))

-- a front that isn't longer than the list
take_min : {X : Type 0} (n : ℕ) (xs : List X) → take (min (length xs) n) xs ≡ take n xs
take_min zero xs = let none : min (length xs) 0 ≡ 0 = omega arith in ap (λ k. take k xs) none
take_min (suc n) [] = take_all (min 0 (suc n)) [] (omega arith)
take_min (suc n) (x ∷ xs) = let one : min (length (x ∷ xs)) (suc n) ≡ suc (min (length xs) n) = omega arith in ap (λ k. take k (x ∷ xs)) one ∙ ap (λ l. x ∷ l) (take_min n xs)

drop_min : {X : Type 0} (n : ℕ) (xs : List X) → drop (min (length xs) n) xs ≡ drop n xs
drop_min zero xs = let none : min (length xs) 0 ≡ 0 = omega arith in ap (λ k. drop k xs) none
drop_min (suc n) [] = drop_all (min 0 (suc n)) [] (omega arith)
drop_min (suc n) (x ∷ xs) = let one : min (length (x ∷ xs)) (suc n) ≡ suc (min (length xs) n) = omega arith in ap (λ k. drop k (x ∷ xs)) one ∙ drop_min n xs

pub split_one : (made : List (List Piece)) (objects : List HeldObject) (done : ℕ) (object e : HeldObject) (left all : List Piece) (n : ℕ) → done < length objects → object ≡ get_or objects done e
    → n ≡ min (length left) (length object.pieces) → made ++ split_by (drop done objects) left ≡ split_by objects all
    → (made ++ take n left ∷ []) ++ split_by (drop (done + 1) objects) (drop n left) ≡ split_by objects all
split_one made objects done object e left all n lt is at so_far =
    let k : ℕ = length object.pieces in
    ap (λ (m : ℕ). (made ++ take m left ∷ []) ++ split_by (drop (done + 1) objects) (drop m left)) at
    ∙ (ap (λ (l : List Piece). (made ++ l ∷ []) ++ split_by (drop (done + 1) objects) (drop (min (length left) k) left)) (take_min k left)
    ∙ (ap (λ (l : List Piece). (made ++ take k left ∷ []) ++ split_by (drop (done + 1) objects) l) (drop_min k left)
    ∙ (append_assoc made (take k left ∷ []) (split_by (drop (done + 1) objects) (drop k left))
    ∙ (ap (λ (l : List HeldObject). made ++ split_by l left) (sym (next_of objects done object e lt is)) ∙ so_far))))

-- ---- the cut

pub cut_same : (size : ℕ) (object slice : List ℕ) (chunks : List (List ℕ)) → 0 < size → slice ≡ object → IsCut size slice chunks → chunks ≡ cut size object
cut_same size object slice chunks some same is = one_cut size slice chunks (cut size slice) some is (cut_is size slice some) ∙ ap (cut size) same

pub bytes_push : (made : List (HeldPiece × List ℕ)) (chunk : HeldPiece × List ℕ) (rest : List (List ℕ)) → bytes_of (made ++ chunk ∷ []) ++ rest ≡ bytes_of made ++ chunk.1 ∷ rest
bytes_push [] chunk rest = refl
bytes_push (first ∷ made) chunk rest = ap (λ (l : List (List ℕ)). first.1 ∷ l) (bytes_push made chunk rest)

pub objects_push : (made : List (List (HeldPiece × List ℕ))) (object : List (HeldPiece × List ℕ)) (rest : List (List (List ℕ))) → bytes_in (made ++ object ∷ []) ++ rest ≡ bytes_in made ++ bytes_of object ∷ rest
objects_push [] object rest = refl
objects_push (first ∷ made) object rest = ap (λ (l : List (List (List ℕ))). bytes_of first ∷ l) (objects_push made object rest)
