-- The pieces of objects, one object after the other.
use Rattle.std.proofs.Common.{◌≡◌, ℕ, zero, suc, ◌+◌, ◌<◌, ◌≤◌, ◌^◌, Bool, true, false, List, [], ◌∷◌, ◌++◌, length, get_or, drop, Option, Some, None, refl, sym, ◌∙◌, ap, subst, arith, append-nil, append_assoc}
use Rattle.std.specs.Prelude.{◌&&◌, slice_get, sum_by, zip, if◌then◌else◌}
use Rattle.std.specs.List.{list_all}
use Rattle.std.proofs.lemmas.List.{drop_more, drop_all}
use Rattle.std.proofs.lemmas.List.Sums.{sum_by-cons}
use Rattle.stab_base.specs.declared.chunk_name.ChunkName.{ChunkName}
use Rattle.row_value.specs.declared.pieces.Piece.{Piece}
use Rattle.row_value.specs.declared.pieces.Piece.TheVariants.{Keep, Fresh}
use Rattle.row_value.specs.declared.pieces.PieceObject.{PieceObject}
use Rattle.chunker.specs.Cut.{IsCut}
use Rattle.chunker.proofs.Cuts.{one_cut}
use Rattle.step_tables.specs.Chunks.{first_of, others_of, flat, each_chunk, cut}
use Rattle.device_laws.specs.Stands.{pieced_objects, fresh_bytes}
use Rattle.device_laws.proofs.Cuts.{cut_is}
use Rattle.store_node.specs.Update.{is_fresh, fresh_of, is_found, made_if}

-- ---- what is made where all is found

pub some_made : {X : Type 0} (b : Bool) (x y : X) → made_if b x ≡ Some y → (b ≡ true) × (y ≡ x)
some_made true x y is = let same : x ≡ y = cc in (refl, sym same)
some_made false x y is = absurd cc

pub none_made : {X : Type 0} (b : Bool) (x : X) → made_if b x ≡ None → b ≡ false
none_made true x is = absurd cc
none_made false x is = refl

pub map_made : {X Y : Type 0} (f : X → Y) (b : Bool) (x : X) (y : X) → made_if b x ≡ Some y → Some (f y) ≡ made_if b (f x)
map_made f true x y is = let same : x ≡ y = cc in ap (λ z. Some (f z)) (sym same)
map_made f false x y is = absurd cc

pub not_made : {X Y : Type 0} (b : Bool) (x : X) (y : Y) → made_if b x ≡ None → None ≡ made_if b y
not_made true x y is = absurd cc
not_made false x y is = refl

pair_same : {X Y : Type 0} (a b : X) (x y : Y) → a ≡ b → x ≡ y → ◌≡◌ {A = X × Y} (a, x) (b, y)
pair_same a b x y p q = cc (p, q)

-- an object that lacks a chunk, and one that is made
pub object_missing : {X : Type 0} (b c : Bool) (x : X) → b ≡ false → b ≡ c → None ≡ made_if c x
object_missing b c x isnt same = sym (ap (λ (t : Bool). made_if t x) (sym same ∙ isnt))

pub object_made : {X : Type 0} (b c : Bool) (x y : X) → b ≡ true → b ≡ c → y ≡ x → Some y ≡ made_if c x
object_made {X} b c x y is same made = ap (λ (z : X). Some z) made ∙ sym (ap (λ (t : Bool). made_if t x) (sym same ∙ is))

-- what is made of what was made
pub made_again : {X Y : Type 0} (f : X → Y) (b c : Bool) (x y : X) (z w : Y) → b ≡ c → Some y ≡ made_if b x → z ≡ f y → f x ≡ w → Some z ≡ made_if c w
made_again {X} {Y} f b c x y z w same is made whole =
    let m = some_made b x y (sym is) in
    object_made c c w z (sym same ∙ m.0) refl (made ∙ (ap f m.1 ∙ whole))

pub missing_again : {X Y : Type 0} (b c : Bool) (x : X) (w : Y) → b ≡ c → None ≡ made_if b x → None ≡ made_if c w
missing_again b c x w same is = object_missing c c w (sym same ∙ none_made b x (sym is)) refl

-- ---- one object

fresh_zip : (pieces : List Piece) (chunks : List (List ℕ)) → fresh_of pieces chunks ≡ fresh_bytes (zip pieces chunks)
fresh_zip [] [] = refl
fresh_zip [] (chunk ∷ chunks) = refl
fresh_zip (piece ∷ pieces) [] = refl
fresh_zip (Keep name ∷ pieces) (chunk ∷ chunks) = fresh_zip pieces chunks
fresh_zip (Fresh ordinal ∷ pieces) (chunk ∷ chunks) = ap (λ (l : List (List ℕ)). chunk ∷ l) (fresh_zip pieces chunks)

-- an object has one cut
pub cut_once : (size : ℕ) (object : List ℕ) (chunks : List (List ℕ)) → 0 < size → IsCut size object chunks → chunks ≡ cut size object
cut_once size object chunks some is = one_cut size object chunks (cut size object) some is (cut_is size object some)

pub object_fresh : (size : ℕ) (object : List ℕ) (chunks : List (List ℕ)) (pieces : List Piece) → 0 < size → IsCut size object chunks → fresh_of pieces chunks ≡ fresh_bytes (zip pieces (cut size object))
object_fresh size object chunks pieces some is = fresh_zip pieces chunks ∙ ap (λ (l : List (List ℕ)). fresh_bytes (zip pieces l)) (cut_once size object chunks some is)

-- ---- objects one after the other

fresh_append : (xs ys : List (Piece × List ℕ)) → fresh_bytes (xs ++ ys) ≡ fresh_bytes xs ++ fresh_bytes ys
fresh_append [] ys = refl
fresh_append ((Keep name, chunk) ∷ xs) ys = fresh_append xs ys
fresh_append ((Fresh ordinal, chunk) ∷ xs) ys = ap (λ (l : List (List ℕ)). chunk ∷ l) (fresh_append xs ys)

all_append : {X : Type 0} (p : X → Bool) (xs ys : List X) → list_all p (xs ++ ys) ≡ list_all p xs && list_all p ys
all_append p [] ys = refl
all_append {X} p (x ∷ xs) ys = pick (p x) (all_append p xs ys)
  where
    pick : (b : Bool) → list_all p (xs ++ ys) ≡ list_all p xs && list_all p ys → b && list_all p (xs ++ ys) ≡ (b && list_all p xs) && list_all p ys
    pick true more = more
    pick false more = refl

others_behind : {X : Type 0} (place : ℕ) (xs : List (List X)) → others_of (drop place xs) ≡ drop (suc place) xs
others_behind zero [] = refl
others_behind zero (x ∷ xs) = refl
others_behind (suc place) [] = refl
others_behind (suc place) (x ∷ xs) = others_behind place xs

next_place : (place : ℕ) → suc place ≡ place + 1
next_place place = omega arith

others_drop : {X : Type 0} (place : ℕ) (xs : List (List X)) → others_of (drop place xs) ≡ drop (place + 1) xs
others_drop place xs = others_behind place xs ∙ ap (λ (n : ℕ). drop n xs) (next_place place)

module _ (size : ℕ) (look : ChunkName → Option (List ℕ)) (pieces : List (List Piece)) (objects : List (List ℕ)) where
  -- the chunks from an object on, with their pieces
  abbrev said_from : ℕ → List (Piece × List ℕ)
  said_from place = flat (each_chunk size (drop place pieces) (drop place objects))

  abbrev said : List (Piece × List ℕ)
  said = flat (each_chunk size pieces objects)

  -- What was made of the objects before a place: with what is still to be made it is the whole.
  pub record SoFar (place : ℕ) (made : List PieceObject) (fresh : List (List ℕ)) : Type 0 where
    pub objects_are : made ++ pieced_objects (drop place objects) (drop place pieces) ≡ pieced_objects objects pieces
    pub fresh_are : fresh ++ fresh_bytes (said_from place) ≡ fresh_bytes said
    pub found_are : list_all (is_found look) said ≡ list_all (is_found look) (said_from place)
    pub len : sum_by length (drop place objects) < 2 ^ 32

  pub nothing_made : sum_by length objects < 2 ^ 32 → SoFar 0 [] []
  nothing_made len = record { objects_are = refl; fresh_are = refl; found_are = refl; len = len }

  module _ (place : ℕ) (made : List PieceObject) (fresh : List (List ℕ)) (so_far : SoFar place made fresh) (object : List ℕ) (within : place < length objects) (at : object ≡ get_or objects place object) where
    left : drop place objects ≡ object ∷ drop (place + 1) objects
    left = drop_more objects place object within ∙ ap (λ (x : List ℕ). x ∷ drop (place + 1) objects) (sym at)

    sum : sum_by length (drop place objects) ≡ length object + sum_by length (drop (place + 1) objects)
    sum = ap (sum_by length) left ∙ sum_by-cons length object (drop (place + 1) objects)

    pub object_len : length object < 2 ^ 32
    object_len = let l = so_far.len in omega (arith, sum, l)

    abbrev first : List Piece
    first = first_of (drop place pieces)

    module _ (here : List Piece) (is : here ≡ first) where
      abbrev now : List (Piece × List ℕ)
      now = zip here (cut size object)

      abbrev pieced : PieceObject
      pieced = record { len = length object; pieces = here }

      said_now : said_from place ≡ now ++ said_from (place + 1)
      said_now =
          ap (λ (l : List (List ℕ)). flat (each_chunk size (drop place pieces) l)) left
          ∙ (ap (λ (l : List (List Piece)). zip first (cut size object) ++ flat (each_chunk size l (drop (place + 1) objects))) (others_drop place pieces)
          ∙ ap (λ (l : List Piece). zip l (cut size object) ++ said_from (place + 1)) (sym is))

      found_now : list_all (is_found look) said ≡ list_all (is_found look) now && list_all (is_found look) (said_from (place + 1))
      found_now = so_far.found_are ∙ (ap (list_all (is_found look)) said_now ∙ all_append (is_found look) now (said_from (place + 1)))

      objects_now : pieced_objects (drop place objects) (drop place pieces) ≡ pieced ∷ pieced_objects (drop (place + 1) objects) (drop (place + 1) pieces)
      objects_now =
          ap (λ (l : List (List ℕ)). pieced_objects l (drop place pieces)) left
          ∙ (ap (λ (l : List Piece). record { len = length object; pieces = l } ∷ pieced_objects (drop (place + 1) objects) (others_of (drop place pieces))) (sym is)
          ∙ ap (λ (l : List (List Piece)). pieced ∷ pieced_objects (drop (place + 1) objects) l) (others_drop place pieces))

      pub made_more : (o : PieceObject) (then_ : List (List ℕ)) → Some o ≡ made_if (list_all (is_found look) now) pieced → then_ ≡ fresh ++ fresh_bytes now → SoFar (place + 1) (made ++ o ∷ []) then_
      made_more o then_ is_made added =
          let m = some_made (list_all (is_found look) now) pieced o (sym is_made) in
          record {
            objects_are = append_assoc made (o ∷ []) (pieced_objects (drop (place + 1) objects) (drop (place + 1) pieces))
                ∙ (ap (λ (p : PieceObject). made ++ p ∷ pieced_objects (drop (place + 1) objects) (drop (place + 1) pieces)) m.1
                ∙ (ap (λ (l : List PieceObject). made ++ l) (sym objects_now) ∙ so_far.objects_are));
            fresh_are = ap (λ (l : List (List ℕ)). l ++ fresh_bytes (said_from (place + 1))) added
                ∙ (append_assoc fresh (fresh_bytes now) (fresh_bytes (said_from (place + 1)))
                ∙ (ap (λ (l : List (List ℕ)). fresh ++ l) (sym (ap fresh_bytes said_now ∙ fresh_append now (said_from (place + 1)))) ∙ so_far.fresh_are));
            found_are = found_now ∙ ap (λ (b : Bool). b && list_all (is_found look) (said_from (place + 1))) m.0;
            len = let l = so_far.len in omega (arith, sum, l);
          }

      pub not_all_found : {Y : Type 0} (y : Y) → None ≡ made_if (list_all (is_found look) now) pieced → None ≡ made_if (list_all (is_found look) said) y
      not_all_found y isnt =
          let no_ = none_made (list_all (is_found look) now) pieced (sym isnt) in
          sym (ap (λ (b : Bool). made_if b y) (found_now ∙ ap (λ (b : Bool). b && list_all (is_found look) (said_from (place + 1))) no_))

  pub all_made : (place : ℕ) (made : List PieceObject) (fresh : List (List ℕ)) → SoFar place made fresh → length objects ≤ place
      → ◌≡◌ {A = Option (List PieceObject × List (List ℕ))} (Some (made, fresh)) (made_if (list_all (is_found look) said) (pieced_objects objects pieces, fresh_bytes said))
  all_made place made fresh so_far all =
      let none : drop place objects ≡ [] = drop_all place objects all in
      let nothing : said_from place ≡ [] = ap (λ (l : List (List ℕ)). flat (each_chunk size (drop place pieces) l)) none in
      let objects_same : made ≡ pieced_objects objects pieces = sym (append-nil made) ∙ (ap (λ (l : List (List ℕ)). made ++ pieced_objects l (drop place pieces)) (sym none) ∙ so_far.objects_are) in
      let fresh_same : fresh ≡ fresh_bytes said = sym (append-nil fresh) ∙ (ap (λ (l : List (Piece × List ℕ)). fresh ++ fresh_bytes l) (sym nothing) ∙ so_far.fresh_are) in
      let found : list_all (is_found look) said ≡ true = so_far.found_are ∙ ap (list_all (is_found look)) nothing in
      let whole : List PieceObject × List (List ℕ) = (pieced_objects objects pieces, fresh_bytes said) in
      let same : ◌≡◌ {A = List PieceObject × List (List ℕ)} (made, fresh) whole = pair_same made (pieced_objects objects pieces) fresh (fresh_bytes said) objects_same fresh_same in
      ap (λ (x : List PieceObject × List (List ℕ)). Some x) same ∙ sym (ap (λ (b : Bool). made_if b whole) found)

-- ---- the new chunks of an object

abbrev no_pieces : List Piece
no_pieces = []

drop_nothing : (place : ℕ) → drop place no_pieces ≡ no_pieces
drop_nothing zero = refl
drop_nothing (suc place) = refl

fresh_none : (chunks : List (List ℕ)) → fresh_of [] chunks ≡ []
fresh_none [] = refl
fresh_none (chunk ∷ chunks) = refl

fresh_behind : (pieces : List Piece) (chunks : List (List ℕ)) (place : ℕ) (chunk : List ℕ) → place < length chunks → chunk ≡ get_or chunks place chunk
    → fresh_of (drop place pieces) (drop place chunks) ≡ fresh_of (drop place pieces) (chunk ∷ []) ++ fresh_of (drop (suc place) pieces) (drop (suc place) chunks)
fresh_behind [] chunks place chunk within at =
    ap (λ (l : List Piece). fresh_of l (drop place chunks)) (drop_nothing place)
    ∙ (fresh_none (drop place chunks)
    ∙ sym (ap (λ (l : List Piece). fresh_of l (chunk ∷ []) ++ fresh_of (drop (suc place) []) (drop (suc place) chunks)) (drop_nothing place)
    ∙ (ap (λ (l : List Piece). fresh_of l (drop (suc place) chunks)) (drop_nothing (suc place)) ∙ fresh_none (drop (suc place) chunks))))
fresh_behind (piece ∷ pieces) [] place chunk within at = absurd (omega (arith, within))
fresh_behind (Keep name ∷ pieces) (c ∷ chunks) zero chunk within at = refl
fresh_behind (Fresh ordinal ∷ pieces) (c ∷ chunks) zero chunk within at = ap (λ (x : List ℕ). x ∷ fresh_of pieces chunks) (sym at)
fresh_behind (piece ∷ pieces) (c ∷ chunks) (suc place) chunk within at = fresh_behind pieces chunks place chunk (omega (arith, within)) at

pub fresh_more : (pieces : List Piece) (chunks : List (List ℕ)) (place : ℕ) (chunk : List ℕ) (old now new whole : List (List ℕ)) → place < length chunks → chunk ≡ get_or chunks place chunk
    → now ++ fresh_of (drop place pieces) (drop place chunks) ≡ whole → new ≡ now ++ fresh_of (drop place pieces) (chunk ∷ []) → new ++ fresh_of (drop (place + 1) pieces) (drop (place + 1) chunks) ≡ whole
fresh_more pieces chunks place chunk old now new whole within at inv is =
    ap (λ (l : List (List ℕ)). l ++ fresh_of (drop (place + 1) pieces) (drop (place + 1) chunks)) is
    ∙ (append_assoc now (fresh_of (drop place pieces) (chunk ∷ [])) (fresh_of (drop (place + 1) pieces) (drop (place + 1) chunks))
    ∙ (ap (λ (n : ℕ). now ++ (fresh_of (drop place pieces) (chunk ∷ []) ++ fresh_of (drop n pieces) (drop n chunks))) (sym (next_place place))
    ∙ (ap (λ (l : List (List ℕ)). now ++ l) (sym (fresh_behind pieces chunks place chunk within at)) ∙ inv)))

pub fresh_end : (pieces : List Piece) (chunks : List (List ℕ)) (place : ℕ) (now whole : List (List ℕ)) → length chunks ≤ place → now ++ fresh_of (drop place pieces) (drop place chunks) ≡ whole → now ≡ whole
fresh_end pieces chunks place now whole all inv = sym (append-nil now) ∙ subst (λ (l : List (List ℕ)). now ++ fresh_of (drop place pieces) l ≡ whole) (drop_all place chunks all) inv

-- the piece at a place
pub fresh_at : (pieces : List Piece) (place : ℕ) (chunk : List ℕ) (b : Bool) → b ≡ is_fresh (slice_get pieces place) → fresh_of (drop place pieces) (chunk ∷ []) ≡ (if b then chunk ∷ [] else [])
fresh_at [] zero chunk b is = rw is refl
fresh_at [] (suc place) chunk b is = rw is refl
fresh_at (Keep name ∷ pieces) zero chunk b is = rw is refl
fresh_at (Fresh other ∷ pieces) zero chunk b is = rw is refl
fresh_at (piece ∷ pieces) (suc place) chunk b is = fresh_at pieces place chunk b is

-- what is said of the object at a place
pub said_some : {X : Type 0} (said : List (List X)) (place : ℕ) (here : List X) → slice_get said place ≡ Some here → here ≡ first_of (drop place said)
said_some [] place here is = absurd cc
said_some (x ∷ said) zero here is = let same : x ≡ here = cc in sym same
said_some (x ∷ said) (suc place) here is = said_some said place here is

pub said_none : {X : Type 0} (said : List (List X)) (place : ℕ) → slice_get said place ≡ None → first_of (drop place said) ≡ []
said_none [] zero is = refl
said_none [] (suc place) is = refl
said_none (x ∷ said) zero is = absurd cc
said_none (x ∷ said) (suc place) is = said_none said place is
