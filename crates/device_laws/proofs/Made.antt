-- The item of a request that spells its chunks and keeps those of its row names its chunks, and its update has the
-- request's own pieces.
use Rattle.std.proofs.Common.{◌≡◌, inl, inr, ◌⊎◌, ℕ, ◌+◌, ◌<◌, ◌≤◌, Bool, true, false, cond, List, [], ◌∷◌, ◌++◌, length, refl, sym, ◌∙◌, ap, subst, arith, true≢false}
use Rattle.std.specs.Prelude.{◌==◌, ◌&&◌, ◌||◌, not, filter, map, zip}
use Rattle.std.specs.List.{list_all}
use Rattle.std.specs.Str.{bytes_eq}
use Rattle.std.proofs.lemmas.Bool.Decides.{nat_tests}
use Rattle.std.proofs.lemmas.List.{length-map, map-append}
use Rattle.std.proofs.lemmas.Slice.Eq.{bytes_eq-Decides}
use Rattle.stab_base.specs.declared.chunk_name.ChunkName.{ChunkName}
use Rattle.row_value.specs.declared.content.Content.{Content}
use Rattle.row_value.specs.declared.content.Content.TheVariants as contents
use Rattle.row_value.specs.declared.pieces.Piece.{Piece}
use Rattle.row_value.specs.declared.pieces.Piece.TheVariants.{Keep, Fresh}
use Rattle.row_value.specs.declared.pieces.PieceObject.{PieceObject}
use Rattle.row_value.specs.declared.pieces.PieceContent.{PieceContent}
use Rattle.row_value.specs.declared.pieces.PieceContent.TheVariants as piece_contents
use Rattle.store_commit.specs.declared.update.Update.{Update}
use Rattle.store_commit.specs.NamedChunks.{Among, AreDifferent}
use Rattle.step_tables.specs.Store.{Stored}
use Rattle.step_tables.specs.Messages.{Request}
use Rattle.step_tables.specs.StoreMoves.{item_for, keeps_there}
use Rattle.step_tables.specs.Chunks.{Named, same_name, are_apart, name_of_new, is_of_version, objects_of, each_chunk, is_of_each, cut, flat, names_of, chunks_of, chunks_with, name_at, names_at, kept_in, are_counted, is_spelled, is_there}
use Rattle.step_tables.specs.Chunks as chunks
use Rattle.device_laws.specs.Stands.{AreNumbered, is_new, AreNext, IsMade, AreMade, pieced_objects, pieced_content, fresh_bytes, update_for}
use Rattle.device_laws.proofs.Names.{left_among, right_among, among_mapped, in_names}
use Rattle.device_laws.proofs.Chunks.{names, row_sound}
use Rattle.device_laws.proofs.Cuts.{bytes_of, both_tests, same_count}
use Rattle.device_laws.proofs.Pieces.{piece_of, pieced_by, content_by}

-- a chunk with its piece, and with the name that it has at a version
abbrev pub Said : Type 0
Said = Piece × List ℕ

abbrev pub named_at : ℕ → Said → Named
named_at v said = (name_at v said.0, said.1)

abbrev firsts : List Said → List Piece
firsts all = map (λ (said : Said). said.0) all

-- ---- the chunks of the item are those that the pieces spell

zip_named : (v : ℕ) (pieces : List Piece) (bytes : List (List ℕ)) → zip (map (name_at v) pieces) bytes ≡ map (named_at v) (zip pieces bytes)
zip_named v [] bytes = refl
zip_named v (piece ∷ pieces) [] = refl
zip_named v (piece ∷ pieces) (chunk ∷ bytes) = ap (λ (l : List Named). named_at v (piece, chunk) ∷ l) (zip_named v pieces bytes)

zip_firsts : (pieces : List Piece) (bytes : List (List ℕ)) → length pieces ≡ length bytes → firsts (zip pieces bytes) ≡ pieces
zip_firsts [] bytes e = refl
zip_firsts (piece ∷ pieces) [] e = absurd (omega (arith, e))
zip_firsts (piece ∷ pieces) (chunk ∷ bytes) e = ap (λ (l : List Piece). piece ∷ l) (zip_firsts pieces bytes (omega (arith, e)))

module _ (size : ℕ) where
  abbrev said : List (List Piece) → List (List ℕ) → List Said
  said pieces objects = flat (each_chunk size pieces objects)

  flat_named : (v : ℕ) (pieces : List (List Piece)) (objects : List (List ℕ)) → flat (each_chunk size (names_at v pieces) objects) ≡ map (named_at v) (said pieces objects)
  flat_named v pieces [] = refl
  flat_named v [] (object ∷ objects) = flat_named v [] objects
  flat_named v (here ∷ pieces) (object ∷ objects) =
      ap (λ (l : List Named). l ++ flat (each_chunk size (names_at v pieces) objects)) (zip_named v here (cut size object))
      ∙ (ap (λ (l : List Named). map (named_at v) (zip here (cut size object)) ++ l) (flat_named v pieces objects)
      ∙ sym (map-append (named_at v) (zip here (cut size object)) (said pieces objects)))

  each_named : (v : ℕ) (pieces : List (List Piece)) (objects : List (List ℕ)) → is_of_each size (names_at v pieces) objects ≡ is_of_each size pieces objects
  each_named v [] [] = refl
  each_named v [] (object ∷ objects) = refl
  each_named v (here ∷ pieces) [] = refl
  each_named v (here ∷ pieces) (object ∷ objects) =
      ap (λ (n : ℕ). (n == length (cut size object)) && is_of_each size (names_at v pieces) objects) (length-map here (name_at v))
      ∙ ap (λ (b : Bool). (length here == length (cut size object)) && b) (each_named v pieces objects)

  said_pieces : (pieces : List (List Piece)) (objects : List (List ℕ)) → is_of_each size pieces objects ≡ true → firsts (said pieces objects) ≡ flat pieces
  said_pieces [] [] h = refl
  said_pieces [] (object ∷ objects) h = absurd cc
  said_pieces (here ∷ pieces) [] h = absurd cc
  said_pieces (here ∷ pieces) (object ∷ objects) h =
      let t = both_tests (length here == length (cut size object)) (is_of_each size pieces objects) h in
      map-append (λ (s : Said). s.0) (zip here (cut size object)) (said pieces objects)
      ∙ (ap (λ (l : List Piece). l ++ firsts (said pieces objects)) (zip_firsts here (cut size object) (same_count (length here) (length (cut size object)) t.0))
      ∙ ap (λ (l : List Piece). here ++ l) (said_pieces pieces objects t.1))

-- ---- chunks with their pieces: the kept ones have older names, and the new ones are numbered in order

-- each name that is kept is older than this version
abbrev AreKeptBelow : ℕ → List Said → Type 0
AreKeptBelow v all = (name : ChunkName) (bytes : List ℕ) → Among (Keep name, bytes) all → name.version < v

itself : (v : ℕ) → (v == v) ≡ true
itself v = grind (arith, nat_tests)

is_old : (v : ℕ) (name : ChunkName) → name.version < v → is_of_version v name ≡ false
is_old v name less = grind (arith, nat_tests)

news_at : (v next : ℕ) (all : List Said) → are_counted next (firsts all) ≡ true → AreKeptBelow v all → AreNext v next (filter (is_new v) (map (named_at v) all))
news_at v next [] counted below = tt
news_at v next ((Keep name, bytes) ∷ all) counted below =
    let rest = filter (is_new v) (map (named_at v) all) in
    subst (λ (b : Bool). AreNext v next (cond b ((name, bytes) ∷ rest) rest)) (sym (is_old v name (below name bytes (inl refl))))
    (news_at v next all counted (λ n x a. below n x (inr a)))
news_at v next ((Fresh ordinal, bytes) ∷ all) counted below =
    let rest = filter (is_new v) (map (named_at v) all) in
    let t = both_tests (ordinal == next) (are_counted (next + 1) (firsts all)) counted in
    subst (λ (b : Bool). AreNext v next (cond b ((name_of_new v ordinal, bytes) ∷ rest) rest)) (sym (itself v))
    (ap (name_of_new v) (same_count ordinal next t.0), news_at v (next + 1) all t.1 (λ n x a. below n x (inr a)))

fresh_least : (next : ℕ) (all : List Said) → are_counted next (firsts all) ≡ true → (ordinal : ℕ) (bytes : List ℕ) → Among (Fresh ordinal, bytes) all → next ≤ ordinal
fresh_least next [] counted ordinal bytes a = absurd a
fresh_least next ((Keep name, x) ∷ all) counted ordinal bytes (inl same) = let p : Fresh ordinal ≡ Keep name = ap (λ (s : Said). s.0) same in absurd cc
fresh_least next ((Keep name, x) ∷ all) counted ordinal bytes (inr more) = fresh_least next all counted ordinal bytes more
fresh_least next ((Fresh o, x) ∷ all) counted ordinal bytes (inl same) =
    let t = both_tests (o == next) (are_counted (next + 1) (firsts all)) counted in
    let p : Fresh ordinal ≡ Fresh o = ap (λ (s : Said). s.0) same in
    let one : ordinal ≡ o = cc in
    omega (arith, one, same_count o next t.0)
fresh_least next ((Fresh o, x) ∷ all) counted ordinal bytes (inr more) =
    let t = both_tests (o == next) (are_counted (next + 1) (firsts all)) counted in
    let least = fresh_least (next + 1) all t.1 ordinal bytes more in omega (arith, least)

kept_among : (all : List Said) (name : ChunkName) (bytes : List ℕ) → Among (Keep name, bytes) all → Among name (kept_in (firsts all))
kept_among [] name bytes a = absurd a
kept_among ((Keep n, x) ∷ all) name bytes (inl same) = let p : Keep name ≡ Keep n = ap (λ (s : Said). s.0) same in inl cc
kept_among ((Keep n, x) ∷ all) name bytes (inr more) = inr (kept_among all name bytes more)
kept_among ((Fresh o, x) ∷ all) name bytes (inl same) = let p : Keep name ≡ Fresh o = ap (λ (s : Said). s.0) same in absurd cc
kept_among ((Fresh o, x) ∷ all) name bytes (inr more) = kept_among all name bytes more

-- a name that a chunk has at a version is that of a piece
said_of : (v : ℕ) (all : List Said) (name : ChunkName) → Among name (names (map (named_at v) all)) → (x : Said) × Among x all × (name ≡ name_at v x.0)
said_of v all name a =
    let x = among_mapped (λ (chunk : Named). chunk.0) name (map (named_at v) all) a in
    let y = among_mapped (named_at v) x.0 all x.1 in
    (y.0, y.1, x.2 ∙ ap (λ (chunk : Named). chunk.0) y.2)

different_at : (v next : ℕ) (all : List Said) → are_counted next (firsts all) ≡ true → are_apart (kept_in (firsts all)) ≡ true → AreKeptBelow v all → AreDifferent (names (map (named_at v) all))
different_at v next [] counted apart below = tt
different_at v next ((Keep name, bytes) ∷ all) counted apart below =
    let t = both_tests (not (chunks.is_among (kept_in (firsts all)) name)) (are_apart (kept_in (firsts all))) apart in
    (λ a. let x = said_of v all name a in other t.0 x.0 x.1 x.2, different_at v next all counted t.1 (λ n x a. below n x (inr a)))
  where
    other : not (chunks.is_among (kept_in (firsts all)) name) ≡ true → (x : Said) → Among x all → name ≡ name_at v x.0 → ⊥
    other isnt (Keep n, x) a same =
        let inside = in_names name (kept_in (firsts all)) (subst (λ (m : ChunkName). Among m (kept_in (firsts all))) (sym same) (kept_among all n x a)) in
        true≢false (sym isnt ∙ ap not inside)
    other isnt (Fresh o, x) a same =
        let less = below name bytes (inl refl) in let is : name.version ≡ v = ap (λ (m : ChunkName). m.version) same in absurd (omega arith)
different_at v next ((Fresh ordinal, bytes) ∷ all) counted apart below =
    let t = both_tests (ordinal == next) (are_counted (next + 1) (firsts all)) counted in
    (λ a. let x = said_of v all (name_of_new v ordinal) a in other t x.0 x.1 x.2, different_at v (next + 1) all t.1 apart (λ n x a. below n x (inr a)))
  where
    other : ((ordinal == next) ≡ true) × (are_counted (next + 1) (firsts all) ≡ true) → (x : Said) → Among x all → name_of_new v ordinal ≡ name_at v x.0 → ⊥
    other t (Keep n, x) a same =
        let less = below n x (inr a) in let is : v ≡ n.version = ap (λ (m : ChunkName). m.version) same in absurd (omega arith)
    other t (Fresh o, x) a same =
        let least = fresh_least (next + 1) all t.1 o x a in
        let is : ordinal ≡ o = ap (λ (m : ChunkName). m.ordinal) same in
        let first = same_count ordinal next t.0 in
        absurd (omega arith)

-- ---- what is kept is there

same_itself : (a : ChunkName) → same_name a a ≡ true
same_itself a = ap (λ (b : Bool). b && (a.ordinal == a.ordinal)) (itself a.version) ∙ itself a.ordinal

same_is : (a b : ChunkName) → same_name a b ≡ true → a ≡ b
same_is a b is =
    let t = both_tests (a.version == b.version) (a.ordinal == b.ordinal) is in
    ap (λ (n : ℕ). name_of_new n a.ordinal) (same_count a.version b.version t.0) ∙ ap (name_of_new b.version) (same_count a.ordinal b.ordinal t.1)

pair_is : (x : Named) (name : ChunkName) (bytes : List ℕ) → x.0 ≡ name → x.1 ≡ bytes → (name, bytes) ≡ x
pair_is x name bytes p q = ap (λ (n : ChunkName). (n, bytes)) (sym p) ∙ ap (λ (b : List ℕ). (x.0, b)) (sym q)

pub any_named : (row : List Named) (name : ChunkName) (bytes : List ℕ) → is_there row (Keep name, bytes) ≡ true → Among (name, bytes) row
any_named [] name bytes h = absurd cc
any_named (held ∷ row) name bytes h = pick (same_name held.0 name && bytes_eq held.1 bytes) refl (any_named row name bytes) h
  where
    pick : (b : Bool) → (same_name held.0 name && bytes_eq held.1 bytes) ≡ b → (is_there row (Keep name, bytes) ≡ true → Among (name, bytes) row) → (b || is_there row (Keep name, bytes)) ≡ true → Among (name, bytes) (held ∷ row)
    pick true is later h = let t = both_tests (same_name held.0 name) (bytes_eq held.1 bytes) is in inl (pair_is held name bytes (same_is held.0 name t.0) ((bytes_eq-Decides held.1 bytes).0 t.1))
    pick false is later h = inr (later h)

pub is_named_there : (row : List Named) (name : ChunkName) (bytes : List ℕ) → Among (name, bytes) row → is_there row (Keep name, bytes) ≡ true
is_named_there [] name bytes a = absurd a
is_named_there (held ∷ row) name bytes (inl same) =
    let names : same_name held.0 name ≡ true = subst (λ (x : Named). same_name x.0 name ≡ true) same (same_itself name) in
    let both : bytes_eq held.1 bytes ≡ true = (bytes_eq-Decides held.1 bytes).1 (ap (λ (x : Named). x.1) (sym same)) in
    ap (λ (b : Bool). (b && bytes_eq held.1 bytes) || is_there row (Keep name, bytes)) names ∙ ap (λ (b : Bool). b || is_there row (Keep name, bytes)) both
is_named_there (held ∷ row) name bytes (inr more) = either (same_name held.0 name && bytes_eq held.1 bytes) (is_named_there row name bytes more)
  where
    either : (b : Bool) → is_there row (Keep name, bytes) ≡ true → (b || is_there row (Keep name, bytes)) ≡ true
    either true is = refl
    either false is = is

all_there : (row : List Named) (all : List Said) → list_all (is_there row) all ≡ true → (x : Said) → Among x all → is_there row x ≡ true
all_there row [] h x a = absurd a
all_there row (y ∷ all) h x (inl same) = ap (is_there row) same ∙ (both_tests (is_there row y) (list_all (is_there row) all) h).0
all_there row (y ∷ all) h x (inr more) = all_there row all (both_tests (is_there row y) (list_all (is_there row) all) h).1 x more

-- ---- the pieces and the bytes of an update

pieces_back : (v : ℕ) (all : List Said) → AreKeptBelow v all → map (piece_of v) (map (named_at v) all) ≡ firsts all
pieces_back v [] below = refl
pieces_back v ((Keep name, bytes) ∷ all) below =
    ap (λ (b : Bool). cond b (Fresh name.ordinal) (Keep name) ∷ map (piece_of v) (map (named_at v) all)) (is_old v name (below name bytes (inl refl)))
    ∙ ap (λ (l : List Piece). Keep name ∷ l) (pieces_back v all (λ n x a. below n x (inr a)))
pieces_back v ((Fresh ordinal, bytes) ∷ all) below =
    ap (λ (b : Bool). cond b (Fresh ordinal) (Keep (name_of_new v ordinal)) ∷ map (piece_of v) (map (named_at v) all)) (itself v)
    ∙ ap (λ (l : List Piece). Fresh ordinal ∷ l) (pieces_back v all (λ n x a. below n x (inr a)))

bytes_back : (v : ℕ) (all : List Said) → AreKeptBelow v all → bytes_of (filter (is_new v) (map (named_at v) all)) ≡ fresh_bytes all
bytes_back v [] below = refl
bytes_back v ((Keep name, bytes) ∷ all) below =
    let rest = filter (is_new v) (map (named_at v) all) in
    ap (λ (b : Bool). bytes_of (cond b ((name, bytes) ∷ rest) rest)) (is_old v name (below name bytes (inl refl))) ∙ bytes_back v all (λ n x a. below n x (inr a))
bytes_back v ((Fresh ordinal, bytes) ∷ all) below =
    let rest = filter (is_new v) (map (named_at v) all) in
    ap (λ (b : Bool). bytes_of (cond b ((name_of_new v ordinal, bytes) ∷ rest) rest)) (itself v)
    ∙ ap (λ (l : List (List ℕ)). bytes ∷ l) (bytes_back v all (λ n x a. below n x (inr a)))

abbrev with_pieces : List ℕ → List Piece → PieceObject
with_pieces object pieces = record { len = length object; pieces = pieces }

objects_back : (size v : ℕ) (pieces : List (List Piece)) (objects : List (List ℕ)) → is_of_each size pieces objects ≡ true → AreKeptBelow v (said size pieces objects)
    → pieced_by v objects (each_chunk size (names_at v pieces) objects) ≡ pieced_objects objects pieces
objects_back size v pieces [] h below = refl
objects_back size v [] (object ∷ objects) h below = absurd cc
objects_back size v (here ∷ pieces) (object ∷ objects) h below =
    let t = both_tests (length here == length (cut size object)) (is_of_each size pieces objects) h in
    let first : List Said = zip here (cut size object) in
    let back : map (piece_of v) (zip (map (name_at v) here) (cut size object)) ≡ here =
    ap (map (piece_of v)) (zip_named v here (cut size object))
    ∙ (pieces_back v first (λ n x a. below n x (left_among (Keep n, x) first (said size pieces objects) a)) ∙ zip_firsts here (cut size object) (same_count (length here) (length (cut size object)) t.0)) in
    ap (λ (l : List Piece). with_pieces object l ∷ pieced_by v objects (each_chunk size (names_at v pieces) objects)) back
    ∙ ap (λ (l : List PieceObject). with_pieces object here ∷ l) (objects_back size v pieces objects t.1 (λ n x a. below n x (right_among (Keep n, x) first (said size pieces objects) a)))

content_back : (size v : ℕ) (pieces : List (List Piece)) (content : Content) → is_of_each size pieces (objects_of content) ≡ true → AreKeptBelow v (said size pieces (objects_of content))
    → content_by v content (each_chunk size (names_at v pieces) (objects_of content)) ≡ pieced_content content pieces
content_back size v pieces contents.Gone h below = refl
content_back size v pieces (contents.Row cells objects) h below = ap (λ (l : List PieceObject). piece_contents.Row cells l) (objects_back size v pieces objects h below)

-- ---- a request

-- its update by the names of its item's chunks: those of the new version are new
abbrev pub update_by : ℕ → List Stored → Request → Update
update_by size items request =
    let held : List (List Named) = chunks_with size (item_for items request) in
    record {
      row = request.row;
      client = request.client;
      number = request.number;
      base = request.base;
      content = content_by (length items + 1) request.content held;
      fresh = bytes_of (filter (is_new (length items + 1)) (flat held));
    }

module _ (size : ℕ) (items : List Stored) (numbered : AreNumbered 0 items) (made : AreMade size [] items) (request : Request)
    (spelled : is_spelled size request.content request.pieces ≡ true) (there : keeps_there size items request ≡ true) where
  abbrev v : ℕ
  v = length items + 1

  abbrev objects : List (List ℕ)
  objects = objects_of request.content

  abbrev all : List Said
  all = said size request.pieces objects

  abbrev row : List Named
  row = flat (chunks_of size items request.row)

  parts : (is_of_each size request.pieces objects ≡ true) × (are_counted 0 (flat request.pieces) ≡ true) × (are_apart (kept_in (flat request.pieces)) ≡ true)
  parts =
      let first = both_tests (is_of_each size request.pieces objects) (are_counted 0 (flat request.pieces) && are_apart (kept_in (flat request.pieces))) spelled in
      let second = both_tests (are_counted 0 (flat request.pieces)) (are_apart (kept_in (flat request.pieces))) first.1 in
      (first.0, second.0, second.1)

  pieces_are : firsts all ≡ flat request.pieces
  pieces_are = said_pieces size request.pieces objects parts.0

  kept_there : (name : ChunkName) (bytes : List ℕ) → Among (Keep name, bytes) all → Among (name, bytes) row
  kept_there name bytes a = any_named row name bytes (all_there row all there (Keep name, bytes) a)

  below : AreKeptBelow v all
  below name bytes a = let less = (row_sound size items numbered made request.row).below (name, bytes) (kept_there name bytes a) in omega (arith, less)

  counted : are_counted 0 (firsts all) ≡ true
  counted = ap (are_counted 0) pieces_are ∙ parts.1

  apart : are_apart (kept_in (firsts all)) ≡ true
  apart = ap (λ (l : List Piece). are_apart (kept_in l)) pieces_are ∙ parts.2

  named : flat (chunks_with size (item_for items request)) ≡ map (named_at v) all
  named = flat_named size v request.pieces objects

  from_row : (x : Said) → Among x all → Among (named_at v x) row ⊎ ((name_at v x.0).version ≡ v)
  from_row (Keep name, bytes) a = inl (kept_there name bytes a)
  from_row (Fresh ordinal, bytes) a = inr refl

  pub request_made : IsMade size items (item_for items request)
  request_made = record {
    each = each_named size v request.pieces objects ∙ parts.0;
    different = subst (λ (l : List Named). AreDifferent (names l)) (sym named) (different_at v 0 all counted apart below);
    from = λ chunk a.
        let x = among_mapped (named_at v) chunk all (subst (λ (l : List Named). Among chunk l) named a) in
        subst (λ (c : Named). Among c row ⊎ (c.0.version ≡ v)) (sym x.2) (from_row x.0 x.1);
    news = subst (λ (l : List Named). AreNext v 0 (filter (is_new v) l)) (sym named) (news_at v 0 all counted below);
  }

  abbrev with_parts : PieceContent → List (List ℕ) → Update
  with_parts content fresh = record {
    row = request.row;
    client = request.client;
    number = request.number;
    base = request.base;
    content = content;
    fresh = fresh;
  }

  pub update_is_by : update_by size items request ≡ update_for size request
  update_is_by =
      ap (λ (c : PieceContent). with_parts c (bytes_of (filter (is_new v) (flat (chunks_with size (item_for items request)))))) (content_back size v request.pieces request.content parts.0 below)
      ∙ ap (with_parts (pieced_content request.content request.pieces)) (ap (λ (l : List Named). bytes_of (filter (is_new v) l)) named ∙ bytes_back v all below)
