-- The items of a table whose names stand for one chunk each, as the next item comes.
use Rattle.std.proofs.Common.{◌≡◌, ◌⊎◌, inl, inr, ⊎_elim, ℕ, ◌+◌, ◌≤◌, true, List, [], ◌∷◌, ◌++◌, length, Option, Some, None, refl, sym, ◌∙◌, ap, subst, arith}
use Rattle.std.specs.Prelude.{◌&&◌, map, zip}
use Rattle.std.specs.Str.{bytes_eq}
use Rattle.std.proofs.lemmas.Bool.{and_parts}
use Rattle.std.proofs.lemmas.List.{map-append}
use Rattle.std.proofs.lemmas.Slice.Eq.{bytes_eq-Decides}
use Rattle.stab_base.specs.declared.chunk_name.ChunkName.{ChunkName}
use Rattle.row_value.specs.declared.pieces.Piece.{Piece}
use Rattle.row_value.specs.declared.pieces.Piece.TheVariants.{Keep, Fresh}
use Rattle.step_tables.specs.Store.{Stored, current_of}
use Rattle.step_tables.specs.Members.{Among}
use Rattle.step_tables.specs.Messages.{Request}
use Rattle.step_tables.specs.StoreMoves.{item_for, keeps_there}
use Rattle.step_tables.specs.Chunks.{Named, cut, same_name, flat, each_chunk, is_of_each, objects_of, names_of, chunks_with, chunks_in, chunks_of, name_at, is_spelled, is_there}
use Rattle.step_tables.proofs.Lists.{among_none, among_cons, among_push, among_cases, among_map, among_mapped}
use Rattle.name_laws.proofs.Names as names
use Rattle.name_laws.proofs.Names.{AreDifferent, same_is, true_any, all_true}
use Rattle.name_laws.proofs.Rows.{ComesFrom, IsWellNamed, AreWellNamed, push_named, comes_later, said_of_each, is_current, row_known, nothing_named}
use Rattle.name_laws.proofs.Spelled.{item_named}
use Rattle.piece_laws.specs.Pieces.{IsNamed, NamesOne}
use Rattle.piece_laws.proofs.Members.{as_member, member_is}

-- ---- the item that comes next

-- each of its chunks has a name, which stands once, and is new or names the row's chunk with these bytes
pub record IsNext (size : ℕ) (h : List Stored) (item : Stored) : Type 0 where
  pub each : is_of_each size item.names (objects_of item.content) ≡ true
  pub different : AreDifferent (flat item.names)
  pub version : item.entry.version ≡ length h + 1
  pub chunks : (name : ChunkName) (bytes : List ℕ) → Among (flat (chunks_with size item)) (name, bytes)
      → (name.version ≡ item.entry.version) ⊎ Among (flat (chunks_of size h item.entry.row)) (name, bytes)

pub record AreLinked (size : ℕ) (h : List Stored) : Type 0 where
  pub named : AreWellNamed size h
  pub one : NamesOne size h

pub nothing_linked : (size : ℕ) → AreLinked size []
nothing_linked size = record { named = nothing_named size; one = λ name a b r s x y. absurd (among_none x.item x.stands) }

-- ---- names

one_of_name : {Y : Type 0} (xs : List (ChunkName × Y)) (name : ChunkName) (a b : Y) → AreDifferent (map (λ (x : ChunkName × Y). x.0) xs) → Among xs (name, a) → Among xs (name, b) → a ≡ b
one_of_name [] name a b d p q = absurd (among_none (name, a) p)
one_of_name {Y} (x ∷ xs) name a b d p q = ⊎_elim
    (λ here. ⊎_elim
    (λ there. ap (λ (z : ChunkName × Y). z.1) (sym here ∙ there))
    (λ there. absurd (d.0 (subst (λ (n : ChunkName). names.Among n (map (λ (z : ChunkName × Y). z.0) xs)) (sym (ap (λ (z : ChunkName × Y). z.0) here))
    (member_is name (map (λ (z : ChunkName × Y). z.0) xs) (among_map (λ (z : ChunkName × Y). z.0) xs (name, b) there)))))
    (among_cons x xs (name, b) q))
    (λ here. ⊎_elim
    (λ there. absurd (d.0 (subst (λ (n : ChunkName). names.Among n (map (λ (z : ChunkName × Y). z.0) xs)) (sym (ap (λ (z : ChunkName × Y). z.0) there))
    (member_is name (map (λ (z : ChunkName × Y). z.0) xs) (among_map (λ (z : ChunkName × Y). z.0) xs (name, a) here)))))
    (λ there. one_of_name xs name a b d.1 here there)
    (among_cons x xs (name, b) q))
    (among_cons x xs (name, a) p)

module _ (size : ℕ) (item : Stored) (each : is_of_each size item.names (objects_of item.content) ≡ true) where
  -- a chunk's name is one of the item's
  pub chunk_name : (name : ChunkName) (bytes : List ℕ) → Among (flat (chunks_with size item)) (name, bytes) → names.Among name (flat item.names)
  chunk_name name bytes a =
      subst (λ (l : List ChunkName). names.Among name l) (said_of_each size item.names (objects_of item.content) each)
      (member_is name (names_of (chunks_with size item)) (among_map (λ (x : Named). x.0) (flat (chunks_with size item)) (name, bytes) a))

  -- and each of its names is a chunk's
  pub name_chunk : (name : ChunkName) → names.Among name (flat item.names) → (bytes : List ℕ) × Among (flat (chunks_with size item)) (name, bytes)
  name_chunk name a =
      let x = among_mapped (λ (z : Named). z.0) (flat (chunks_with size item)) name
      (as_member name (names_of (chunks_with size item)) (subst (λ (l : List ChunkName). names.Among name l) (sym (said_of_each size item.names (objects_of item.content) each)) a)) in
      (x.0.1, subst (λ (n : ChunkName). Among (flat (chunks_with size item)) (n, x.0.1)) x.2 x.1)

  pub chunks_once : (name : ChunkName) (a b : List ℕ) → AreDifferent (flat item.names) → Among (flat (chunks_with size item)) (name, a) → Among (flat (chunks_with size item)) (name, b) → a ≡ b
  chunks_once name a b d p q =
      one_of_name (flat (chunks_with size item)) name a b (subst AreDifferent (sym (said_of_each size item.names (objects_of item.content) each)) d) p q

-- ---- the row as it is now

module _ (size : ℕ) (h : List Stored) (l : AreLinked size h) where
  -- its chunks are those of an item
  pub current_named : (row : List ℕ) (name : ChunkName) (bytes : List ℕ) → Among (flat (chunks_of size h row)) (name, bytes) → IsNamed size h row name bytes
  current_named row name bytes = go (current_of h row) refl
    where
      go : (o : Option Stored) → current_of h row ≡ o → Among (flat (chunks_in size o)) (name, bytes) → IsNamed size h row name bytes
      go None at a = absurd (among_none (name, bytes) a)
      go (Some item) at a = let is = is_current size h l.named row item at in record { item = item; stands = is.0; row_is = is.1; chunk = a }

  -- the version of a name was given
  pub named_given : (row : List ℕ) (name : ChunkName) (bytes : List ℕ) → IsNamed size h row name bytes → name.version ≤ length h
  named_given row name bytes n =
      let item = l.named.all n.item n.stands in
      let from_ = item.known name (chunk_name size n.item item.each name bytes n.chunk) in
      let most = l.named.most from_.0 from_.1.stands in
      let is = from_.1.version_is in
      omega (arith, most, is)

  -- ---- behind the next item

  module _ (item : Stored) (next : IsNext size h item) where
    abbrev later : List Stored
    later = h ++ item ∷ []

    next_known : (name : ChunkName) → names.Among name (flat item.names) → ComesFrom later item.entry.row name
    next_known name a =
        let chunk = name_chunk size item next.each name a in
        ⊎_elim
        (λ own. (item, record { stands = among_push h item; row_is = refl; version_is = sym own }))
        (λ old. comes_later h (item ∷ []) item.entry.row name
        (row_known size h l.named item.entry.row name
        (member_is name (names_of (chunks_of size h item.entry.row)) (among_map (λ (x : Named). x.0) (flat (chunks_of size h item.entry.row)) (name, chunk.0) old))))
        (next.chunks name chunk.0 chunk.1)

    -- a chunk of an item before, or a new one of this
    abbrev IsOldOrNew : List ℕ → ChunkName → List ℕ → Type 0
    IsOldOrNew row name bytes = IsNamed size h row name bytes
        ⊎ ((name.version ≡ length h + 1) × (item.entry.row ≡ row) × Among (flat (chunks_with size item)) (name, bytes))

    old_or_new : (row : List ℕ) (name : ChunkName) (bytes : List ℕ) → IsNamed size later row name bytes → IsOldOrNew row name bytes
    old_or_new row name bytes n = ⊎_elim
        (λ old. inl (record { item = n.item; stands = old; row_is = n.row_is; chunk = n.chunk }))
        (λ same.
        let here : Among (flat (chunks_with size item)) (name, bytes) = subst (λ (i : Stored). Among (flat (chunks_with size i)) (name, bytes)) (sym same) n.chunk in
        let row_is : item.entry.row ≡ row = ap (λ (i : Stored). i.entry.row) same ∙ n.row_is in
        ⊎_elim
        (λ own. inr (own ∙ next.version, row_is, here))
        (λ kept. inl (subst (λ (r : List ℕ). IsNamed size h r name bytes) row_is (current_named item.entry.row name bytes kept)))
        (next.chunks name bytes here))
        (among_cases h item n.item n.stands)

    one_chunk : (name : ChunkName) (a b : List ℕ) (r s : List ℕ) → IsOldOrNew r name a → IsOldOrNew s name b → (r ≡ s) × (a ≡ b)
    one_chunk name a b r s (inl x) (inl y) = l.one name a b r s x y
    one_chunk name a b r s (inl x) (inr y) = let given = named_given r name a x in let new = y.0 in absurd (omega (arith, given, new))
    one_chunk name a b r s (inr x) (inl y) = let given = named_given s name b y in let new = x.0 in absurd (omega (arith, given, new))
    one_chunk name a b r s (inr x) (inr y) = (sym x.1 ∙ y.1, chunks_once size item next.each name a b next.different x.2 y.2)

    pub push_linked : AreLinked size later
    push_linked = record {
      named = push_named size h item l.named (record { each = next.each; different = next.different; known = next_known }) next.version;
      one = λ name a b r s x y. one_chunk name a b r s (old_or_new r name a x) (old_or_new s name b y);
    }

-- ---- the item of a request

-- what is said of each chunk, said otherwise
zip_said : {X Y Z : Type 0} (f : X → Y) (xs : List X) (zs : List Z) → zip (map f xs) zs ≡ map (λ (c : X × Z). (f c.0, c.1)) (zip xs zs)
zip_said f [] zs = refl
zip_said f (x ∷ xs) [] = refl
zip_said {X} {Y} {Z} f (x ∷ xs) (z ∷ zs) = ap (λ (l : List (Y × Z)). (f x, z) ∷ l) (zip_said f xs zs)

pub said_otherwise : {X Y : Type 0} (f : X → Y) (size : ℕ) (said : List (List X)) (objects : List (List ℕ))
    → flat (each_chunk size (map (λ (object : List X). map f object) said) objects) ≡ map (λ (c : X × List ℕ). (f c.0, c.1)) (flat (each_chunk size said objects))
said_otherwise f size said [] = refl
said_otherwise f size [] (object ∷ objects) = said_otherwise f size [] objects
said_otherwise {X} {Y} f size (here ∷ said) (object ∷ objects) =
    ap (λ (l : List (Y × List ℕ)). l ++ flat (each_chunk size (map (λ (o : List X). map f o) said) objects)) (zip_said f here (cut size object))
    ∙ (ap (λ (l : List (Y × List ℕ)). map (λ (c : X × List ℕ). (f c.0, c.1)) (zip here (cut size object)) ++ l) (said_otherwise f size said objects)
    ∙ sym (map-append (λ (c : X × List ℕ). (f c.0, c.1)) (zip here (cut size object)) (flat (each_chunk size said objects))))

-- a chunk under a name that is made of what is said of it
pub made_of : {X Y : Type 0} (f : X → Y) (size : ℕ) (said : List (List X)) (objects : List (List ℕ)) (y : Y) (bytes : List ℕ)
    → Among (flat (each_chunk size (map (λ (object : List X). map f object) said) objects)) (y, bytes)
    → (x : X) × Among (flat (each_chunk size said objects)) (x, bytes) × (f x ≡ y)
made_of {X} {Y} f size said objects y bytes a =
    let c = among_mapped (λ (z : X × List ℕ). (f z.0, z.1)) (flat (each_chunk size said objects)) (y, bytes)
    (subst (λ (l : List (Y × List ℕ)). Among l (y, bytes)) (said_otherwise f size said objects) a) in
    (c.0.0, subst (λ (b : List ℕ). Among (flat (each_chunk size said objects)) (c.0.0, b)) (ap (λ (z : Y × List ℕ). z.1) c.2) c.1, ap (λ (z : Y × List ℕ). z.0) c.2)

-- a chunk that is kept and there is the row's
pub kept_is_there : (row : List Named) (name : ChunkName) (bytes : List ℕ) → is_there row (Keep name, bytes) ≡ true → Among row (name, bytes)
kept_is_there row name bytes is =
    let held = true_any (λ (h : Named). same_name h.0 name && bytes_eq h.1 bytes) row is in
    let tests = and_parts (same_name held.0.0 name) (bytes_eq held.0.1 bytes) held.2 in
    let same : held.0.0 ≡ name = same_is held.0.0 name tests.0 in
    let alike : held.0.1 ≡ bytes = (bytes_eq-Decides held.0.1 bytes).0 tests.1 in
    subst (λ (b : List ℕ). Among row (name, b)) alike (subst (λ (n : ChunkName). Among row (n, held.0.1)) same (as_member held.0 row held.1))

module _ (size : ℕ) (h : List Stored) (named : AreWellNamed size h) (request : Request)
    (spelled : is_spelled size request.content request.pieces ≡ true) (there : keeps_there size h request ≡ true) where
  item_chunk : (name : ChunkName) (bytes : List ℕ) (piece : Piece) → Among (flat (each_chunk size request.pieces (objects_of request.content))) (piece, bytes)
      → name_at (length h + 1) piece ≡ name → (name.version ≡ length h + 1) ⊎ Among (flat (chunks_of size h request.row)) (name, bytes)
  item_chunk name bytes (Fresh ordinal) a is = inl (ap (λ (n : ChunkName). n.version) (sym is))
  item_chunk name bytes (Keep kept) a is =
      inr (subst (λ (n : ChunkName). Among (flat (chunks_of size h request.row)) (n, bytes)) is
      (kept_is_there (flat (chunks_of size h request.row)) kept bytes
      (all_true (is_there (flat (chunks_of size h request.row))) (Keep kept, bytes) (flat (each_chunk size request.pieces (objects_of request.content)))
      (member_is (Keep kept, bytes) (flat (each_chunk size request.pieces (objects_of request.content))) a) there)))

  pub item_next : IsNext size h (item_for h request)
  item_next =
      let well : IsWellNamed size (h ++ item_for h request ∷ []) (item_for h request) = item_named size h named request spelled there in
      record {
        each = well.each;
        different = well.different;
        version = refl;
        chunks = λ name bytes a.
            let c = made_of (name_at (length h + 1)) size request.pieces (objects_of request.content) name bytes a in
            item_chunk name bytes c.0 c.1 c.2;
      }
