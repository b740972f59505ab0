-- The pieces of a content, from the chunks of its objects.
use Rattle.std.proofs.Common.{◌≡◌, ℕ, ◌+◌, Bool, true, false, cond, List, [], ◌∷◌, ◌++◌, length, refl, sym, ◌∙◌, ap, arith, true≢false}
use Rattle.std.specs.Prelude.{◌||◌, not, filter, map, if◌then◌else◌}
use Rattle.std.specs.BTreeMap.{is_at}
use Rattle.std.proofs.lemmas.Bool.Decides.{nat_tests}
use Rattle.std.proofs.lemmas.List.{map-append}
use Rattle.stab_base.specs.declared.chunk_name.ChunkName.{ChunkName}
use Rattle.row_value.specs.declared.content.Content.{Content}
use Rattle.row_value.specs.declared.content.Content.TheVariants as contents
use Rattle.row_value.specs.declared.pieces.Piece.{Piece}
use Rattle.row_value.specs.declared.pieces.Piece.TheVariants.{Keep, Fresh}
use Rattle.row_value.specs.declared.pieces.PieceObject.{PieceObject}
use Rattle.row_value.specs.declared.pieces.PieceContent.{PieceContent}
use Rattle.row_value.specs.declared.pieces.PieceContent.TheVariants as piece_contents
use Rattle.value_codec.specs.Spelling.{CountsFrom, pieces_of, fresh_in}
use Rattle.chunk_store.specs.Payload.{name_cmp}
use Rattle.store_commit.specs.NamedChunks.{names_in}
use Rattle.store_commit.specs.NamedChunks as devices
use Rattle.store_commit.specs.Agenda.{fresh_name, named_piece, named_object, named_content}
use Rattle.store_commit.specs.NamedChunks.{is_among}
use Rattle.store_commit.proofs.Lookups.{apart_name}
use Rattle.step_tables.specs.Chunks.{Named, first_of, others_of, is_of_version, names_of, objects_of}
use Rattle.device_laws.specs.Stands.{kept_objects, kept_content, is_new, AreNext}
use Rattle.device_laws.proofs.Chunks.{flat, names}

abbrev pub keep : Named → Piece
keep chunk = Keep chunk.0

-- ---- a content by the names of its chunks

kept_pieces : (objects : List (List ℕ)) (held : List (List Named)) → length held ≡ length objects → pieces_of (kept_objects objects held) ≡ map keep (flat held)
kept_pieces [] [] e = refl
kept_pieces [] (now ∷ held) e = absurd (omega (arith, e))
kept_pieces (object ∷ objects) [] e = absurd (omega (arith, e))
kept_pieces (object ∷ objects) (now ∷ held) e =
    ap (λ (l : List Piece). map keep now ++ l) (kept_pieces objects held (omega (arith, e))) ∙ sym (map-append keep now (flat held))

names_kept : (chunks : List Named) → names_in (map keep chunks) ≡ names chunks
names_kept [] = refl
names_kept (chunk ∷ chunks) = ap (λ (l : List ChunkName). chunk.0 ∷ l) (names_kept chunks)

pub content_names : (content : Content) (held : List (List Named)) → length held ≡ length (objects_of content) → devices.names_of (kept_content content held) ≡ names_of held
content_names contents.Gone [] e = refl
content_names contents.Gone (now ∷ held) e = absurd (omega (arith, e))
content_names (contents.Row cells objects) held e = ap names_in (kept_pieces objects held e) ∙ names_kept (flat held)

-- ---- a content with its new chunks by their ordinals

abbrev pub piece_of : ℕ → Named → Piece
piece_of version held = if is_of_version version held.0 then Fresh held.0.ordinal else Keep held.0

abbrev pub pieced_by : ℕ → List (List ℕ) → List (List Named) → List PieceObject
pieced_by version [] held = []
pieced_by version (object ∷ objects) held =
    record { len = length object; pieces = map (piece_of version) (first_of held) } ∷ pieced_by version objects (others_of held)

abbrev pub content_by : ℕ → Content → List (List Named) → PieceContent
content_by version contents.Gone held = piece_contents.Gone
content_by version (contents.Row cells objects) held = piece_contents.Row cells (pieced_by version objects held)

pieced_pieces : (v : ℕ) (objects : List (List ℕ)) (held : List (List Named)) → length held ≡ length objects → pieces_of (pieced_by v objects held) ≡ map (piece_of v) (flat held)
pieced_pieces v [] [] e = refl
pieced_pieces v [] (now ∷ held) e = absurd (omega (arith, e))
pieced_pieces v (object ∷ objects) [] e = absurd (omega (arith, e))
pieced_pieces v (object ∷ objects) (now ∷ held) e =
    ap (λ (l : List Piece). map (piece_of v) now ++ l) (pieced_pieces v objects held (omega (arith, e))) ∙ sym (map-append (piece_of v) now (flat held))

named_one : (v : ℕ) (chunk : Named) → named_piece v (piece_of v chunk) ≡ keep chunk
named_one v chunk = pick (is_of_version v chunk.0) refl
  where
    pick : (b : Bool) → is_of_version v chunk.0 ≡ b → named_piece v (if b then Fresh chunk.0.ordinal else Keep chunk.0) ≡ Keep chunk.0
    pick true is = let version : v ≡ chunk.0.version = grind (arith, nat_tests) in ap (λ (n : ℕ). Keep (fresh_name n chunk.0.ordinal)) version
    pick false is = refl

named_pieces : (v : ℕ) (chunks : List Named) → map (named_piece v) (map (piece_of v) chunks) ≡ map keep chunks
named_pieces v [] = refl
named_pieces v (chunk ∷ chunks) =
    ap (λ (p : Piece). p ∷ map (named_piece v) (map (piece_of v) chunks)) (named_one v chunk) ∙ ap (λ (l : List Piece). keep chunk ∷ l) (named_pieces v chunks)

abbrev with_pieces : List ℕ → List Piece → PieceObject
with_pieces object pieces = record { len = length object; pieces = pieces }

named_objects : (v : ℕ) (objects : List (List ℕ)) (held : List (List Named)) → map (named_object v) (pieced_by v objects held) ≡ kept_objects objects held
named_objects v [] held = refl
named_objects v (object ∷ objects) held =
    ap (λ (l : List Piece). with_pieces object l ∷ map (named_object v) (pieced_by v objects (others_of held))) (named_pieces v (first_of held))
    ∙ ap (λ (l : List PieceObject). with_pieces object (map keep (first_of held)) ∷ l) (named_objects v objects (others_of held))

pub content_named : (v : ℕ) (content : Content) (held : List (List Named)) → named_content v (content_by v content held) ≡ kept_content content held
content_named v contents.Gone held = refl
content_named v (contents.Row cells objects) held = ap (λ (l : List PieceObject). kept_row l) (named_objects v objects held)
  where
    kept_row : List PieceObject → PieceContent
    kept_row l = piece_contents.Row cells l

-- ---- what is kept and what is new

abbrev pub is_kept : ℕ → ChunkName → Bool
is_kept v name = not (is_of_version v name)

names_pieced : (v : ℕ) (chunks : List Named) → names_in (map (piece_of v) chunks) ≡ filter (is_kept v) (names chunks)
names_pieced v [] = refl
names_pieced v (chunk ∷ chunks) = pick (is_of_version v chunk.0) (names_pieced v chunks)
  where
    pick : (b : Bool) → names_in (map (piece_of v) chunks) ≡ filter (is_kept v) (names chunks)
        → names_in ((if b then Fresh chunk.0.ordinal else Keep chunk.0) ∷ map (piece_of v) chunks) ≡ cond (not b) (chunk.0 ∷ filter (is_kept v) (names chunks)) (filter (is_kept v) (names chunks))
    pick true more = more
    pick false more = ap (λ (l : List ChunkName). chunk.0 ∷ l) more

pub content_kept : (v : ℕ) (content : Content) (held : List (List Named)) → length held ≡ length (objects_of content)
    → devices.names_of (content_by v content held) ≡ filter (is_kept v) (names_of held)
content_kept v contents.Gone [] e = refl
content_kept v contents.Gone (now ∷ held) e = absurd (omega (arith, e))
content_kept v (contents.Row cells objects) held e = ap names_in (pieced_pieces v objects held e) ∙ names_pieced v (flat held)

abbrev pub ordinals : List Named → List ℕ
ordinals chunks = map (λ (chunk : Named). chunk.0.ordinal) chunks

fresh_pieced : (v : ℕ) (chunks : List Named) → fresh_in (map (piece_of v) chunks) ≡ ordinals (filter (is_new v) chunks)
fresh_pieced v [] = refl
fresh_pieced v (chunk ∷ chunks) = pick (is_of_version v chunk.0) (fresh_pieced v chunks)
  where
    pick : (b : Bool) → fresh_in (map (piece_of v) chunks) ≡ ordinals (filter (is_new v) chunks)
        → fresh_in ((if b then Fresh chunk.0.ordinal else Keep chunk.0) ∷ map (piece_of v) chunks) ≡ ordinals (cond b (chunk ∷ filter (is_new v) chunks) (filter (is_new v) chunks))
    pick true more = ap (λ (l : List ℕ). chunk.0.ordinal ∷ l) more
    pick false more = more

pub objects_fresh : (v : ℕ) (objects : List (List ℕ)) (held : List (List Named)) → length held ≡ length objects
    → fresh_in (pieces_of (pieced_by v objects held)) ≡ ordinals (filter (is_new v) (flat held))
objects_fresh v objects held e = ap fresh_in (pieced_pieces v objects held e) ∙ fresh_pieced v (flat held)

pub ordinals_count : (v next : ℕ) (chunks : List Named) → AreNext v next chunks → CountsFrom next (ordinals chunks)
ordinals_count v next [] n = tt
ordinals_count v next (chunk ∷ chunks) n = (ap (λ (name : ChunkName). name.ordinal) n.0, ordinals_count v (next + 1) chunks n.1)

-- a name of an older version is among the kept ones exactly where it is among all
pub among_kept : (v : ℕ) (name : ChunkName) (all : List ChunkName) → is_of_version v name ≡ false → is_among name (filter (is_kept v) all) ≡ is_among name all
among_kept v name [] old = refl
among_kept v name (n ∷ all) old = pick (is_of_version v n) refl (among_kept v name all old)
  where
    pick : (b : Bool) → is_of_version v n ≡ b → is_among name (filter (is_kept v) all) ≡ is_among name all
        → is_among name (cond (not b) (n ∷ filter (is_kept v) all) (filter (is_kept v) all)) ≡ is_at (name_cmp name) n || is_among name all
    pick true is more =
        let apart : is_at (name_cmp name) n ≡ false = apart_name name n (λ same. true≢false (sym is ∙ ap (is_of_version v) (sym same) ∙ old)) in
        more ∙ sym (ap (λ (b : Bool). b || is_among name all) apart)
    pick false is more = ap (λ (b : Bool). is_at (name_cmp name) n || b) more

-- the names of the new chunks, and the new ones of the names
pub names_filter : (v : ℕ) (chunks : List Named) → filter (is_of_version v) (names chunks) ≡ names (filter (is_new v) chunks)
names_filter v [] = refl
names_filter v (chunk ∷ chunks) = pick (is_of_version v chunk.0) (names_filter v chunks)
  where
    pick : (b : Bool) → filter (is_of_version v) (names chunks) ≡ names (filter (is_new v) chunks)
        → cond b (chunk.0 ∷ filter (is_of_version v) (names chunks)) (filter (is_of_version v) (names chunks)) ≡ names (cond b (chunk ∷ filter (is_new v) chunks) (filter (is_new v) chunks))
    pick true more = ap (λ (l : List ChunkName). chunk.0 ∷ l) more
    pick false more = more
