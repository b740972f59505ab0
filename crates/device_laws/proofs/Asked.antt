-- The update of a request is one that may be asked for.
use Rattle.std.proofs.Common.{◌≡◌, inl, inr, ⊎_elim, ◌⊎◌, ℕ, suc, ◌+◌, ◌<◌, ◌≤◌, Bool, true, false, cond, List, [], ◌∷◌, length, Option, Some, None, refl, sym, ◌∙◌, ap, subst, arith, true≢false}
use Rattle.std.proofs.Common.{length-append}
use Rattle.std.specs.Prelude.{◌*◌, ◌^◌, not, filter, map, sum_by, IfSome, Ok, if◌then◌else◌}
use Rattle.std.specs.List.{AllByRecursion}
use Rattle.std.proofs.lemmas.Bool.Decides.{nat_tests}
use Rattle.std.proofs.lemmas.List.{length-map}
use Rattle.std.proofs.lemmas.List.Sums.{sum_by-cons}
use Rattle.stab_base.specs.declared.chunk_name.ChunkName.{ChunkName}
use Rattle.row_value.specs.declared.schema.Schema.{Schema}
use Rattle.row_value.specs.declared.content.Content.{Content}
use Rattle.row_value.specs.declared.content.Content.TheVariants as contents
use Rattle.row_value.specs.declared.pieces.Piece.{Piece}
use Rattle.row_value.specs.declared.pieces.Piece.TheVariants.{Keep, Fresh}
use Rattle.row_value.specs.declared.pieces.PieceObject.{PieceObject}
use Rattle.row_value.specs.declared.pieces.PieceContent.{PieceContent}
use Rattle.row_value.specs.declared.pieces.PieceContent.TheVariants.{Gone, Row}
use Rattle.row_value.specs.Fit.{fit_of}
use Rattle.value_codec.specs.Spelling.{HasNameSpelling, HasPieceSpelling, HasObjectSpelling, HasContentSpelling, CountsFrom, pieces_of}
use Rattle.value_codec.specs.SchemaSpelling.{HasSchemaSpelling}
use Rattle.row_store.specs.declared.stored.StoredRow.{StoredRow}
use Rattle.row_store.specs.Data.{row_of}
use Rattle.row_store.specs.Spelling.{IsClient, HasStoredSpelling}
use Rattle.store_commit.specs.declared.update.Update.{Update}
use Rattle.store_commit.specs.Devs.{Devs}
use Rattle.store_commit.specs.NamedChunks.{Among, AreDifferent, names_in}
use Rattle.store_commit.specs.NamedChunks as devices
use Rattle.store_commit.specs.Update.{names_if, content_size, content_most, chunk_most, fresh_of, IsUpdate}
use Rattle.store_commit.proofs.Leftovers.{among_filter}
use Rattle.store_commit.proofs.Plans.{names_in-append}
use Rattle.step_tables.specs.Store.{Stored}
use Rattle.step_tables.specs.Messages.{Request}
use Rattle.step_tables.specs.StoreMoves.{StoreDisk, item_for, keeps_there}
use Rattle.step_tables.specs.Chunks.{Named, others_of, is_of_version, objects_of, chunks_of, chunks_with, is_spelled}
use Rattle.device_laws.specs.Stands.{is_new, AreNext, IsMade, HaveWords, Stands, update_for}
use Rattle.device_laws.proofs.Names.{left_among, right_among, either_among, among_mapped, mapped_among, different_filter}
use Rattle.device_laws.proofs.Chunks.{flat, names, count_new, IsBetween, as_many}
use Rattle.device_laws.proofs.Made.{update_by, request_made, update_is_by}
use Rattle.device_laws.proofs.Pieces.{piece_of, pieced_by, content_by, is_kept, content_kept, objects_fresh, ordinals_count}
use Rattle.device_laws.proofs.Rows.{row_names}
use Rattle.device_laws.proofs.Entries.{now_from, now_different, before_below, news_next}
use Rattle.device_laws.proofs.Cuts.{bytes_of, AreCut, all_cut, all_count, all_short}
use Rattle.device_laws.proofs.AskedWhole.{update_fits, update_lens}
use Rattle.device_laws.proofs.Fits.{row_within, cells_spelled}

-- ---- names that have a spelling

names_spelled : (pieces : List Piece) → AllByRecursion HasPieceSpelling pieces → (name : ChunkName) → Among name (names_in pieces) → HasNameSpelling name
names_spelled [] h name a = absurd a
names_spelled (Keep n ∷ pieces) h name (inl same) = subst HasNameSpelling (sym same) h.0
names_spelled (Keep n ∷ pieces) h name (inr more) = names_spelled pieces h.1 name more
names_spelled (Fresh o ∷ pieces) h name a = names_spelled pieces h.1 name a

objects_spelled : (objects : List PieceObject) → AllByRecursion HasObjectSpelling objects → (name : ChunkName) → Among name (names_in (pieces_of objects)) → HasNameSpelling name
objects_spelled [] h name a = absurd a
objects_spelled (object ∷ objects) h name a =
    ⊎_elim (names_spelled object.pieces h.0.each_piece name) (objects_spelled objects h.1 name)
    (either_among name (names_in object.pieces) (names_in (pieces_of objects)) (subst (λ (l : List ChunkName). Among name l) (names_in-append object.pieces (pieces_of objects)) a))

content_spelled : (content : PieceContent) → HasContentSpelling content → (name : ChunkName) → Among name (devices.names_of content) → HasNameSpelling name
content_spelled Gone h name a = absurd a
content_spelled (Row cells objects) h name a = objects_spelled objects h.each_object name a

standing_spelled : (found : Option StoredRow) → IfSome found HasStoredSpelling → (name : ChunkName) → Among name (names_if found) → HasNameSpelling name
standing_spelled None h name a = absurd a
standing_spelled (Some stored) h name a = content_spelled stored.content h.content name a

-- ---- objects by their pieces

all_pieces : (v : ℕ) (chunks : List Named) → ((x : Named) → Among x chunks → HasPieceSpelling (piece_of v x)) → AllByRecursion HasPieceSpelling (map (piece_of v) chunks)
all_pieces v [] each = tt
all_pieces v (chunk ∷ chunks) each = (each chunk (inl refl), all_pieces v chunks (λ x a. each x (inr a)))

pieced_spelled : (v : ℕ) (objects : List (List ℕ)) (held : List (List Named)) → sum_by length objects < 2 ^ 32 → length (flat held) < 2 ^ 32
    → ((x : Named) → Among x (flat held) → HasPieceSpelling (piece_of v x)) → AllByRecursion HasObjectSpelling (pieced_by v objects held)
pieced_spelled v [] held len few each = tt
pieced_spelled v (object ∷ objects) [] len few each =
    let sum = sum_by-cons length object objects in (
      record { len = omega (arith, sum, len); count = omega arith; each_piece = tt },
      pieced_spelled v objects [] (omega (arith, sum, len)) few each,
    )
pieced_spelled v (object ∷ objects) (now ∷ held) len few each =
    let sum = sum_by-cons length object objects in
    let count = length-append now (flat held) in (
      record {
        len = omega (arith, sum, len);
        count = omega (arith, count, few, length-map now (piece_of v));
        each_piece = all_pieces v now (λ x a. each x (left_among x now (flat held) a));
      },
      pieced_spelled v objects held (omega (arith, sum, len)) (omega (arith, count, few)) (λ x a. each x (right_among x now (flat held) a)),
    )

pieced_size : (v : ℕ) (objects : List (List ℕ)) (held : List (List Named))
    → sum_by (λ (o : PieceObject). 8 + 13 * length o.pieces) (pieced_by v objects held) ≤ 8 * length objects + 13 * length (flat held)
pieced_size v [] held = omega arith
pieced_size v (object ∷ objects) [] =
    omega (arith, sum_by-cons (λ (o : PieceObject). 8 + 13 * length o.pieces) (record { len = length object; pieces = [] }) (pieced_by v objects []), pieced_size v objects [])
pieced_size v (object ∷ objects) (now ∷ held) =
    let sum = sum_by-cons (λ (o : PieceObject). 8 + 13 * length o.pieces) (record { len = length object; pieces = map (piece_of v) now }) (pieced_by v objects held) in
    omega (arith, sum, pieced_size v objects held, length-append now (flat held), length-map now (piece_of v))

all_filtered : (P : List ℕ → Type 0) (p : Named → Bool) (chunks : List Named) → ((x : Named) → Among x chunks → P x.1) → AllByRecursion P (bytes_of (filter p chunks))
all_filtered P p [] each = tt
all_filtered P p (chunk ∷ chunks) each = pick (p chunk) (all_filtered P p chunks (λ x a. each x (inr a)))
  where
    pick : (b : Bool) → AllByRecursion P (bytes_of (filter p chunks)) → AllByRecursion P (bytes_of (cond b (chunk ∷ filter p chunks) (filter p chunks)))
    pick true more = (each chunk (inl refl), more)
    pick false more = more

-- ---- the content of a request

module _ (schema : Schema) (valid : HasSchemaSpelling schema) where
  pub some_size : 0 < schema.chunk
  some_size = ⊎_elim (λ e. omega (arith, e)) (λ more. ⊎_elim (λ e. omega (arith, e)) (λ e. omega (arith, e)) more) valid.size

  pub most_size : schema.chunk ≤ chunk_most
  most_size = ⊎_elim (λ e. omega (arith, e)) (λ more. ⊎_elim (λ e. omega (arith, e)) (λ e. omega (arith, e)) more) valid.size

  pub chunks_few : (content : Content) (held : List (List Named)) → fit_of schema content ≡ Ok tt → AreCut schema.chunk (objects_of content) held → length (flat held) ≤ 32768
  chunks_few contents.Gone [] fits cut = omega arith
  chunks_few contents.Gone (now ∷ held) fits cut = absurd cut
  chunks_few (contents.Row cells objects) held fits cut = let w = row_within schema cells objects fits in omega (arith, all_count schema.chunk objects held some_size cut, w.chunks)

  module _ (v : ℕ) (held : List (List Named)) where
    pub has_spelling : (content : Content) → fit_of schema content ≡ Ok tt → HaveWords content → AreCut schema.chunk (objects_of content) held → length held ≡ length (objects_of content)
        → ((x : Named) → Among x (flat held) → HasPieceSpelling (piece_of v x)) → AreNext v 0 (filter (is_new v) (flat held)) → HasContentSpelling (content_by v content held)
    has_spelling contents.Gone fits cells cut many each next = tt
    has_spelling (contents.Row cells objects) fits words cut many each next =
        let w = row_within schema cells objects fits in
        let few = chunks_few (contents.Row cells objects) held fits cut in
        record {
          cell_count = omega (arith, w.cells_few, valid.most);
          each_cell = cells_spelled schema cells objects fits words;
          object_count = omega (arith, w.objects_few, valid.most, objects_many objects held);
          each_object = pieced_spelled v objects held (omega (arith, w.len)) (omega (arith, few)) each;
          fresh = subst (CountsFrom 0) (sym (objects_fresh v objects held many)) (ordinals_count v 0 (filter (is_new v) (flat held)) next);
        }
      where
        objects_many : (os : List (List ℕ)) (h : List (List Named)) → length (pieced_by v os h) ≡ length os
        objects_many [] h = refl
        objects_many (o ∷ os) h = ap suc (objects_many os (others_of h))

    pub is_short : (content : Content) → fit_of schema content ≡ Ok tt → AreCut schema.chunk (objects_of content) held → content_size (content_by v content held) ≤ content_most
    is_short contents.Gone fits cut = omega arith
    is_short (contents.Row cells objects) fits cut =
        let w = row_within schema cells objects fits in
        let few = chunks_few (contents.Row cells objects) held fits cut in
        omega (arith, w.spelled, w.objects_few, valid.most, few, pieced_size v objects held)

    pub fresh_count : (content : Content) → length held ≡ length (objects_of content) → length (bytes_of (filter (is_new v) (flat held))) ≡ length (fresh_of (content_by v content held))
    fresh_count contents.Gone many = none held many
      where
        none : (h : List (List Named)) → length h ≡ 0 → length (bytes_of (filter (is_new v) (flat h))) ≡ 0
        none [] e = refl
        none (now ∷ h) e = absurd (omega (arith, e))
    fresh_count (contents.Row cells objects) many =
        let new = filter (is_new v) (flat held) in
        length-map new (λ (x : Named). x.1) ∙ (sym (length-map new (λ (x : Named). x.0.ordinal)) ∙ ap length (sym (objects_fresh v objects held many)))

-- ---- the update

module _ (schema : Schema) (d : Devs) (disk : StoreDisk) (st : Stands schema d disk) (request : Request) (valid : HasSchemaSpelling schema) (fits : fit_of schema request.content ≡ Ok tt)
    (cells : HaveWords request.content) (row : IfSome (row_of d.held request.row) HasStoredSpelling) (m : IsMade schema.chunk disk.items (item_for disk.items request)) where
  abbrev size : ℕ
  size = schema.chunk

  abbrev item : Stored
  item = item_for disk.items request

  abbrev v : ℕ
  v = length disk.items + 1

  abbrev before : List Named
  before = flat (chunks_of size disk.items request.row)

  abbrev held : List (List Named)
  held = chunks_with size item

  abbrev now : List Named
  now = flat held

  abbrev update : Update
  update = update_by size disk.items request

  cut : AreCut size (objects_of request.content) held
  cut = all_cut size item.names (objects_of request.content) m.each

  many : length held ≡ length (objects_of request.content)
  many = as_many size item.names (objects_of request.content)

  few : length now ≤ 32768
  few = chunks_few schema valid request.content held fits cut

  count_most : (xs : List Named) → count_new v xs ≤ length xs
  count_most [] = omega arith
  count_most (x ∷ xs) = pick (is_new v x) (count_most xs)
    where
      pick : (b : Bool) → count_new v xs ≤ length xs → length (cond b (x ∷ filter (is_new v) xs) (filter (is_new v) xs)) ≤ length (x ∷ xs)
      pick true le = omega (arith, le)
      pick false le = omega (arith, le)

  stands_there : (x : Named) → Among x before → Among x.0 (names_if (row_of d.held request.row))
  stands_there x a = subst (λ (l : List ChunkName). Among x.0 l) (sym (row_names size disk.items d.held st.held.numbered st.held.rows request.row)) (mapped_among (λ (c : Named). c.0) x before a)

  piece_spelled : (x : Named) → Among x now → HasPieceSpelling (piece_of v x)
  piece_spelled x a = pick (is_of_version v x.0) refl (now_from size disk.items item st.held.numbered refl st.held.made m x a)
    where
      pick : (b : Bool) → is_of_version v x.0 ≡ b → Among x before ⊎ IsBetween v 0 (0 + count_new v now) x.0 → HasPieceSpelling (if b then Fresh x.0.ordinal else Keep x.0)
      pick true is (inl kept) = absurd (let low = before_below size disk.items item st.held.numbered refl st.held.made m x kept in let same : x.0.version ≡ v = grind (arith, nat_tests) in omega arith)
      pick true is (inr new) = let most = count_most now in omega (arith, new.most, most, few)
      pick false is (inl kept) = standing_spelled (row_of d.held request.row) row x.0 (stands_there x kept)
      pick false is (inr new) = absurd (let same = new.version_is in let test : is_of_version v x.0 ≡ true = grind (arith, nat_tests) in true≢false (sym test ∙ is))

  kept_names : devices.names_of update.content ≡ filter (is_kept v) (names now)
  kept_names = content_kept v request.content held many

  kept_stands : (name : ChunkName) → Among name (devices.names_of update.content) → Among name (names_if (row_of d.held request.row))
  kept_stands name a =
      let k = among_filter (is_kept v) name (names now) (subst (λ (l : List ChunkName). Among name l) kept_names a) in
      let x = among_mapped (λ (c : Named). c.0) name now k.1 in
      ⊎_elim
      (λ old. subst (λ (n : ChunkName). Among n (names_if (row_of d.held request.row))) (sym x.2) (stands_there x.0 old))
      (λ new.
      let is : name.version ≡ v = ap (λ (n : ChunkName). n.version) x.2 ∙ new.version_is in
      let test : is_of_version v name ≡ true = grind (arith, nat_tests) in
      absurd (true≢false (sym k.0 ∙ ap not test)))
      (now_from size disk.items item st.held.numbered refl st.held.made m x.0 x.1)

  pub is_update_by : IsClient request.client → IsUpdate d update
  is_update_by client = record {
    client = client;
    content = has_spelling schema valid v held request.content fits cells cut many piece_spelled (news_next size disk.items item st.held.numbered refl st.held.made m);
    short = is_short schema valid v held request.content fits cut;
    different = subst AreDifferent (sym kept_names) (different_filter (is_kept v) (names now) (now_different size disk.items item st.held.numbered refl st.held.made m));
    kept = kept_stands;
    fresh = fresh_count schema valid v held request.content many;
    chunks = all_filtered (λ (bytes : List ℕ). length bytes ≤ chunk_most) (is_new v) now (λ x a. omega (arith, all_short size (objects_of request.content) held cut x a, most_size schema valid));
    fits = update_fits schema d disk st request m fits;
    lens = update_lens schema d disk st request m (some_size schema valid);
  }

pub update_is : (schema : Schema) (d : Devs) (disk : StoreDisk) (st : Stands schema d disk) (request : Request) → HasSchemaSpelling schema → fit_of schema request.content ≡ Ok tt
    → HaveWords request.content → IfSome (row_of d.held request.row) HasStoredSpelling
    → is_spelled schema.chunk request.content request.pieces ≡ true → keeps_there schema.chunk disk.items request ≡ true → IsClient request.client
    → IsUpdate d (update_for schema.chunk request)
update_is schema d disk st request valid fits cells row spelled there client =
    subst (IsUpdate d) (update_is_by schema.chunk disk.items st.held.numbered st.held.made request spelled there)
    (is_update_by schema d disk st request valid fits cells row (request_made schema.chunk disk.items st.held.numbered st.held.made request spelled there) client)
