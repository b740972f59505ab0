-- What is read from devices that stand for a disk is what the step table tells of it.
use Rattle.std.proofs.Common.{◌≡◌, inl, inr, ⊎_elim, ℕ, ◌<◌, List, [], ◌∷◌, length, Option, Some, None, Ok, refl, sym, ◌∙◌, ap, subst, arith}
use Rattle.std.specs.Prelude.{◌==◌, ◌^◌, true, map, zip, sum_by, option_map, unwrap_or}
use Rattle.stab_base.specs.declared.chunk_name.ChunkName.{ChunkName}
use Rattle.std.specs.List.{concat}
use Rattle.row_value.specs.Fit.{fit_of}
use Rattle.row_value.specs.declared.schema.Schema.{Schema}
use Rattle.row_value.specs.declared.content.Content.{Content}
use Rattle.row_value.specs.declared.content.Content.TheVariants as contents
use Rattle.row_value.specs.declared.pieces.PieceContent.{PieceContent}
use Rattle.chunk_store.specs.Standing.{chunk_in}
use Rattle.row_store.specs.declared.stored.StoredRow.{StoredRow}
use Rattle.row_store.specs.Data.{row_of}
use Rattle.store_commit.specs.Devs.{Devs}
use Rattle.store_commit.specs.NamedChunks.{Among, AreDifferent}
use Rattle.store_commit.specs.Update.{lasts_if}
use Rattle.store_commit.proofs.Begins.{one_version}
use Rattle.step_tables.specs.Store.{Stored, current_of, next_changed}
use Rattle.step_tables.specs.Store as table
use Rattle.step_tables.specs.StoreMoves.{StoreDisk, version_of, yours_in, header_for, pulled_for, torn_pulled_for}
use Rattle.step_tables.specs.Messages.{Header}
use Rattle.step_tables.specs.Travels.{header_of, pulled_of, torn_of, torn_pulled_of}
use Rattle.step_tables.specs.Chunks.{Named, objects_of, chunks_of, names_of, each_chunk, is_of_each, cut}
use Rattle.step_tables.specs.declared.message.PullRequest.{PullRequest}
use Rattle.step_tables.specs.declared.message.PullResponse.{PullResponse}
use Rattle.step_tables.specs.declared.message.TornRowRequest.{TornRowRequest}
use Rattle.step_tables.specs.declared.message.TornRowResponse.{TornRowResponse}
use Rattle.device_laws.specs.Stands.{Stands, IsStoredAs, kept_objects, kept_content, pair_in}
use Rattle.device_laws.specs.Reads.{row_version_of}
use Rattle.device_laws.proofs.Names.{left_among, right_among}
use Rattle.device_laws.proofs.Numbered.{current_row}
use Rattle.device_laws.proofs.Chunks.{flat, no_chunks, chunks_are, last_chunks, row_sound}
use Rattle.device_laws.proofs.Pieces.{keep}
use Rattle.device_laws.proofs.Cuts.{AreCut, all_cut, cut_is, both_tests, same_count}
use Rattle.device_laws.proofs.Rows.{at_row, row_lasts, table_version}
use Rattle.device_laws.proofs.Fits.{row_within}
use Rattle.device_laws.proofs.Next.{changed_is, next_stands}
use Rattle.store_node.specs.Reading.{bytes_in, named_in, held_by, held_in, whole_object, whole_of, whole_row, whole_at, names_held, shown_row, shown_of}
use Rattle.store_node.specs.declared.showing.ShownRow.{ShownRow}
use Rattle.store_node.specs.Calls.{IsRow, IsRowAt}
use Rattle.store_node.specs.Taking.{held_if, version_if, header_by, header_at, version_or, IsPulled, IsTornPulled}

-- ---- a content by its chunks

module _ (d : Devs) (size : ℕ) (some : 0 < size) where
  abbrev There : List Named → Type 0
  There now = (x : Named) → Among x now → chunk_in d.chunks x.0 ≡ Some x.1

  named_kept : (now : List Named) → There now → named_in d (map keep now) ≡ now
  named_kept [] there = refl
  named_kept (x ∷ now) there =
      let same : bytes_in d x.0 ≡ x.1 = ap (λ (o : Option (List ℕ)). unwrap_or o []) (there x (inl refl)) in
      ap (λ (bytes : List ℕ). (x.0, bytes) ∷ named_in d (map keep now)) same ∙ ap (λ (l : List Named). x ∷ l) (named_kept now (λ y a. there y (inr a)))

  objects_held : (objects : List (List ℕ)) (held : List (List Named)) → AreCut size objects held → There (flat held) → held_by d (kept_objects objects held) ≡ held
  objects_held [] [] c there = refl
  objects_held [] (now ∷ held) c there = absurd c
  objects_held (object ∷ objects) [] c there = absurd c
  objects_held (object ∷ objects) (now ∷ held) c there =
      ap (λ (l : List Named). l ∷ held_by d (kept_objects objects held)) (named_kept now (λ x a. there x (left_among x now (flat held) a)))
      ∙ ap (λ (l : List (List Named)). now ∷ l) (objects_held objects held c.1 (λ x a. there x (right_among x now (flat held) a)))

  content_held : (content : Content) (held : List (List Named)) → AreCut size (objects_of content) held → There (flat held) → held_in d (kept_content content held) ≡ held
  content_held contents.Gone [] c there = refl
  content_held contents.Gone (now ∷ held) c there = absurd c
  content_held (contents.Row cells objects) held c there = objects_held objects held c there

  objects_whole : (objects : List (List ℕ)) (held : List (List Named)) → AreCut size objects held → map whole_object held ≡ objects
  objects_whole [] [] c = refl
  objects_whole [] (now ∷ held) c = absurd c
  objects_whole (object ∷ objects) [] c = absurd c
  objects_whole (object ∷ objects) (now ∷ held) c =
      ap (λ (bytes : List ℕ). bytes ∷ map whole_object held) (ap concat c.0 ∙ (cut_is size object some).whole) ∙ ap (λ (l : List (List ℕ)). object ∷ l) (objects_whole objects held c.1)

  content_whole : (content : Content) (held : List (List Named)) → AreCut size (objects_of content) held → whole_of (kept_content content held) held ≡ content
  content_whole contents.Gone held c = refl
  content_whole (contents.Row cells objects) held c = ap (λ (l : List (List ℕ)). contents.Row cells l) (objects_whole objects held c)

-- ---- the names of the chunks

zip_names : (names : List ChunkName) (bytes : List (List ℕ)) → length names ≡ length bytes → map (λ (chunk : Named). chunk.0) (zip names bytes) ≡ names
zip_names [] bytes e = refl
zip_names (name ∷ names) [] e = absurd (omega (arith, e))
zip_names (name ∷ names) (chunk ∷ bytes) e = ap (λ (l : List ChunkName). name ∷ l) (zip_names names bytes (omega (arith, e)))

names_back : (size : ℕ) (names : List (List ChunkName)) (objects : List (List ℕ)) → is_of_each size names objects ≡ true → names_held (each_chunk size names objects) ≡ names
names_back size [] [] h = refl
names_back size [] (object ∷ objects) h = absurd cc
names_back size (here ∷ names) [] h = absurd cc
names_back size (here ∷ names) (object ∷ objects) h =
    let t = both_tests (length here == length (cut size object)) (is_of_each size names objects) h in
    ap (λ (l : List ChunkName). l ∷ names_held (each_chunk size names objects)) (zip_names here (cut size object) (same_count (length here) (length (cut size object)) t.0))
    ∙ ap (λ (l : List (List ChunkName)). here ∷ l) (names_back size names objects t.1)

-- ---- devices that stand for a disk

module _ (schema : Schema) (d : Devs) (disk : StoreDisk) (some : 0 < schema.chunk) (st : Stands schema d disk) where
  abbrev size : ℕ
  size = schema.chunk

  abbrev items : List Stored
  items = disk.items

  module _ (row : List ℕ) where
    abbrev chunks : List (List Named)
    chunks = chunks_of size items row

    chunks_cut : (item : Stored) → current_of items row ≡ Some item → AreCut size (objects_of item.content) chunks
    chunks_cut item is =
        let last = last_chunks size items st.held.numbered st.held.made row item is in
        subst (AreCut size (objects_of item.content)) (sym (chunks_are size items row item is)) (all_cut size item.names (objects_of item.content) last.each)

    chunks_there : There d size some (flat chunks)
    chunks_there x a = st.chunks.held x.0 x.1 (record { row = row; among = a })

    content_is : (item : Stored) (stored : StoredRow) → current_of items row ≡ Some item → IsStoredAs size items item stored → stored.content ≡ kept_content item.content chunks
    content_is item stored is s = subst (λ (r : List ℕ). stored.content ≡ kept_content item.content (chunks_of size items r)) (current_row items row item is).1 s.content

    held_now : (item : Stored) (stored : StoredRow) → current_of items row ≡ Some item → IsStoredAs size items item stored → held_in d stored.content ≡ chunks
    held_now item stored is s = ap (held_in d) (content_is item stored is s) ∙ content_held d size some item.content chunks (chunks_cut item is) chunks_there

    pub held_is : held_if d (row_of d.held row) ≡ chunks
    held_is =
        ⊎_elim
        (λ none. ap (held_if d) none.1 ∙ sym (no_chunks size items row none.0))
        (λ found. ap (held_if d) found.3 ∙ held_now found.0 found.1 found.2 found.4)
        (at_row size items d.held st.held.numbered st.held.rows row)

    -- none of their names stands twice
    pub held_different : AreDifferent (names_of chunks)
    held_different = (row_sound size items st.held.numbered st.held.made row).different

    pub yours_is : (client : ℕ) → pair_in (lasts_if (row_of d.held row)) client ≡ yours_in items client row
    yours_is client = row_lasts size items d.held st.held.numbered st.held.rows row client

    pub version_is : version_if (row_of d.held row) ≡ version_of (current_of items row)
    version_is =
        ⊎_elim
        (λ none. ap version_if none.1 ∙ sym (ap version_of none.0))
        (λ found. ap version_if found.3 ∙ (found.4.version ∙ sym (ap version_of found.2)))
        (at_row size items d.held st.held.numbered st.held.rows row)

    whole_now : (item : Stored) (stored : StoredRow) → current_of items row ≡ Some item → IsStoredAs size items item stored → whole_of stored.content (held_in d stored.content) ≡ item.content
    whole_now item stored is s =
        ap (whole_of stored.content) (held_now item stored is s) ∙ (ap (λ (c : PieceContent). whole_of c chunks) (content_is item stored is s) ∙ content_whole d size some item.content chunks (chunks_cut item is))

    names_now : (item : Stored) (stored : StoredRow) → current_of items row ≡ Some item → IsStoredAs size items item stored → names_held (held_in d stored.content) ≡ item.names
    names_now item stored is s =
        ap names_held (held_now item stored is s ∙ chunks_are size items row item is) ∙ names_back size item.names (objects_of item.content) (last_chunks size items st.held.numbered st.held.made row item is).each

    header_now : (client : ℕ) (item : Stored) (stored : StoredRow) → current_of items row ≡ Some item → IsStoredAs size items item stored → header_by client (whole_row d stored) ≡ header_for items client item
    header_now client item stored is s = made (whole_now item stored is s) (names_now item stored is s) s.row s.version (s.lasts client)
      where
        made : whole_of stored.content (held_in d stored.content) ≡ item.content → names_held (held_in d stored.content) ≡ item.names → stored.row ≡ item.entry.row → stored.version ≡ item.entry.version → pair_in stored.pairs client ≡ yours_in items client item.entry.row
            → header_by client (whole_row d stored) ≡ header_for items client item
        made content names row_ version yours = cc

    pub header_is : (client : ℕ) → option_map (header_by client) (whole_at d row) ≡ option_map (header_for items client) (current_of items row)
    header_is client =
        ⊎_elim
        (λ none. ap (λ (o : Option StoredRow). option_map (header_by client) (option_map (whole_row d) o)) none.1 ∙ sym (ap (option_map (header_for items client)) none.0))
        (λ found. ap (λ (o : Option StoredRow). option_map (header_by client) (option_map (whole_row d) o)) found.3
        ∙ (ap (λ (h : Header). Some h) (header_now client found.0 found.1 found.2 found.4) ∙ sym (ap (option_map (header_for items client)) found.2)))
        (at_row size items d.held st.held.numbered st.held.rows row)

    row_now : (item : Stored) (stored : StoredRow) → current_of items row ≡ Some item → IsStoredAs size items item stored → IsRow items row item (whole_row d stored)
    row_now item stored is s =
        let at : item.entry.row ≡ row = (current_row items row item is).1 in
        record {
          id = s.row ∙ at;
          version = s.version;
          content = whole_now item stored is s;
          names = names_now item stored is s;
          yours = λ client. s.lasts client ∙ ap (λ (r : List ℕ). yours_in items client r) at;
        }

    pub row_is : IsRowAt items row (current_of items row) (whole_at d row)
    row_is =
        ⊎_elim
        (λ none. subst (λ (o : Option StoredRow). IsRowAt items row (current_of items row) (option_map (whole_row d) o)) (sym none.1) (subst (λ (o : Option Stored). IsRowAt items row o None) (sym none.0) tt))
        (λ found. subst (λ (o : Option StoredRow). IsRowAt items row (current_of items row) (option_map (whole_row d) o)) (sym found.3)
        (subst (λ (o : Option Stored). IsRowAt items row o (Some (whole_row d found.1))) (sym found.2) (row_now found.0 found.1 found.2 found.4)))
        (at_row size items d.held st.held.numbered st.held.rows row)

    shown_now : (item : Stored) (stored : StoredRow) → current_of items row ≡ Some item → IsStoredAs size items item stored → shown_row (whole_row d stored) ≡ shown_of item
    shown_now item stored is s = made (whole_now item stored is s) s.version
      where
        made : whole_of stored.content (held_in d stored.content) ≡ item.content → stored.version ≡ item.entry.version → shown_row (whole_row d stored) ≡ shown_of item
        made content version = cc

    pub shown_is : option_map shown_row (whole_at d row) ≡ option_map shown_of (current_of items row)
    shown_is =
        ⊎_elim
        (λ none. ap (λ (o : Option StoredRow). option_map shown_row (option_map (whole_row d) o)) none.1 ∙ sym (ap (option_map shown_of) none.0))
        (λ found. ap (λ (o : Option StoredRow). option_map shown_row (option_map (whole_row d) o)) found.3
        ∙ (ap (λ (x : ShownRow). Some x) (shown_now found.0 found.1 found.2 found.4) ∙ sym (ap (option_map shown_of) found.2)))
        (at_row size items d.held st.held.numbered st.held.rows row)

  -- ---- a pull

  header_next : (client : ℕ) (o : Option Stored) → ((i : Stored) → o ≡ Some i → current_of items i.entry.row ≡ Some i) → header_at d client (option_map row_version_of o) ≡ option_map (header_for items client) o
  header_next client None at = refl
  header_next client (Some i) at = header_is i.entry.row client ∙ ap (option_map (header_for items client)) (at i refl)

  to_next : (position : ℕ) (o : Option Stored) → version_or position (option_map row_version_of o) ≡ table.version_or position o
  to_next position None = refl
  to_next position (Some i) = refl

  pub pulled_is : (request : PullRequest) (response : PullResponse) → IsPulled d request response
      → pulled_of response ≡ pulled_for items (record { client = request.client; table = request.table; position = request.position }) (next_changed request.position items)
  pulled_is request response k =
      let o = next_changed request.position items in
      let next : k.next ≡ option_map row_version_of o = changed_is request.position schema d disk st k.next k.is_next in
      let header : option_map header_of response.header ≡ option_map (header_for items request.client) o =
      k.header ∙ (ap (header_at d request.client) next ∙ header_next request.client o (λ i is. next_stands request.position schema d disk st i is)) in
      let to : response.to ≡ table.version_or request.position o = k.to ∙ (ap (version_or request.position) next ∙ to_next request.position o) in
      let latest : response.latest ≡ length items = one_version d.held response.latest (length items) k.latest (table_version size items d.held st.held.numbered st.held.rows) in
      made response k.client k.table k.from to latest header
    where
      made : (r : PullResponse) → r.client ≡ request.client → r.table ≡ request.table → r.from ≡ request.position → r.to ≡ table.version_or request.position (next_changed request.position items) → r.latest ≡ length items
          → option_map header_of r.header ≡ option_map (header_for items request.client) (next_changed request.position items)
          → pulled_of r ≡ pulled_for items (record { client = request.client; table = request.table; position = request.position }) (next_changed request.position items)
      made r client table_ from to latest header = cc

  -- ---- a row that is asked for whole

  pub torn_is : (request : TornRowRequest) (response : TornRowResponse) → IsTornPulled d request response
      → torn_pulled_of response ≡ torn_pulled_for items (torn_of request) (current_of items request.row)
  torn_is request response k = made response k.client k.table k.row (k.header ∙ header_is request.row request.client)
    where
      made : (r : TornRowResponse) → r.client ≡ request.client → r.table ≡ request.table → r.row ≡ request.row
          → option_map header_of r.header ≡ option_map (header_for items request.client) (current_of items request.row)
          → torn_pulled_of r ≡ torn_pulled_for items (torn_of request) (current_of items request.row)
      made r client table_ row header = cc

-- ---- what fits is counted

pub fits_counted : (schema : Schema) (content : Content) → fit_of schema content ≡ Ok tt → sum_by length (objects_of content) < 2 ^ 32
fits_counted schema contents.Gone fits = omega arith
fits_counted schema (contents.Row cells objects) fits = let w = row_within schema cells objects fits in let l = w.len in omega (arith, l)
