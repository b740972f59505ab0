-- The update of a request is whole: its content fits the schema by its lengths, and its pieces have the lengths of their places.
use Rattle.std.proofs.Common.{◌≡◌, inl, inr, ⊎_elim, ℕ, ◌+◌, ◌<◌, Bool, true, false, List, [], ◌∷◌, length, Option, Some, None, refl, sym, ◌∙◌, ap, subst, arith}
use Rattle.std.specs.Prelude.{◌==◌, ◌&&◌, not, map, is_ok, unwrap_or, Ok}
use Rattle.std.specs.List.{list_all}
use Rattle.std.proofs.lemmas.Bool.Decides.{nat_tests}
use Rattle.std.proofs.lemmas.List.{length-map, length-replicate}
use Rattle.stab_base.specs.declared.chunk_name.ChunkName.{ChunkName}
use Rattle.row_value.specs.Fit.{fit_of}
use Rattle.row_value.specs.declared.schema.Schema.{Schema}
use Rattle.row_value.specs.declared.content.Content.{Content}
use Rattle.row_value.specs.declared.content.Content.TheVariants as contents
use Rattle.row_value.specs.declared.pieces.Piece.{Piece}
use Rattle.row_value.specs.declared.pieces.PieceContent.{PieceContent}
use Rattle.chunker.specs.Sized.{count_of, len_at, zeros_for, fits_by_len}
use Rattle.chunk_store.specs.Standing.{chunk_in}
use Rattle.row_store.specs.declared.stored.StoredRow.{StoredRow}
use Rattle.row_store.specs.Data.{row_of}
use Rattle.store_commit.specs.Devs.{Devs}
use Rattle.store_commit.specs.NamedChunks.{Among}
use Rattle.store_commit.specs.There.{kept, has_len, lens_from, has_lens, all_lens, lacks, misfits}
use Rattle.store_commit.specs.Update.{brought}
use Rattle.step_tables.specs.Store.{Stored, current_of}
use Rattle.step_tables.specs.Messages.{Request}
use Rattle.step_tables.specs.StoreMoves.{StoreDisk, item_for}
use Rattle.step_tables.specs.Chunks.{Named, others_of, objects_of, chunks_of, chunks_with, cut}
use Rattle.device_laws.specs.Stands.{kept_objects, kept_content, IsMade, IsStoredAs, Stands}
use Rattle.device_laws.proofs.Names.{left_among, right_among}
use Rattle.device_laws.proofs.Chunks.{flat, chunks_are, last_chunks}
use Rattle.device_laws.proofs.Made.{update_by}
use Rattle.device_laws.proofs.Numbered.{current_row}
use Rattle.device_laws.proofs.Pieces.{keep, piece_of, pieced_by, content_by}
use Rattle.device_laws.proofs.Rows.{at_row}
use Rattle.device_laws.proofs.NamedDevices.{meaning}
use Rattle.device_laws.proofs.Cuts.{bytes_of, AreCut, HaveLens, all_cut, cut_lens, now_count}
use Rattle.device_laws.proofs.Fits.{HaveSameLens, fits_by_lengths}
use Rattle.device_laws.proofs.Lens.{pieced_lens, pieces_stand}

-- ---- lengths

both : (a b : Bool) → a ≡ true → b ≡ true → a && b ≡ true
both true b p q = q
both false b p q = absurd cc

same_test : (a b : ℕ) → a ≡ b → (a == b) ≡ true
same_test a b e = grind (arith, nat_tests)

module _ (stands : Piece → Option (List ℕ)) (size : ℕ) (piece : Named → Piece) where
  pieces_long : (len place : ℕ) (now : List Named) → HaveLens size len place (bytes_of now) → ((x : Named) → Among x now → stands (piece x) ≡ Some x.1) → lens_from stands size len place (map piece now) ≡ true
  pieces_long len place [] h each = refl
  pieces_long len place (x ∷ now) h each =
      both (has_len (stands (piece x)) (len_at size len place)) (lens_from stands size len (place + 1) (map piece now))
      (ap (λ (o : Option (List ℕ)). has_len o (len_at size len place)) (each x (inl refl)) ∙ same_test (length x.1) (len_at size len place) h.0)
      (pieces_long len (place + 1) now h.1 (λ y a. each y (inr a)))

  object_long : (object : List ℕ) (now : List Named) → 0 < size → bytes_of now ≡ cut size object → ((x : Named) → Among x now → stands (piece x) ≡ Some x.1)
      → has_lens stands size (record { len = length object; pieces = map piece now }) ≡ true
  object_long object now some c each =
      both (length (map piece now) == count_of size (length object)) (lens_from stands size (length object) 0 (map piece now))
      (same_test (length (map piece now)) (count_of size (length object)) (length-map now piece ∙ now_count size object now some c))
      (pieces_long (length object) 0 now (subst (HaveLens size (length object) 0) (sym c) (cut_lens size object)) each)

module _ (stands : Piece → Option (List ℕ)) (size v : ℕ) where
  objects_long : (objects : List (List ℕ)) (held : List (List Named)) → 0 < size → AreCut size objects held → ((x : Named) → Among x (flat held) → stands (piece_of v x) ≡ Some x.1)
      → list_all (has_lens stands size) (pieced_by v objects held) ≡ true
  objects_long [] held some c each = refl
  objects_long (object ∷ objects) [] some c each = absurd c
  objects_long (object ∷ objects) (now ∷ held) some c each =
      both (has_lens stands size (record { len = length object; pieces = map (piece_of v) now })) (list_all (has_lens stands size) (pieced_by v objects held))
      (object_long stands size (piece_of v) object now some c.0 (λ x a. each x (left_among x now (flat held) a)))
      (objects_long objects held some c.1 (λ x a. each x (right_among x now (flat held) a)))

  content_long : (content : Content) (held : List (List Named)) → 0 < size → AreCut size (objects_of content) held → ((x : Named) → Among x (flat held) → stands (piece_of v x) ≡ Some x.1)
      → all_lens stands size (content_by v content held) ≡ true
  content_long contents.Gone held some c each = refl
  content_long (contents.Row cells objects) held some c each = objects_long objects held some c each

  -- the same of a content by the names of its chunks
  objects_kept : (objects : List (List ℕ)) (held : List (List Named)) → 0 < size → AreCut size objects held → ((x : Named) → Among x (flat held) → stands (keep x) ≡ Some x.1)
      → list_all (has_lens stands size) (kept_objects objects held) ≡ true
  objects_kept [] held some c each = refl
  objects_kept (object ∷ objects) [] some c each = absurd c
  objects_kept (object ∷ objects) (now ∷ held) some c each =
      both (has_lens stands size (record { len = length object; pieces = map keep now })) (list_all (has_lens stands size) (kept_objects objects held))
      (object_long stands size keep object now some c.0 (λ x a. each x (left_among x now (flat held) a)))
      (objects_kept objects held some c.1 (λ x a. each x (right_among x now (flat held) a)))

  content_kept : (content : Content) (held : List (List Named)) → 0 < size → AreCut size (objects_of content) held → ((x : Named) → Among x (flat held) → stands (keep x) ≡ Some x.1)
      → all_lens stands size (kept_content content held) ≡ true
  content_kept contents.Gone held some c each = refl
  content_kept (contents.Row cells objects) held some c each = objects_kept objects held some c each

kept_lens : (objects : List (List ℕ)) (held : List (List Named)) → HaveSameLens objects (zeros_for (kept_objects objects held))
kept_lens [] held = tt
kept_lens (object ∷ objects) held = (sym (length-replicate (length object) 0), kept_lens objects (others_of held))

kept_fits : (schema : Schema) (content : Content) (held : List (List Named)) → fit_of schema content ≡ Ok tt → fits_by_len schema (kept_content content held) ≡ true
kept_fits schema contents.Gone held fits = ap is_ok fits
kept_fits schema (contents.Row cells objects) held fits =
    ap is_ok (sym (fits_by_lengths schema cells objects (zeros_for (kept_objects objects held)) (kept_lens objects held)) ∙ fits)

content_fits : (schema : Schema) (v : ℕ) (content : Content) (held : List (List Named)) → fit_of schema content ≡ Ok tt → fits_by_len schema (content_by v content held) ≡ true
content_fits schema v contents.Gone held fits = ap is_ok fits
content_fits schema v (contents.Row cells objects) held fits =
    ap is_ok (sym (fits_by_lengths schema cells objects (zeros_for (pieced_by v objects held)) (pieced_lens v objects held)) ∙ fits)

-- ---- the update

module _ (schema : Schema) (d : Devs) (disk : StoreDisk) (st : Stands schema d disk) (request : Request) (m : IsMade schema.chunk disk.items (item_for disk.items request)) where
  abbrev size : ℕ
  size = schema.chunk

  abbrev v : ℕ
  v = length disk.items + 1

  abbrev held : List (List Named)
  held = chunks_with size (item_for disk.items request)

  abbrev stands : Piece → Option (List ℕ)
  stands = brought (chunk_in d.chunks) (update_by size disk.items request).fresh

  pub update_fits : fit_of schema request.content ≡ Ok tt → misfits d.held.table (update_by size disk.items request).content ≡ false
  update_fits fits =
      subst (λ (o : Option (Schema × ℕ)). misfits o (content_by v request.content held) ≡ false) (sym st.held.table)
      (ap not (content_fits schema v request.content held fits))

  pub update_lens : 0 < schema.chunk → lacks stands d.held.table (update_by size disk.items request).content ≡ false
  update_lens some =
      subst (λ (o : Option (Schema × ℕ)). lacks stands o (content_by v request.content held) ≡ false) (sym st.held.table)
      (ap not (content_long stands size v request.content held some (all_cut size (item_for disk.items request).names (objects_of request.content) m.each)
      (pieces_stand schema d disk st request m stands (λ name. refl) (λ ordinal. refl))))

-- ---- the rows that stand

module _ (schema : Schema) (d : Devs) (disk : StoreDisk) (some : 0 < schema.chunk) (st : Stands schema d disk) (row : List ℕ) where
  abbrev means : ChunkName → List ℕ
  means = meaning schema d disk st

  found_means : (o : Option (List ℕ)) (bytes : List ℕ) → o ≡ Some bytes → Some (unwrap_or o []) ≡ o
  found_means None bytes is = absurd cc
  found_means (Some b) bytes is = refl

  abbrev Whole : StoredRow → Type 0
  Whole stored = (misfits d.held.table stored.content ≡ false) × (lacks (kept (λ name. Some (means name))) d.held.table stored.content ≡ false)

  item_whole : (item : Stored) (stored : StoredRow) → current_of disk.items row ≡ Some item → fit_of schema item.content ≡ Ok tt → IsStoredAs schema.chunk disk.items item stored → Whole stored
  item_whole item stored is fits s =
      let own = (current_row disk.items row item is).1 in
      let chunks = chunks_of schema.chunk disk.items row in
      let last = last_chunks schema.chunk disk.items st.held.numbered st.held.made row item is in
      let c : AreCut schema.chunk (objects_of item.content) chunks =
      subst (AreCut schema.chunk (objects_of item.content)) (sym (chunks_are schema.chunk disk.items row item is)) (all_cut schema.chunk item.names (objects_of item.content) last.each) in
      let content : stored.content ≡ kept_content item.content chunks = subst (λ (r : List ℕ). stored.content ≡ kept_content item.content (chunks_of schema.chunk disk.items r)) own s.content in
      let there : (x : Named) → Among x (flat chunks) → Some (means x.0) ≡ Some x.1 =
      λ x a. let found = st.chunks.held x.0 x.1 (record { row = row; among = a }) in found_means (chunk_in d.chunks x.0) x.1 found ∙ found in
      subst (λ (k : PieceContent). (misfits d.held.table k ≡ false) × (lacks (kept (λ name. Some (means name))) d.held.table k ≡ false)) (sym content)
      (subst (λ (o : Option (Schema × ℕ)). (misfits o (kept_content item.content chunks) ≡ false) × (lacks (kept (λ name. Some (means name))) o (kept_content item.content chunks) ≡ false)) (sym st.held.table)
      (ap not (kept_fits schema item.content chunks fits), ap not (content_kept (kept (λ name. Some (means name))) schema.chunk 0 item.content chunks some c there)))

  one_row : (a b : StoredRow) → Some a ≡ Some b → a ≡ b
  one_row a b same = cc

  pub row_is_whole : ((item : Stored) → current_of disk.items row ≡ Some item → fit_of schema item.content ≡ Ok tt) → (stored : StoredRow) → row_of d.held row ≡ Some stored → Whole stored
  row_is_whole fits stored there =
      ⊎_elim
      (λ none. let no_ : Some stored ≡ None = sym there ∙ none.1 in absurd cc)
      (λ found. subst Whole (one_row found.1 stored (sym found.3 ∙ there)) (item_whole found.0 found.1 found.2 (fits found.0 found.2) found.4))
      (at_row schema.chunk disk.items d.held st.held.numbered st.held.rows row)
