-- A row of the devices gives the content of its item, whole.
use Rattle.std.proofs.Common.{◌≡◌, inl, inr, ⊎_elim, ℕ, ◌<◌, List, [], ◌∷◌, Option, Some, None, refl, sym, ◌∙◌, ap, subst}
use Rattle.std.specs.Prelude.{map}
use Rattle.std.specs.List.{concat}
use Rattle.row_value.specs.declared.content.Content.{Content}
use Rattle.row_value.specs.declared.content.Content.TheVariants as contents
use Rattle.row_value.specs.declared.pieces.PieceContent.{PieceContent}
use Rattle.row_value.specs.declared.schema.Schema.{Schema}
use Rattle.chunk_store.specs.Standing.{chunk_in}
use Rattle.row_store.specs.declared.stored.StoredRow.{StoredRow}
use Rattle.row_store.specs.Data.{row_of}
use Rattle.store_commit.specs.Devs.{Devs}
use Rattle.store_commit.specs.NamedChunks.{Among, names_in, chunks_for}
use Rattle.step_tables.specs.Store.{Stored, current_of}
use Rattle.step_tables.specs.StoreMoves.{StoreDisk, yours_in}
use Rattle.step_tables.specs.Chunks.{Named, objects_of, chunks_of}
use Rattle.device_laws.specs.Stands.{kept_objects, kept_content, pair_in, IsStoredAs, Stands}
use Rattle.device_laws.specs.Reads.{AreRead, Reads}
use Rattle.device_laws.proofs.Names.{left_among, right_among}
use Rattle.device_laws.proofs.Numbered.{current_row}
use Rattle.device_laws.proofs.Chunks.{flat, chunks_are, last_chunks}
use Rattle.device_laws.proofs.Pieces.{keep}
use Rattle.device_laws.proofs.Cuts.{bytes_of, AreCut, all_cut, cut_is}
use Rattle.device_laws.proofs.Rows.{at_row}

module _ (d : Devs) (size : ℕ) (some : 0 < size) where
  pieces_there : (now : List Named) → ((x : Named) → Among x now → chunk_in d.chunks x.0 ≡ Some x.1) → chunks_for d (names_in (map keep now)) ≡ map (λ (piece : List ℕ). Some piece) (bytes_of now)
  pieces_there [] there = refl
  pieces_there (x ∷ now) there =
      ap (λ (o : Option (List ℕ)). o ∷ chunks_for d (names_in (map keep now))) (there x (inl refl))
      ∙ ap (λ (l : List (Option (List ℕ))). Some x.1 ∷ l) (pieces_there now (λ y a. there y (inr a)))

  objects_read : (objects : List (List ℕ)) (held : List (List Named)) → AreCut size objects held → ((x : Named) → Among x (flat held) → chunk_in d.chunks x.0 ≡ Some x.1)
      → AreRead d (kept_objects objects held) objects
  objects_read [] [] c there = tt
  objects_read [] (now ∷ held) c there = absurd c
  objects_read (object ∷ objects) [] c there = absurd c
  objects_read (object ∷ objects) (now ∷ held) c there = (
    record {
      len = refl;
      pieces = bytes_of now;
      there = pieces_there now (λ x a. there x (left_among x now (flat held) a));
      whole = ap concat c.0 ∙ (cut_is size object some).whole;
    },
    objects_read objects held c.1 (λ x a. there x (right_among x now (flat held) a)),
  )

  content_read : (content : Content) (held : List (List Named)) → AreCut size (objects_of content) held → ((x : Named) → Among x (flat held) → chunk_in d.chunks x.0 ≡ Some x.1)
      → Reads d (kept_content content held) content
  content_read contents.Gone held c there = tt
  content_read (contents.Row cells objects) held c there = (refl, objects_read objects held c there)

module _ (schema : Schema) (d : Devs) (disk : StoreDisk) (some : 0 < schema.chunk) (st : Stands schema d disk) (row : List ℕ) where
  abbrev Given : Stored → Type 0
  Given item = (stored : StoredRow) × (row_of d.held row ≡ Some stored) × (stored.version ≡ item.entry.version) × Reads d stored.content item.content
      × ((client : ℕ) → pair_in stored.pairs client ≡ yours_in disk.items client row)

  chunks_cut : (item : Stored) → current_of disk.items row ≡ Some item → AreCut schema.chunk (objects_of item.content) (chunks_of schema.chunk disk.items row)
  chunks_cut item is =
      let last = last_chunks schema.chunk disk.items st.held.numbered st.held.made row item is in
      subst (AreCut schema.chunk (objects_of item.content)) (sym (chunks_are schema.chunk disk.items row item is)) (all_cut schema.chunk item.names (objects_of item.content) last.each)

  found_reads : (item : Stored) (stored : StoredRow) → current_of disk.items row ≡ Some item → row_of d.held row ≡ Some stored → IsStoredAs schema.chunk disk.items item stored → Given item
  found_reads item stored is there s =
      let own = (current_row disk.items row item is).1 in
      let content : stored.content ≡ kept_content item.content (chunks_of schema.chunk disk.items row) =
      subst (λ (r : List ℕ). stored.content ≡ kept_content item.content (chunks_of schema.chunk disk.items r)) own s.content in
      let read : Reads d (kept_content item.content (chunks_of schema.chunk disk.items row)) item.content =
      content_read d schema.chunk some item.content (chunks_of schema.chunk disk.items row) (chunks_cut item is) (λ x a. st.chunks.held x.0 x.1 (record { row = row; among = a })) in (
        stored,
        there,
        s.version,
        subst (λ (c : PieceContent). Reads d c item.content) (sym content) read,
        λ client. subst (λ (r : List ℕ). pair_in stored.pairs client ≡ yours_in disk.items client r) own (s.lasts client),
      )

  one_item : (a b : Stored) → Some a ≡ Some b → a ≡ b
  one_item a b same = cc

  pub row_reads : (item : Stored) → current_of disk.items row ≡ Some item → Given item
  row_reads item is =
      ⊎_elim
      (λ none. let both : Some item ≡ None = sym is ∙ none.0 in absurd cc)
      (λ found. subst Given (one_item found.0 item (sym found.2 ∙ is)) (found_reads found.0 found.1 found.2 found.3 found.4))
      (at_row schema.chunk disk.items d.held st.held.numbered st.held.rows row)

  pub no_row : current_of disk.items row ≡ None → row_of d.held row ≡ None
  no_row is =
      ⊎_elim (λ none. none.1) (λ found. let both : Some found.0 ≡ None = sym found.2 ∙ is in absurd cc)
      (at_row schema.chunk disk.items d.held st.held.numbered st.held.rows row)
