-- New contents are fit, and so are the chunks of those that are shown.
use Rattle.std.proofs.Common.{◌≡◌, ⊎_elim, ℕ, suc, ◌+◌, ◌<◌, ◌≤◌, Bool, true, false, List, [], ◌∷◌, ◌++◌, length, map, drop, Option, Some, None, refl, sym, ◌∙◌, ap, subst, arith, length-append}
use Rattle.std.specs.Prelude.{◌||◌, ◌^◌, not, Ok}
use Rattle.std.specs.List.{concat, flat_map, AllByRecursion}
use Rattle.std.proofs.lemmas.List.Sums.{sum_by-cons}
use Rattle.stab_base.specs.declared.chunk_name.ChunkName.{ChunkName}
use Rattle.row_value.specs.declared.content.Cell.{Cell}
use Rattle.row_value.specs.declared.content.Content.{Content}
use Rattle.row_value.specs.declared.content.Content.TheVariants as contents
use Rattle.row_value.specs.Fit.{chunk_count, chunks_of, fit_of}
use Rattle.row_value.proofs.Wrongs.{chunk_count-le}
use Rattle.value_codec.specs.SchemaSpelling.{HasSchemaSpelling}
use Rattle.value_codec.specs.Spelling.{HasNameSpelling}
use Rattle.field_codec.specs.Forms.{IsOption}
use Rattle.held_codec.specs.Spelling.{HasHeldPiece, HasHeldObject, HasHeld}
use Rattle.chunker.specs.Cut.{HaveSize}
use Rattle.chunker.proofs.Cuts.{count_is}
use Rattle.held_value.specs.declared.local_name.LocalName.{LocalName}
use Rattle.held_value.specs.declared.content.HeldPiece.{HeldPiece}
use Rattle.held_value.specs.declared.content.HeldObject.{HeldObject}
use Rattle.held_value.specs.declared.content.HeldContent.{HeldContent}
use Rattle.held_value.specs.declared.content.HeldContent.TheVariants as held_as
use Rattle.slot_store.specs.declared.held.TableRecord.{TableRecord}
use Rattle.client_tables.specs.Held.{or_name, held_pieces, brought}
use Rattle.client_journal.specs.Names.{names_of_pieces, names_of_objects, names_of}
use Rattle.client_journal.specs.There.{all_lens, fits_by_len, repeats, lacks, misfits, is_wrong}
use Rattle.client_journal.proofs.Lookups.{has_head, has_tail}
use Rattle.client_journal.proofs.Wholes.{has_left, has_right}
use Rattle.step_tables.specs.Chunks.{first_of}
use Rattle.journal_laws.specs.Moves.{plan_meaning, AreShownChunks, object_of}
use Rattle.held_contents.specs.Reading.{with_bytes, objects_with_bytes, chunks_in}
use Rattle.held_contents.specs.Holding.{with_names, all_named, first_shown, brought_of, held_objects, HoldsObjects, IsNamedAgainst, AreShown, pieces_shown, names_shown, pieces_held}
use Rattle.held_contents.proofs.Fits.{row_within, objects_short}
use Rattle.held_contents.proofs.Bytes.{as_many, no_more}
use Rattle.held_contents.proofs.Pieces.{IsEither, joined}
use Rattle.held_contents.proofs.Objects.{bytes_named, named_count, is_whole, lens_held, places_held, once_held, each_piece}
use Rattle.plan_limits.specs.Fit.{IsFitContent, AreOlder, HasWord, HaveWords}
use Rattle.plan_limits.proofs.Lengths.{cells_spelled, held_fits}

-- ---- the chunks of a content that is shown

module _ (meaning : LocalName → List ℕ) where
  module _ (number : ℕ) where
    object_shown : (ps : List HeldPiece) → AreOlder number (names_of_pieces ps) → AreShownChunks meaning number (with_bytes meaning ps)
    object_shown [] older = tt
    object_shown (p ∷ ps) older =
        let o = older p.local (has_head p.local p.local (names_of_pieces ps) refl) in
        (record { bytes = refl; numbered = o.0; older = o.1 }, object_shown ps (λ q has. older q (has_tail p.local q (names_of_pieces ps) has)))

    objects_shown : (os : List HeldObject) → AreOlder number (names_of_objects os) → AreShown meaning number (objects_with_bytes meaning os)
    objects_shown [] older = tt
    objects_shown (o ∷ os) older = (
      object_shown o.pieces (λ q has. older q (has_left (names_of_pieces o.pieces) (names_of_objects os) q has)),
      objects_shown os (λ q has. older q (has_right (names_of_pieces o.pieces) (names_of_objects os) q has)),
    )

    pub are_shown : (held : HeldContent) → AreOlder number (names_of held) → AreShown meaning number (chunks_in meaning held)
    are_shown held_as.Gone older = tt
    are_shown (held_as.Row some objects) older = objects_shown objects older

  without_bytes : (ps : List HeldPiece) → map (λ (chunk : HeldPiece × List ℕ). chunk.0) (with_bytes meaning ps) ≡ ps
  without_bytes [] = refl
  without_bytes (p ∷ ps) = ap (λ (l : List HeldPiece). p ∷ l) (without_bytes ps)

  objects_without : (os : List HeldObject) → pieces_shown (objects_with_bytes meaning os) ≡ flat_map (λ (o : HeldObject). o.pieces) os
  objects_without [] = refl
  objects_without (o ∷ os) =
      ap (λ (l : List HeldPiece). l ++ pieces_shown (objects_with_bytes meaning os)) (without_bytes o.pieces) ∙ ap (λ (l : List HeldPiece). o.pieces ++ l) (objects_without os)

  pub pieces_are_shown : (held : HeldContent) → pieces_shown (chunks_in meaning held) ≡ pieces_held held
  pieces_are_shown held_as.Gone = refl
  pieces_are_shown (held_as.Row some objects) = objects_without objects

  names_in_pieces : (os : List HeldObject) → names_of_pieces (flat_map (λ (o : HeldObject). o.pieces) os) ≡ names_of_objects os
  names_in_pieces [] = refl
  names_in_pieces (o ∷ os) = joined o.pieces (flat_map (λ (q : HeldObject). q.pieces) os) ∙ ap (λ (l : List LocalName). names_of_pieces o.pieces ++ l) (names_in_pieces os)

  pub names_are_shown : (held : HeldContent) → names_shown (chunks_in meaning held) ≡ names_of held
  names_are_shown held_as.Gone = refl
  names_are_shown (held_as.Row some objects) = ap names_of_pieces (objects_without objects) ∙ names_in_pieces objects

  all_both : (P : HeldPiece → Type 0) (a b : List HeldPiece) → AllByRecursion P a → AllByRecursion P b → AllByRecursion P (a ++ b)
  all_both P [] b h k = k
  all_both P (x ∷ a) b h k = (h.0, all_both P a b h.1 k)

  objects_spelled : (os : List HeldObject) → AllByRecursion HasHeldObject os → AllByRecursion HasHeldPiece (flat_map (λ (o : HeldObject). o.pieces) os)
  objects_spelled [] h = tt
  objects_spelled (o ∷ os) h = all_both HasHeldPiece o.pieces (flat_map (λ (q : HeldObject). q.pieces) os) h.0.1.1 (objects_spelled os h.1)

  pieces_spelled : (held : HeldContent) → HasHeld held → AllByRecursion HasHeldPiece (pieces_held held)
  pieces_spelled held_as.Gone h = tt
  pieces_spelled (held_as.Row some objects) h = objects_spelled objects h.1.1

  module _ (table : Option TableRecord) where
    pub shown_spelled : (held : HeldContent) → IsFitContent meaning table held → AllByRecursion HasHeldPiece (pieces_shown (chunks_in meaning held))
    shown_spelled held k = subst (λ (l : List HeldPiece). AllByRecursion HasHeldPiece l) (sym (pieces_are_shown held)) (pieces_spelled held k.spelled)

    not_twice : (stands : LocalName → Option (List ℕ)) (held : HeldContent) → is_wrong stands table held ≡ false → repeats [] (names_of held) ≡ false
    not_twice stands held is = pick (lacks stands table held) (repeats [] (names_of held)) (misfits table held) is
      where
        pick : (a b c : Bool) → a || (b || c) ≡ false → b ≡ false
        pick true b c h = absurd cc
        pick false true c h = absurd cc
        pick false false c h = refl

    pub shown_once : (held : HeldContent) → IsFitContent meaning table held → repeats [] (names_shown (chunks_in meaning held)) ≡ false
    shown_once held k = ap (repeats []) (names_are_shown held) ∙ not_twice (λ name. Some (meaning name)) held k.right

-- ---- a new content

module _ (meaning : LocalName → List ℕ) (number : ℕ) (table : TableRecord) (shown : List (List (HeldPiece × List ℕ))) (names : List (List ChunkName)) (schema : HasSchemaSpelling table.schema) (are : AreShown meaning number shown)
    (spelled : AllByRecursion HasHeldPiece (pieces_shown shown)) (named : AllByRecursion (AllByRecursion HasNameSpelling) names) (once : repeats [] (names_shown shown) ≡ false) where
  some_size : 0 < table.schema.chunk
  some_size = ⊎_elim (λ is. omega (arith, is)) (⊎_elim (λ is. omega (arith, is)) (λ is. omega (arith, is))) schema.size

  right : (content : Content) (held : HeldContent) (new : List (List ℕ)) → fit_of table.schema content ≡ Ok tt → IsNamedAgainst table.schema.chunk shown names content held new
      → is_wrong (λ name. Some (plan_meaning meaning number new name)) (Some table) held ≡ false
  right content held new fit k =
      let means : LocalName → List ℕ = plan_meaning meaning number new in
      let places : all_lens (λ name. Some (means name)) table.schema.chunk held ≡ true = places_held table.schema.chunk some_size shown names meaning number are content held new k in
      let twice : repeats [] (names_of held) ≡ false = once_held table.schema.chunk some_size shown names meaning number are content held new k once in
      let fits : fits_by_len table.schema held ≡ true =
      held_fits table.schema content means held fit (is_whole table.schema.chunk some_size shown names meaning number are content held new k) (lens_held table.schema.chunk some_size shown names meaning number are content held new k) in
      three (all_lens (λ name. Some (means name)) table.schema.chunk held) (repeats [] (names_of held)) (fits_by_len table.schema held) places twice fits
    where
      three : (a b c : Bool) → a ≡ true → b ≡ false → c ≡ true → not a || (b || not c) ≡ false
      three a b c p q r = rw (p, q, r) refl

  -- ---- its spelling

  few_chunks : (left : List (List ChunkName)) (cuts : List (List (List ℕ))) → AllByRecursion (HaveSize table.schema.chunk) cuts → (most : ℕ) → chunks_of table.schema.chunk (map concat cuts) ≤ most
      → (shown : List (List (HeldPiece × List ℕ))) → length (brought_of shown (all_named left cuts)) ≤ most
  few_chunks left [] sizes most le shown = omega arith
  few_chunks left (chunks ∷ cuts) sizes most le shown =
      let given : List (Option ChunkName × List ℕ) = with_names (first_of left) chunks in
      omega (
        arith,
        sum_by-cons (chunk_count table.schema.chunk) (concat chunks) (map concat cuts),
        count_is table.schema.chunk some_size chunks sizes.0,
        no_more (first_shown shown) given,
        named_count (first_of left) chunks,
        few_chunks (drop 1 left) cuts sizes.1 (chunks_of table.schema.chunk (map concat cuts)) (omega arith) (drop 1 shown),
        length-append (brought (first_shown shown) given) (brought_of (drop 1 shown) (all_named (drop 1 left) cuts)),
        le,
      )

  -- a piece keeps its local name, and the name that is given is that of the piece
  mixed : (kept : HeldPiece) (name : Option ChunkName) → HasHeldPiece kept → IsOption HasNameSpelling name → HasHeldPiece (record { local = kept.local; name = or_name name kept.name })
  mixed kept None old given = old
  mixed kept (Some name) old given = (old.0, given)

  pieces_each : (count : ℕ) → count < 2 ^ 32 → (ps : List HeldPiece) → AllByRecursion (IsEither HasHeldPiece (IsOption HasNameSpelling) HasHeldPiece mixed count) ps → AllByRecursion HasHeldPiece ps
  pieces_each count few [] h = tt
  pieces_each count few (p ∷ ps) h = (⊎_elim (λ old. old) (λ new. ((omega (arith, new.0.0), omega (arith, new.0.1, few)), new.1)) h.0, pieces_each count few ps h.1)

  parted : (a b : List HeldPiece) → AllByRecursion HasHeldPiece (a ++ b) → AllByRecursion HasHeldPiece a × AllByRecursion HasHeldPiece b
  parted [] b h = (tt, h)
  parted (x ∷ a) b h = let rest = parted a b h.1 in ((h.0, rest.0), rest.1)

  objects_held : (left : List (List ChunkName)) (cuts : List (List (List ℕ))) (from : List (List (HeldPiece × List ℕ))) (next : ℕ) → AllByRecursion (HaveSize table.schema.chunk) cuts
      → AllByRecursion (λ (object : List ℕ). length object < 2 ^ 32) (map concat cuts) → AllByRecursion HasHeldPiece (flat_map (λ (o : HeldObject). o.pieces) (held_objects from (all_named left cuts) next))
      → AllByRecursion HasHeldObject (held_objects from (all_named left cuts) next)
  objects_held left [] from next sizes lens h = tt
  objects_held left (chunks ∷ cuts) from next sizes lens h =
      let given : List (Option ChunkName × List ℕ) = with_names (first_of left) chunks in
      let after : ℕ = next + length (brought (first_shown from) given) in
      let parts = parted (held_pieces (first_shown from) given next) (flat_map (λ (o : HeldObject). o.pieces) (held_objects (drop 1 from) (all_named (drop 1 left) cuts) after)) h in
      let few : length (held_pieces (first_shown from) given next) < 2 ^ 32 =
      omega (arith, as_many (first_shown from) given next, named_count (first_of left) chunks, count_is table.schema.chunk some_size chunks sizes.0, chunk_count-le table.schema.chunk (concat chunks), lens.0) in
      let len : length (object_of given) < 2 ^ 32 = omega (arith, ap (λ (l : List (List ℕ)). length (concat l)) (bytes_named (first_of left) chunks), lens.0) in
      ((len, (few, parts.0)), objects_held (drop 1 left) cuts (drop 1 from) after sizes.1 lens.1 parts.1)

  objects_count : (left : List (List ChunkName)) (cuts : List (List (List ℕ))) (from : List (List (HeldPiece × List ℕ))) (next : ℕ) → length (held_objects from (all_named left cuts) next) ≡ length (map concat cuts)
  objects_count left [] from next = refl
  objects_count left (chunks ∷ cuts) from next = ap suc (objects_count (drop 1 left) cuts (drop 1 from) (next + length (brought (first_shown from) (with_names (first_of left) chunks))))

  row_spelled : (cells : List Cell) (objects : List (List ℕ)) (held : List HeldObject) (new : List (List ℕ)) → fit_of table.schema (contents.Row cells objects) ≡ Ok tt → AllByRecursion HasWord cells
      → (k : HoldsObjects table.schema.chunk shown names objects held new) → HasHeld (held_as.Row cells held)
  row_spelled cells objects held new fit words k =
      let w = row_within table.schema cells objects fit in
      let cells_few : length cells < 2 ^ 32 = omega (arith, w.cells_few, schema.most) in
      let chunks_few : chunks_of table.schema.chunk (map concat k.cuts) ≤ 32768 = omega (arith, w.chunks, ap (chunks_of table.schema.chunk) k.whole) in
      let few : length new < 2 ^ 32 = omega (arith, few_chunks names k.cuts k.sizes 32768 chunks_few shown, ap length k.brought_is) in
      let pieces = pieces_each (length new) few (flat_map (λ (o : HeldObject). o.pieces) held)
      (each_piece table.schema.chunk some_size shown names HasHeldPiece (IsOption HasNameSpelling) HasHeldPiece mixed tt named spelled (contents.Row cells objects) (held_as.Row cells held) new (refl, k)) in
      let lens : AllByRecursion (λ (object : List ℕ). length object < 2 ^ 32) (map concat k.cuts) = subst (λ (l : List (List ℕ)). AllByRecursion (λ (object : List ℕ). length object < 2 ^ 32) l) (sym k.whole) (objects_short table.schema cells objects fit) in
      let each : AllByRecursion HasHeldObject held = subst (λ (l : List HeldObject). AllByRecursion HasHeldObject l) (sym k.held_is)
      (objects_held names k.cuts shown 0 k.sizes lens (subst (λ (l : List HeldObject). AllByRecursion HasHeldPiece (flat_map (λ (o : HeldObject). o.pieces) l)) k.held_is pieces)) in
      let count : length held < 2 ^ 32 = omega (arith, ap length k.held_is, objects_count names k.cuts shown 0, ap length k.whole, w.objects_few, schema.most) in
      ((cells_few, cells_spelled table.schema cells objects fit words), (count, each))

  all_spelled : (content : Content) (held : HeldContent) (new : List (List ℕ)) → fit_of table.schema content ≡ Ok tt → HaveWords content → IsNamedAgainst table.schema.chunk shown names content held new → HasHeld held
  all_spelled contents.Gone held_as.Gone new fit words k = tt
  all_spelled contents.Gone (held_as.Row cells held) new fit words k = absurd k
  all_spelled (contents.Row cells objects) held_as.Gone new fit words k = absurd k
  all_spelled (contents.Row cells objects) (held_as.Row copied held) new fit words k =
      subst (λ (l : List Cell). HasHeld (held_as.Row l held)) (sym k.0) (row_spelled cells objects held new fit words k.1)

  pub new_fit : (content : Content) (held : HeldContent) (new : List (List ℕ)) → fit_of table.schema content ≡ Ok tt → HaveWords content → IsNamedAgainst table.schema.chunk shown names content held new
      → IsFitContent (plan_meaning meaning number new) (Some table) held
  new_fit content held new fit words k = record { right = right content held new fit k; spelled = all_spelled content held new fit words k }
