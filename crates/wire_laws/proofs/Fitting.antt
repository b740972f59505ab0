-- A message that is handed on fits its table where the one that was sent does: what fits goes by lengths.
use Rattle.std.proofs.Common.{◌≡◌, ⊎_elim, ℕ, zero, suc, ◌+◌, ◌≤◌, Bool, List, [], ◌∷◌, length, Option, Some, None, refl, sym, ◌∙◌, ap, subst, arith}
use Rattle.std.specs.Prelude.{◌==◌, ◌-◌, nat_le, slice_get, sum_by, Err, if◌then◌else◌, take}
use Rattle.std.specs.Int.{div_ceil}
use Rattle.std.proofs.lemmas.List.{length-replicate}
use Rattle.std.proofs.lemmas.List.Sums.{sum_by-cons}
use Rattle.stab_base.specs.declared.node.Node.{Node}
use Rattle.row_value.specs.declared.schema.Schema.{Schema}
use Rattle.row_value.specs.declared.content.Cell.{Cell}
use Rattle.row_value.specs.declared.content.Content.{Content}
use Rattle.row_value.specs.declared.content.Content.TheVariants as contents
use Rattle.row_value.specs.declared.pieces.Piece.{Piece}
use Rattle.row_value.specs.declared.fit.FitFault.TheVariants.{BadObject}
use Rattle.row_value.specs.Fit.{cell_count, row_len, object_most, len_of, is_short, has_object, chunk_count, wrong_in, or_surplus, misfit, object_misfit, chunks_of, size_fit, objects_fit, cells_fit, fit_of}
use Rattle.chunker.specs.Sized.{sized, zeros_for}
use Rattle.step_tables.specs.Chunks.{others_of}
use Rattle.step_tables.specs.Messages.{Request, Pulled, TornPulled, Header, Message, SyncRequest, PullResponse, TornRowResponse}
use Rattle.part_tables.specs.Parts.{objects_by, spelled_by, kept}
use Rattle.part_laws.specs.Gathers.{IsOfRequest}
use Rattle.part_laws.specs.Rows.{IsOfAnswer, IsOfWholeRow}
use Rattle.fair_laws.specs.Fair.{IsFitContent}
use Rattle.fair_laws.specs.Worlds.{IsRowOf}
use Rattle.wire_laws.specs.Carried.{IsFit}

-- ---- objects of the same lengths

abbrev HaveSameLens : List (List ℕ) → List (List ℕ) → Type 0
HaveSameLens [] [] = Unit {0}
HaveSameLens (object ∷ objects) (other ∷ others) = (length object ≡ length other) × HaveSameLens objects others
HaveSameLens objects others = ⊥

as_many : (objects others : List (List ℕ)) → HaveSameLens objects others → length objects ≡ length others
as_many [] [] h = refl
as_many [] (other ∷ others) h = absurd h
as_many (object ∷ objects) [] h = absurd h
as_many (object ∷ objects) (other ∷ others) h = ap suc (as_many objects others h.1)

same_sum : (f : List ℕ → ℕ) → ((a b : List ℕ) → length a ≡ length b → f a ≡ f b) → (objects others : List (List ℕ)) → HaveSameLens objects others → sum_by f objects ≡ sum_by f others
same_sum f same [] [] h = refl
same_sum f same [] (other ∷ others) h = absurd h
same_sum f same (object ∷ objects) [] h = absurd h
same_sum f same (object ∷ objects) (other ∷ others) h =
    omega (arith, sum_by-cons f object objects, sum_by-cons f other others, same object other h.0, same_sum f same objects others h.1)

same_len : (objects others : List (List ℕ)) → HaveSameLens objects others → (k : ℕ)
    → (len_of (slice_get objects k) ≡ len_of (slice_get others k)) × (is_short (slice_get objects k) ≡ is_short (slice_get others k))
same_len [] [] h k = (refl, refl)
same_len [] (other ∷ others) h k = absurd h
same_len (object ∷ objects) [] h k = absurd h
same_len (object ∷ objects) (other ∷ others) h zero = (h.0, ap (λ (n : ℕ). nat_le n object_most) h.0)
same_len (object ∷ objects) (other ∷ others) h (suc k) = same_len objects others h.1 k

same_places : (objects others : List (List ℕ)) → HaveSameLens objects others → (places : ℕ) → object_misfit places objects ≡ object_misfit places others
same_places objects others h places =
    let tests : has_object objects ≡ has_object others = λ i k. (same_len objects others h k).1 i in
    ap (λ (n : ℕ). or_surplus places n (wrong_in (has_object objects) places)) (as_many objects others h) ∙ ap (λ (f : ℕ → Bool). or_surplus places (length others) (wrong_in f places)) tests

fits_by_lengths : (schema : Schema) (cells : List Cell) (objects others : List (List ℕ)) → HaveSameLens objects others
    → fit_of schema (contents.Row cells objects) ≡ fit_of schema (contents.Row cells others)
unfolding fit_of
fits_by_lengths schema cells objects others h = by_cells (misfit (take (cell_count schema.columns) schema.columns) cells)
  where
    places : ℕ
    places = length schema.columns - cell_count schema.columns

    sizes : size_fit schema.chunk cells objects ≡ size_fit schema.chunk cells others
    sizes =
        let len : row_len cells objects ≡ row_len cells others = omega (arith, same_sum length (λ a b e. e) objects others h) in
        let chunks : chunks_of schema.chunk objects ≡ chunks_of schema.chunk others =
        same_sum (chunk_count schema.chunk) (λ a b e. ap (λ (n : ℕ). if schema.chunk == 0 then 0 else div_ceil n schema.chunk) e) objects others h in
        rw (len, chunks) refl

    by_objects : (o : Option ℕ) → objects_fit schema cells objects o ≡ objects_fit schema cells others o
    by_objects None = sizes
    by_objects (Some place) = ap (λ (n : ℕ). Err (BadObject (cell_count schema.columns + place) n)) (same_len objects others h place).0

    by_cells : (o : Option ℕ) → cells_fit schema cells objects o ≡ cells_fit schema cells others o
    by_cells (Some place) = refl
    by_cells None = ap (objects_fit schema cells objects) (same_places objects others h places) ∙ by_objects (object_misfit places others)

zeros_as_long : (objects : List (List ℕ)) (pieces : List (List Piece)) → HaveSameLens (zeros_for (objects_by objects pieces)) objects
zeros_as_long [] pieces = tt
zeros_as_long (object ∷ objects) pieces = (length-replicate (length object) 0, zeros_as_long objects (others_of pieces))

-- a content with zeros for its bytes fits where it does
sized_fits : (schema : Schema) (content : Content) (pieces : List (List Piece)) → IsFitContent schema content → IsFitContent schema (sized (spelled_by content pieces))
sized_fits schema contents.Gone pieces fits = fits
sized_fits schema (contents.Row cells objects) pieces fits =
    fits_by_lengths schema cells (zeros_for (objects_by objects pieces)) objects (zeros_as_long objects pieces) ∙ fits

row_fits : (known : Option Schema) (content : Content) (pieces : List (List Piece)) → IsRowOf known content → IsRowOf known (sized (spelled_by content pieces))
row_fits known content pieces is = (is.0, is.1, sized_fits is.0 content pieces is.2)

-- ---- messages

some_header : (a b : Header) → Some a ≡ Some b → a ≡ b
some_header a b e = cc

module _ (known : ℕ → Option Schema) (from : Node) where
  pub request_fits : (q : Request) (m : Message) → IsFit known from (SyncRequest q) → IsOfRequest q m → IsFit known from m
  request_fits q m is of_it = ⊎_elim
      (λ e. subst (IsFit known from) (sym e) is)
      (λ e. subst (IsFit known from) (sym e) (row_fits (known q.table) q.content q.pieces is.0, is.1, is.2)) of_it

  pub answer_fits : (p : Pulled) (m : Message) → IsFit known from (PullResponse p) → IsOfAnswer p m → IsFit known from m
  answer_fits p m is of_it = ⊎_elim
      (λ e. subst (IsFit known from) (sym e) is)
      (λ e. subst (IsFit known from) (sym e.2) (λ header same.
      subst (λ (h : Header). (1 ≤ h.version) × IsRowOf (known p.table) h.content) (some_header (record e.0 { content = sized (spelled_by e.0.content (kept e.0.names)) }) header same)
      ((is e.0 e.1).0, row_fits (known p.table) e.0.content (kept e.0.names) (is e.0 e.1).1))) of_it

  pub whole_row_fits : (t : TornPulled) (m : Message) → IsFit known from (TornRowResponse t) → IsOfWholeRow t m → IsFit known from m
  whole_row_fits t m is of_it = ⊎_elim
      (λ e. subst (IsFit known from) (sym e) is)
      (λ e. subst (IsFit known from) (sym e.2) (λ header same.
      subst (λ (h : Header). (1 ≤ h.version) × IsRowOf (known t.table) h.content) (some_header (record e.0 { content = sized (spelled_by e.0.content (kept e.0.names)) }) header same)
      ((is e.0 e.1).0, row_fits (known t.table) e.0.content (kept e.0.names) (is e.0 e.1).1))) of_it
