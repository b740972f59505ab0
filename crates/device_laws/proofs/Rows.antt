-- How the rows of the devices stand for the items of a table.
use Rattle.std.proofs.Common.{◌≡◌, inl, inr, ⊎_elim, ◌⊎◌, ℕ, ◌<◌, ◌≤◌, ◌^◌, Bool, true, false, List, [], ◌∷◌, ◌++◌, length, Option, Some, None, refl, sym, ◌∙◌, ap, subst, arith}
use Rattle.std.specs.Prelude.{◌==◌, option_map, unwrap_or, if◌then◌else◌}
use Rattle.table_model.specs.History.{same_row}
use Rattle.row_store.specs.declared.stored.LastWrite.{LastWrite}
use Rattle.row_store.specs.declared.stored.StoredRow.{StoredRow}
use Rattle.row_store.specs.Data.{TableData, with_row, row_of, version_of, version_if, IsTableVersion}
use Rattle.row_store.specs.Spelling.{AreLasts, IsClient}
use Rattle.store_commit.specs.NamedChunks.{Among}
use Rattle.store_commit.specs.NamedChunks as devices
use Rattle.store_commit.specs.Update.{names_if, lasts_if, with_last}
use Rattle.store_commit.proofs.Lookups.{row_put, row_put_other}
use Rattle.store_commit.proofs.Stored.{lasts_put}
use Rattle.step_tables.specs.Store.{Stored, current_of}
use Rattle.step_tables.specs.StoreMoves.{yours_in, pair_of}
use Rattle.step_tables.specs.Chunks.{names_of, objects_of, chunks_of, chunks_with}
use Rattle.step_tables.proofs.Lists.{same_row-is}
use Rattle.device_laws.specs.Stands.{pair_or, pair_in, kept_content, IsStoredAs, StandsRow, AreNumbered}
use Rattle.device_laws.proofs.Numbered.{numbered_most, current_row, current_own, current_other, last_item}
use Rattle.device_laws.proofs.Chunks.{no_chunks, chunks_are, chunks_own, chunks_other, as_many}
use Rattle.device_laws.proofs.Pieces.{content_names}
use Rattle.device_laws.proofs.Lasts.{pair_put, yours_own, yours_other, none_yours}

-- the tests of two rows agree
pub row_tells : (a b : List ℕ) → (a ≡ b) ⊎ (same_row a b ≡ false)
row_tells a b = split (same_row a b) refl
  where
    split : (t : Bool) → same_row a b ≡ t → (a ≡ b) ⊎ (same_row a b ≡ false)
    split true is = inl (same_row-is a b is)
    split false is = inr is

pub one_version_of : (a b : StoredRow) → Some a ≡ Some b → a.version ≡ b.version
one_version_of a b same = let one : a ≡ b = cc in ap (λ (s : StoredRow). s.version) one

-- ---- a row of the devices

-- no row for no item, or the row of the last item
abbrev pub RowIs : ℕ → List Stored → List ℕ → Option Stored → Option StoredRow → Type 0
RowIs size items row current found =
    ((current ≡ None) × (found ≡ None))
    ⊎ ((item : Stored) × (stored : StoredRow) × (current ≡ Some item) × (found ≡ Some stored) × IsStoredAs size items item stored)

row_is : (size : ℕ) (items : List Stored) (row : List ℕ) (current : Option Stored) (found : Option StoredRow) → StandsRow size items current found → RowIs size items row current found
row_is size items row None None h = inl (refl, refl)
row_is size items row None (Some stored) h = absurd h
row_is size items row (Some item) None h = absurd h
row_is size items row (Some item) (Some stored) h = inr (item, stored, refl, refl, h)

module _ (size : ℕ) (items : List Stored) (held : TableData) (numbered : AreNumbered 0 items) (rows : (row : List ℕ) → StandsRow size items (current_of items row) (row_of held row)) where
  pub at_row : (row : List ℕ) → RowIs size items row (current_of items row) (row_of held row)
  at_row row = row_is size items row (current_of items row) (row_of held row) (rows row)

  -- its names are those of its chunks
  pub stored_names : (row : List ℕ) (item : Stored) (stored : StoredRow) → current_of items row ≡ Some item → IsStoredAs size items item stored
      → devices.names_of stored.content ≡ names_of (chunks_of size items row)
  stored_names row item stored is s =
      let own = (current_row items row item is).1 in
      let many : length (chunks_of size items item.entry.row) ≡ length (objects_of item.content) =
      ap length (chunks_are size items item.entry.row item (subst (λ (r : List ℕ). current_of items r ≡ Some item) (sym own) is)) ∙ as_many size item.names (objects_of item.content) in
      ap devices.names_of s.content ∙ (content_names item.content (chunks_of size items item.entry.row) many ∙ ap (λ (r : List ℕ). names_of (chunks_of size items r)) own)

  pub row_names : (row : List ℕ) → names_if (row_of held row) ≡ names_of (chunks_of size items row)
  row_names row =
      ⊎_elim
      (λ none. ap names_if none.1 ∙ sym (ap names_of (no_chunks size items row none.0)))
      (λ some. ap names_if some.3 ∙ stored_names row some.0 some.1 some.2 some.4)
      (at_row row)

  pub row_lasts : (row : List ℕ) (client : ℕ) → pair_in (lasts_if (row_of held row)) client ≡ yours_in items client row
  row_lasts row client =
      ⊎_elim
      (λ none. ap (λ (o : Option StoredRow). pair_in (lasts_if o) client) none.1 ∙ sym (none_yours items client row none.0))
      (λ some. ap (λ (o : Option StoredRow). pair_in (lasts_if o) client) some.3 ∙ (some.4.lasts client ∙ ap (yours_in items client) (current_row items row some.0 some.2).1))
      (at_row row)

  pub row_rising : (row : List ℕ) → AreLasts 0 (lasts_if (row_of held row))
  row_rising row =
      ⊎_elim
      (λ none. subst (λ (o : Option StoredRow). AreLasts 0 (lasts_if o)) (sym none.1) tt)
      (λ some. subst (λ (o : Option StoredRow). AreLasts 0 (lasts_if o)) (sym some.3) some.4.rising)
      (at_row row)

  pub version_most : (row : List ℕ) (stored : StoredRow) → row_of held row ≡ Some stored → stored.version ≤ length items
  version_most row stored there =
      ⊎_elim
      (λ none. let both : Some stored ≡ None = sym there ∙ none.1 in absurd cc)
      (λ some.
      let same = one_version_of some.1 stored (sym some.3 ∙ there) in
      let most = numbered_most 0 items some.0 numbered (current_row items row some.0 some.2).0 in
      let is = some.4.version in
      omega arith)
      (at_row row)

  pub is_at_version : (row : List ℕ) (item : Stored) → current_of items row ≡ Some item → version_of held row ≡ item.entry.version
  is_at_version row item is =
      ⊎_elim
      (λ none. let both : Some item ≡ None = sym is ∙ none.0 in absurd cc)
      (λ some.
      let both : Some some.0 ≡ Some item = sym some.2 ∙ is in
      let one : some.0 ≡ item = cc in
      ap (λ (o : Option StoredRow). unwrap_or (option_map (λ (s : StoredRow). s.version) o) 0) some.3 ∙ (some.4.version ∙ ap (λ (i : Stored). i.entry.version) one))
      (at_row row)

  pub none_or_less : (row : List ℕ) → version_of held row ≤ length items
  none_or_less row = pick (row_of held row) refl
    where
      pick : (o : Option StoredRow) → row_of held row ≡ o → unwrap_or (option_map (λ (s : StoredRow). s.version) o) 0 ≤ length items
      pick None is = omega arith
      pick (Some stored) is = version_most row stored is

  pub table_version : IsTableVersion held (length items)
  table_version = record { greatest = greatest; attained = attained items refl }
    where
      greatest : (row : List ℕ) (other : ℕ) → version_if held row ≡ Some other → other ≤ length items
      greatest row other is = pick (row_of held row) refl is
        where
          pick : (o : Option StoredRow) → row_of held row ≡ o → option_map (λ (s : StoredRow). s.version) o ≡ Some other → other ≤ length items
          pick None at h = absurd cc
          pick (Some stored) at h = let same : stored.version ≡ other = cc in let most = version_most row stored at in omega arith

      attained : (all : List Stored) → items ≡ all → (length items ≡ 0) ⊎ ((row : List ℕ) × (version_if held row ≡ Some (length items)))
      attained [] is = inl (ap length is)
      attained (x ∷ more) is =
          let last = last_item 0 x more (subst (AreNumbered 0) is numbered) in
          let current : current_of items last.0.entry.row ≡ Some last.0 = subst (λ (l : List Stored). current_of l last.0.entry.row ≡ Some last.0) (sym is) last.1 in
          let size_is : length items ≡ length (x ∷ more) = ap length is in
          inr (
            last.0.entry.row,
            ⊎_elim
                (λ none. let both : Some last.0 ≡ None = sym current ∙ none.0 in absurd cc)
                (λ some.
                let both : Some some.0 ≡ Some last.0 = sym some.2 ∙ current in
                let one : some.0 ≡ last.0 = cc in
                let version : some.1.version ≡ length items = some.4.version ∙ (ap (λ (i : Stored). i.entry.version) one ∙ omega (arith, last.2, size_is)) in
                ap (option_map (λ (s : StoredRow). s.version)) some.3 ∙ ap (λ (n : ℕ). Some n) version)
                (at_row last.0.entry.row),
          )

  -- ---- the rows with one more

  module _ (item : Stored) (stored : StoredRow) (as_ : IsStoredAs size (items ++ item ∷ []) item stored) where
    other_row : (row : List ℕ) (current : Option Stored) (found : Option StoredRow) → current_of items row ≡ current → same_row item.entry.row row ≡ false → StandsRow size items current found
        → StandsRow size (items ++ item ∷ []) current found
    other_row row None None is other h = h
    other_row row None (Some s) is other h = h
    other_row row (Some i) None is other h = h
    other_row row (Some i) (Some s) is other h =
        let here = (current_row items row i is).1 in
        let apart : same_row item.entry.row i.entry.row ≡ false = subst (λ (r : List ℕ). same_row item.entry.row r ≡ false) (sym here) other in
        record {
          row = h.row;
          version = h.version;
          content = h.content ∙ sym (ap (kept_content i.content) (chunks_other size items item i.entry.row apart));
          lasts = λ client. h.lasts client ∙ sym (yours_other items item client i.entry.row apart);
          rising = h.rising;
        }

    pub rows_with : (row : List ℕ) → StandsRow size (items ++ item ∷ []) (current_of (items ++ item ∷ []) row) (row_of (with_row held stored) row)
    rows_with row = pick (row_tells item.entry.row row)
      where
        pick : (item.entry.row ≡ row) ⊎ (same_row item.entry.row row ≡ false) → StandsRow size (items ++ item ∷ []) (current_of (items ++ item ∷ []) row) (row_of (with_row held stored) row)
        pick (inl same) =
            subst (λ (o : Option Stored). StandsRow size (items ++ item ∷ []) o (row_of (with_row held stored) row)) (sym (current_own items item row same))
            (subst (λ (o : Option StoredRow). StandsRow size (items ++ item ∷ []) (Some item) o) (sym (row_put held stored row (as_.row ∙ same))) as_)
        pick (inr other) =
            subst (λ (o : Option Stored). StandsRow size (items ++ item ∷ []) o (row_of (with_row held stored) row)) (sym (current_other items item row other))
            (subst (λ (o : Option StoredRow). StandsRow size (items ++ item ∷ []) (current_of items row) o)
            (sym (row_put_other held stored row (subst (λ (r : List ℕ). same_row r row ≡ false) (sym as_.row) other)))
            (other_row row (current_of items row) (row_of held row) refl other (rows row)))

  -- ---- the row of an item that comes next

  abbrev lasts_at : Stored → List LastWrite
  lasts_at item = lasts_if (row_of held item.entry.row)

  abbrev last_of : Stored → LastWrite
  last_of item = record { client = item.entry.client; number = item.entry.number; version = item.entry.version }

  same_lasts : (item : Stored) (q : ℕ) (b : Bool)
      → (if b then pair_or (Some (last_of item)) else pair_in (lasts_at item) q) ≡ (if b then pair_of (Some item) else yours_in items q item.entry.row)
  same_lasts item q true = refl
  same_lasts item q false = row_lasts item.entry.row q

  pub stored_as : (item : Stored) (stored : StoredRow) → stored.row ≡ item.entry.row → stored.version ≡ item.entry.version
      → stored.content ≡ kept_content item.content (chunks_with size item)
      → stored.pairs ≡ with_last (lasts_at item) (last_of item)
      → IsClient item.entry.client → item.entry.number < 2 ^ 64 → item.entry.version < 2 ^ 64
      → IsStoredAs size (items ++ item ∷ []) item stored
  stored_as item stored row version content pairs client number fits = record {
    row = row;
    version = version;
    content = content ∙ sym (ap (kept_content item.content) (chunks_own size items item));
    lasts = λ q. ap (λ (l : List LastWrite). pair_in l q) pairs ∙ (pair_put (lasts_at item) (last_of item) q ∙ (same_lasts item q (item.entry.client == q) ∙ sym (yours_own items item q)));
    rising = subst (AreLasts 0) (sym pairs)
        (lasts_put 0 (lasts_at item) (last_of item) (row_rising item.entry.row) (record { above = omega (arith, client.least); most = client.most; number = number; version = fits }));
  }
