-- What is on a table's devices, where nothing is left over: the names that its rows name.
use Rattle.std.proofs.Common.{◌≡◌, inl, inr, ⊎_elim, ℕ, ◌<◌, Bool, true, List, [], ◌∷◌, ◌++◌, length, Option, Some, None, refl, sym, ◌∙◌, ap, subst, arith, append-nil}
use Rattle.std.specs.Prelude.{◌==◌, ◌&&◌, not, filter}
use Rattle.std.specs.List.{flat_map}
use Rattle.std.proofs.lemmas.Bool.Decides.{nat_tests}
use Rattle.stab_base.specs.declared.chunk_name.ChunkName.{ChunkName}
use Rattle.row_value.specs.declared.content.Content.{Content}
use Rattle.row_value.specs.declared.content.Content.TheVariants.{Gone, Row}
use Rattle.row_value.specs.declared.schema.Scheme.{Scheme}
use Rattle.row_value.specs.Fit as fit
use Rattle.table_model.specs.declared.entry.Entry.{Entry}
use Rattle.table_model.specs.History.{same_row, current}
use Rattle.step_tables.specs.Store.{Stored, entries_of, current_of}
use Rattle.step_tables.specs.Items.{IsItemAt}
use Rattle.step_tables.specs.Members as members
use Rattle.step_tables.specs.Sayings.{Said}
use Rattle.step_tables.specs.StoreMoves.{StoreDisk}
use Rattle.step_tables.specs.Chunks.{rising, names_of, chunks_of, objects_of}
use Rattle.step_tables.specs.Chunks as step
use Rattle.step_tables.proofs.Lists.{among_none, among_cons, among_here, among_next, among_map, same_row_tells}
use Rattle.store_laws.specs.Part.{Counts}
use Rattle.store_laws.proofs.Items.{one_version}
use Rattle.world_tables.specs.World.{World, rows_in, names_on}
use Rattle.world_tables.specs.Sound.{content_at}
use Rattle.world_tables.specs.Chunks.{has_version, chunks_in, AreChunks}
use Rattle.world_tables.specs.Chunks as chunks
use Rattle.world_laws.proofs.Kept.{Kept}
use Rattle.world_laws.proofs.Showings.{no_content, row_stored}
use Rattle.name_laws.proofs.Names.{Among, among_mapped, among_filter, filter_among, any_true, true_any, left_among, right_among, either_among, different_filter, as_long, among_rising, rising_among, rising_rises}
use Rattle.name_laws.proofs.Names.{different_rising}
use Rattle.name_laws.proofs.Rows.{AreWellNamed, is_current, row_names, row_different, row_known}
use Rattle.name_laws.proofs.Cuts.{said_count}

-- ---- lists of lists

among_flat : {X Y : Type 0} (f : X → List Y) (y : Y) (xs : List X) → Among y (flat_map f xs) → (x : X) × Among x xs × Among y (f x)
among_flat f y [] a = absurd a
among_flat f y (x ∷ xs) a = ⊎_elim (λ b. (x, inl refl, b)) (λ b. let r = among_flat f y xs b in (r.0, inr r.1, r.2)) (either_among y (f x) (flat_map f xs) a)

flat_among : {X Y : Type 0} (f : X → List Y) (y : Y) (x : X) (xs : List X) → Among x xs → Among y (f x) → Among y (flat_map f xs)
flat_among f y x [] a b = absurd a
flat_among {X} {Y} f y x (z ∷ xs) (inl same) b = left_among y (f z) (flat_map f xs) (subst (λ (q : X). Among y (f q)) same b)
flat_among f y x (z ∷ xs) (inr more) b = right_among y (f z) (flat_map f xs) (flat_among f y x xs more b)

as_member : {X : Type 0} (x : X) (xs : List X) → Among x xs → members.Among xs x
as_member x [] a = absurd a
as_member {X} x (y ∷ xs) (inl same) = subst (λ (q : X). members.Among (y ∷ xs) q) (sym same) (among_here y xs)
as_member x (y ∷ xs) (inr more) = among_next y xs x (as_member x xs more)

member_is : {X : Type 0} (x : X) (xs : List X) → members.Among xs x → Among x xs
member_is x [] a = absurd (among_none x a)
member_is x (y ∷ xs) a = ⊎_elim (λ same. inl (sym same)) (λ more. inr (member_is x xs more)) (among_cons y xs x a)

-- ---- the rows of items

rows_there : (items : List Stored) (i : Stored) → Among i items → Among i.entry.row (rows_in items)
rows_there [] i a = absurd a
rows_there (item ∷ items) i (inl same) = inl (ap (λ (x : Stored). x.entry.row) same)
rows_there (item ∷ items) i (inr more) = ⊎_elim
    (λ e. inl (sym e.1))
    (λ e. inr (filter_among (λ row. not (same_row item.entry.row row)) i.entry.row (rows_in items) (ap not e.0) (rows_there items i more)))
    (same_row_tells item.entry.row i.entry.row)

test_is : (row : List ℕ) (v : ℕ) (e : Entry) → (same_row e.row row && (e.version == v)) ≡ true → (e.row ≡ row) × (e.version ≡ v)
test_is row v e is = grind (arith, nat_tests, same_row_tells e.row row)

is_test : (row : List ℕ) (v : ℕ) (e : Entry) → e.row ≡ row → e.version ≡ v → (same_row e.row row && (e.version == v)) ≡ true
is_test row v e same at = grind (arith, nat_tests, same_row_tells e.row row)

version_there : (items : List Stored) (row : List ℕ) (v : ℕ) (i : Stored) → IsItemAt items row v i → has_version (entries_of items) row v ≡ true
version_there items row v i is =
    any_true (λ (e : Entry). same_row e.row row && (e.version == v)) i.entry (entries_of items)
    (member_is i.entry (entries_of items) (among_map (λ (x : Stored). x.entry) items i is.stands)) (is_test row v i.entry is.row_is is.version_is)

there_version : (items : List Stored) (row : List ℕ) (v : ℕ) → has_version (entries_of items) row v ≡ true → (i : Stored) × IsItemAt items row v i
there_version items row v is =
    let e = true_any (λ (x : Entry). same_row x.row row && (x.version == v)) (entries_of items) is in
    let i = among_mapped (λ (x : Stored). x.entry) e.0 items e.1 in
    let tests = test_is row v e.0 e.2 in (
      i.0,
      record {
        stands = as_member i.0 items i.1;
        row_is = ap (λ (x : Entry). x.row) (sym i.2) ∙ tests.0;
        version_is = ap (λ (x : Entry). x.version) (sym i.2) ∙ tests.1;
      },
    )

-- ---- the names that items name

module _ (size : ℕ) (items : List Stored) (numbered : Counts 0 items) (named : AreWellNamed size items) where
  abbrev pub names_at : List ℕ → List ChunkName
  names_at row = names_of (chunks_of size items row)

  abbrev pub all_names : List ChunkName
  all_names = flat_map (λ row. names_of (chunks_of size items row)) (rows_in items)

  abbrev is_of : List ℕ → ChunkName → Bool
  is_of row name = has_version (entries_of items) row name.version

  -- the names with versions of a row are those of its chunks
  of_row : (row : List ℕ) (name : ChunkName) → Among name all_names → is_of row name ≡ true → Among name (names_at row)
  of_row row name a is =
      let x = among_flat names_at name (rows_in items) a in
      let from_ = row_known size items named x.0 name x.2 in
      let own = there_version items row name.version is in
      let same : from_.0 ≡ own.0 = one_version 0 items from_.0 own.0 numbered from_.1.stands own.1.stands (from_.1.version_is ∙ sym own.1.version_is) in
      let rows : x.0 ≡ row = sym from_.1.row_is ∙ (ap (λ (i : Stored). i.entry.row) same ∙ own.1.row_is) in
      subst (λ (r : List ℕ). Among name (names_at r)) rows x.2

  row_of : (row : List ℕ) (name : ChunkName) → Among name (names_at row) → Among name all_names × (is_of row name ≡ true)
  row_of row name a =
      let from_ = row_known size items named row name a in (
        flat_among names_at name row (rows_in items) (subst (λ (r : List ℕ). Among r (rows_in items)) from_.1.row_is (rows_there items from_.0 (member_is from_.0 items from_.1.stands))) a,
        version_there items row name.version from_.0 from_.1,
      )

  pub row_length : (row : List ℕ) → length (filter (is_of row) (rising all_names)) ≡ length (names_at row)
  row_length row = as_long (filter (is_of row) (rising all_names)) (names_at row)
      (different_filter (is_of row) (rising all_names) (different_rising all_names)) (row_different size items named row)
      (λ name a. let r = among_filter (is_of row) name (rising all_names) a in of_row row name (among_rising name all_names r.1) r.0)
      (λ name a. let r = row_of row name a in filter_among (is_of row) name (rising all_names) r.1 (rising_among name all_names r.0))

-- ---- what is listed

module _ (g : ℕ → Scheme) (w : World) (s : Said) (k : Kept g w s) (table size : ℕ) (some : 0 < size) (named : AreWellNamed size (k.items table)) where
  abbrev items : List Stored
  items = k.items table

  numbered : Counts 0 items
  numbered = (k.tables table).counted

  chunks_are : (content : Content) → fit.chunks_of size (objects_of content) ≡ chunks_in size (Some content)
  chunks_are Gone = refl
  chunks_are (Row cells objects) = refl

  row_count : (row : List ℕ) (o : Option Stored) → current_of items row ≡ o → length (names_of (chunks_of size items row)) ≡ chunks_in size (content_at s table (current (s.history table) row))
  row_count row None at =
      ap (λ (o : Option Stored). length (names_of (step.chunks_in size o))) at
      ∙ sym (ap (λ (v : ℕ). chunks_in size (content_at s table v)) (row_stored g w s k table row None at) ∙ ap (chunks_in size) (no_content g w s k table))
  row_count row (Some i) at =
      let stored = row_stored g w s k table row (Some i) at in
      ap (λ (o : Option Stored). length (names_of (step.chunks_in size o))) at
      ∙ (ap length (row_names size items named row i at)
      ∙ (said_count size some i.names (objects_of i.content) (named.all i (is_current size items named row i at).0).each
      ∙ (chunks_are i.content ∙ sym (ap (λ (v : ℕ). chunks_in size (content_at s table v)) stored.1 ∙ ap (chunks_in size) stored.2))))

  names_are : AreChunks s table size (rising (all_names size items numbered named))
  names_are = record {
    rise = rising_rises (all_names size items numbered named);
    versions = λ name a.
        let x = among_flat (λ row. names_of (chunks_of size items row)) name (rows_in items)
        (among_rising name (all_names size items numbered named) (member_is name (rising (all_names size items numbered named)) a)) in
        let from_ = row_known size items named x.0 name x.2 in (
          from_.0.entry,
          subst (λ (es : List Entry). members.Among es from_.0.entry) (sym (k.history table)) (among_map (λ (i : Stored). i.entry) items from_.0 from_.1.stands),
          from_.1.version_is,
        );
    counted = λ row.
        ap (λ (es : List Entry). length (chunks.names_of es row (rising (all_names size items numbered named)))) (k.history table)
        ∙ (row_length size items numbered named row ∙ row_count row (current_of items row) refl);
  }

-- a disk with these items and nothing left over
module _ (g : ℕ → Scheme) (w : World) (s : Said) (k : Kept g w s) (table size : ℕ) (some : 0 < size) where
  pub listed : (d : StoreDisk) → d.items ≡ k.items table → AreWellNamed size d.items → d.left ≡ [] → AreChunks s table size (names_on size d)
  listed d same named none =
      let items : List Stored = k.items table in
      let here : AreWellNamed size items = subst (AreWellNamed size) same named in
      subst (λ (left : List ChunkName). AreChunks s table size (rising (flat_map (λ row. names_of (chunks_of size d.items row)) (rows_in d.items) ++ left))) (sym none)
      (subst (λ (xs : List Stored). AreChunks s table size (rising (flat_map (λ row. names_of (chunks_of size xs row)) (rows_in xs) ++ []))) (sym same)
      (subst (λ (ns : List ChunkName). AreChunks s table size (rising ns)) (sym (append-nil (flat_map (λ row. names_of (chunks_of size items row)) (rows_in items))))
      (names_are g w s k table size some here)))
