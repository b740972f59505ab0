-- The chunks of a row, as the items of a table name them.
use Rattle.std.proofs.Common.{◌≡◌, inl, inr, ⊎_elim, ◌⊎◌, ℕ, suc, ◌+◌, ◌<◌, ◌≤◌, Bool, true, false, List, [], ◌∷◌, ◌++◌, length, Some, None, refl, sym, ◌∙◌, ap, subst, arith}
use Rattle.std.proofs.Common.{append_assoc, append-nil}
use Rattle.std.specs.Prelude.{◌==◌, filter, map}
use Rattle.std.specs.List.{flat_map}
use Rattle.std.proofs.lemmas.Bool.Decides.{nat_tests}
use Rattle.stab_base.specs.declared.chunk_name.ChunkName.{ChunkName}
use Rattle.table_model.specs.History.{same_row}
use Rattle.store_commit.specs.NamedChunks.{Among, AreDifferent}
use Rattle.store_commit.proofs.Leftovers.{filter_among}
use Rattle.step_tables.specs.Store.{Stored, current_of}
use Rattle.step_tables.specs.Items.{IsItemAt}
use Rattle.step_tables.specs.Chunks.{Named, name_of_new, names_of, others_of, objects_of, each_chunk, is_of_each, chunks_in, chunks_with, chunks_of}
use Rattle.step_tables.proofs.Lists.{among_left, among_push, same_row-is}
use Rattle.device_laws.specs.Stands.{AreNumbered, is_new, AreNext, IsMade, AreMade}
use Rattle.device_laws.proofs.Numbered.{current_own, current_other}

abbrev pub flat : List (List Named) → List Named
flat objects = flat_map (λ (object : List Named). object) objects

abbrev pub names : List Named → List ChunkName
names held = map (λ (chunk : Named). chunk.0) held

-- how many are new with a version
abbrev pub count_new : ℕ → List Named → ℕ
count_new version chunks = length (filter (is_new version) chunks)

-- ---- chunks whose names are the next ones

pub record IsBetween (version first last : ℕ) (name : ChunkName) : Type 0 where
  pub version_is : name.version ≡ version
  pub least : first ≤ name.ordinal
  pub most : name.ordinal < last

pub next_within : (v k : ℕ) (xs : List Named) → AreNext v k xs → (x : Named) → Among x xs → (x.0.version ≡ v) × (k ≤ x.0.ordinal) × (x.0.ordinal < k + length xs)
next_within v k [] n x a = absurd a
next_within v k (c ∷ xs) n x (inl same) =
    let is : x.0 ≡ name_of_new v k = ap (λ (y : Named). y.0) same ∙ n.0 in
    let ordinal : x.0.ordinal ≡ k = ap (λ (y : ChunkName). y.ordinal) is in
    (ap (λ (y : ChunkName). y.version) is, omega arith, omega arith)
next_within v k (c ∷ xs) n x (inr more) =
    let r = next_within v (k + 1) xs n.1 x more in
    (r.0, omega (arith, r.1), omega (arith, r.2))

-- ---- the row behind an item

pub record IsSound (most : ℕ) (held : List (List Named)) : Type 0 where
  pub below : (chunk : Named) → Among chunk (flat held) → chunk.0.version ≤ most
  pub different : AreDifferent (names_of held)

pub nothing_sound : (n : ℕ) → IsSound n []
nothing_sound n = record { below = λ chunk a. absurd a; different = tt }

module _ (size : ℕ) (items : List Stored) (item : Stored) (m : IsMade size items item) where
  abbrev v : ℕ
  v = item.entry.version

  abbrev now : List Named
  now = flat (chunks_with size item)

  abbrev before : List (List Named)
  before = chunks_of size items item.entry.row

  pub with_from : (chunk : Named) → Among chunk now → Among chunk (flat before) ⊎ IsBetween v 0 (0 + count_new v now) chunk.0
  with_from chunk a =
      ⊎_elim
      (λ old. inl old)
      (λ is.
      let test : (chunk.0.version == v) ≡ true = grind (arith, nat_tests) in
      let w = next_within v 0 (filter (is_new v) now) m.news chunk (filter_among (is_new v) chunk now test a) in
      inr (record { version_is = is; least = w.1; most = w.2 }))
      (m.from chunk a)

  pub with_sound : (most : ℕ) → IsSound most before → most < v → IsSound v (chunks_with size item)
  with_sound most s above = record {
    below = λ chunk a. ⊎_elim (λ old. let less = s.below chunk old in omega arith) (λ is. omega (arith, is)) (m.from chunk a);
    different = m.different;
  }

-- ---- the row behind all items of a table

sound_most : (n m : ℕ) (held : List (List Named)) → n ≤ m → IsSound n held → IsSound m held
sound_most n m held le s = record { below = λ chunk a. let less = s.below chunk a in omega arith; different = s.different }

-- one item more
pub chunks_own : (size : ℕ) (items : List Stored) (item : Stored) → chunks_of size (items ++ item ∷ []) item.entry.row ≡ chunks_with size item
chunks_own size items item = ap (chunks_in size) (current_own items item item.entry.row refl)

pub chunks_other : (size : ℕ) (items : List Stored) (item : Stored) (row : List ℕ) → same_row item.entry.row row ≡ false → chunks_of size (items ++ item ∷ []) row ≡ chunks_of size items row
chunks_other size items item row other = ap (chunks_in size) (current_other items item row other)

pub no_chunks : (size : ℕ) (items : List Stored) (row : List ℕ) → current_of items row ≡ None → chunks_of size items row ≡ []
no_chunks size items row none = ap (chunks_in size) none

pub chunks_are : (size : ℕ) (items : List Stored) (row : List ℕ) (item : Stored) → current_of items row ≡ Some item → chunks_of size items row ≡ chunks_with size item
chunks_are size items row item is = ap (chunks_in size) is

-- each object has its list of chunks
pub as_many : {X : Type 0} (size : ℕ) (said : List (List X)) (objects : List (List ℕ)) → length (each_chunk size said objects) ≡ length objects
as_many size said [] = refl
as_many size said (object ∷ objects) = ap suc (as_many size (others_of said) objects)

-- a chunk comes from an item of the row that has its version
abbrev pub ComesFrom : List Stored → List ℕ → ChunkName → Type 0
ComesFrom items row name = (item : Stored) × IsItemAt items row name.version item

-- the last item of a row has a name for each chunk, none twice, and of no later version
pub record IsLast (size : ℕ) (item : Stored) : Type 0 where
  pub each : is_of_each size item.names (objects_of item.content) ≡ true
  pub sound : IsSound item.entry.version (chunks_with size item)

record AreSound (size n : ℕ) (items : List Stored) : Type 0 where
  pub sound : (row : List ℕ) → IsSound n (chunks_of size items row)
  pub comes : (row : List ℕ) (chunk : Named) → Among chunk (flat (chunks_of size items row)) → ComesFrom items row chunk.0
  pub last : (row : List ℕ) (item : Stored) → current_of items row ≡ Some item → IsLast size item

no_items : (size : ℕ) → AreSound size 0 []
no_items size = record {
  sound = λ row. nothing_sound 0;
  comes = λ row chunk a. absurd a;
  last = λ row item is. absurd cc;
}

one_item : (a b : Stored) → Some a ≡ Some b → a ≡ b
one_item a b same = cc

module _ (size n : ℕ) (items : List Stored) (s : AreSound size n items) (item : Stored) (next : item.entry.version ≡ n + 1) (m : IsMade size items item) where
  with_item : IsSound item.entry.version (chunks_with size item)
  with_item = with_sound size items item m n (s.sound item.entry.row) (omega (arith, next))

  stays : (row : List ℕ) (name : ChunkName) → ComesFrom items row name → ComesFrom (items ++ item ∷ []) row name
  stays row name c = (c.0, record { stands = among_left items (item ∷ []) c.0 c.1.stands; row_is = c.1.row_is; version_is = c.1.version_is })

  own_comes : (chunk : Named) → Among chunk (flat (chunks_with size item)) → ComesFrom (items ++ item ∷ []) item.entry.row chunk.0
  own_comes chunk a =
      ⊎_elim (λ old. stays item.entry.row chunk.0 (s.comes item.entry.row chunk old)) (λ is. (item, record { stands = among_push items item; row_is = refl; version_is = sym is }))
      (m.from chunk a)

  sound_then : AreSound size (n + 1) (items ++ item ∷ [])
  sound_then = record {
    sound = λ row. sound_at row (same_row item.entry.row row) refl;
    comes = λ row chunk. comes_at row chunk (same_row item.entry.row row) refl;
    last = λ row. last_at row (same_row item.entry.row row) refl;
  }
    where
      sound_at : (row : List ℕ) (b : Bool) → same_row item.entry.row row ≡ b → IsSound (n + 1) (chunks_of size (items ++ item ∷ []) row)
      sound_at row true is =
          subst (λ (r : List ℕ). IsSound (n + 1) (chunks_of size (items ++ item ∷ []) r)) (same_row-is item.entry.row row is)
          (subst (IsSound (n + 1)) (sym (chunks_own size items item)) (subst (λ (k : ℕ). IsSound k (chunks_with size item)) next with_item))
      sound_at row false is = subst (IsSound (n + 1)) (sym (chunks_other size items item row is)) (sound_most n (n + 1) (chunks_of size items row) (omega arith) (s.sound row))

      comes_at : (row : List ℕ) (chunk : Named) (b : Bool) → same_row item.entry.row row ≡ b → Among chunk (flat (chunks_of size (items ++ item ∷ []) row)) → ComesFrom (items ++ item ∷ []) row chunk.0
      comes_at row chunk true is =
          subst (λ (r : List ℕ). Among chunk (flat (chunks_of size (items ++ item ∷ []) r)) → ComesFrom (items ++ item ∷ []) r chunk.0) (same_row-is item.entry.row row is)
          (λ a. own_comes chunk (subst (λ (l : List (List Named)). Among chunk (flat l)) (chunks_own size items item) a))
      comes_at row chunk false is =
          λ a. stays row chunk.0 (s.comes row chunk (subst (λ (l : List (List Named)). Among chunk (flat l)) (chunks_other size items item row is) a))

      last_at : (row : List ℕ) (b : Bool) → same_row item.entry.row row ≡ b → (i : Stored) → current_of (items ++ item ∷ []) row ≡ Some i → IsLast size i
      last_at row true is i at =
          subst (IsLast size) (one_item item i (sym (current_own items item row (same_row-is item.entry.row row is)) ∙ at)) (record { each = m.each; sound = with_item })
      last_at row false is i at = s.last row i (sym (current_other items item row is) ∙ at)

all_sound : (size n : ℕ) (before items : List Stored) → AreSound size n before → AreNumbered n items → AreMade size before items → AreSound size (n + length items) (before ++ items)
all_sound size n before [] s c m = subst (λ (l : List Stored). AreSound size (n + 0) l) (sym (append-nil before)) (subst (λ (k : ℕ). AreSound size k before) (omega arith) s)
all_sound size n before (item ∷ items) s c m =
    subst (λ (l : List Stored). AreSound size (n + length (item ∷ items)) l) (append_assoc before (item ∷ []) items)
    (subst (λ (k : ℕ). AreSound size k ((before ++ item ∷ []) ++ items)) (omega arith)
    (all_sound size (n + 1) (before ++ item ∷ []) items (sound_then size n before s item c.0 m.0) c.1 m.1))

-- one item more
pub made_push : (size : ℕ) (before items : List Stored) (item : Stored) → AreMade size before items → IsMade size (before ++ items) item → AreMade size before (items ++ item ∷ [])
made_push size before [] item m is = (subst (λ (l : List Stored). IsMade size l item) (append-nil before) is, tt)
made_push size before (x ∷ items) item m is =
    (m.0, made_push size (before ++ x ∷ []) items item m.1 (subst (λ (l : List Stored). IsMade size l item) (sym (append_assoc before (x ∷ []) items)) is))

module _ (size : ℕ) (items : List Stored) (numbered : AreNumbered 0 items) (made : AreMade size [] items) where
  all : AreSound size (length items) items
  all = subst (λ (n : ℕ). AreSound size n items) (omega arith) (all_sound size 0 [] items (no_items size) numbered made)

  pub row_sound : (row : List ℕ) → IsSound (length items) (chunks_of size items row)
  row_sound row = all.sound row

  pub chunk_comes_from : (row : List ℕ) (chunk : Named) → Among chunk (flat (chunks_of size items row)) → ComesFrom items row chunk.0
  chunk_comes_from row chunk a = all.comes row chunk a

  pub last_chunks : (row : List ℕ) (item : Stored) → current_of items row ≡ Some item → IsLast size item
  last_chunks row item is = all.last row item is
