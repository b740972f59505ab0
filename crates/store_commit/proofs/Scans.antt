-- What a scan finds, row by row.
use Rattle.std.proofs.Common.{◌≡◌, inl, inr, ⊎_elim, ◌⊎◌, ℕ, zero, suc, ◌+◌, ◌<◌, ◌≤◌, Bool, true, false, cond, not, List, [], ◌∷◌, ◌++◌, length, get_or, take, drop, Option, Some, None, refl, sym, ◌∙◌, ap, subst, arith, append_assoc}
use Rattle.std.specs.Prelude.{slice_get, filter, IsSome}
use Rattle.std.specs.Bool.{MatchBool}
use Rattle.std.specs.BTreeMap.{is_at}
use Rattle.std.specs.BTreeSet.{BTreeSet, keys, contains}
use Rattle.std.specs.Map.{lookup, keys_of}
use Rattle.std.specs.Cmp.{eq_by_cmp_equiv}
use Rattle.std.specs.List.Sorted.{IsStrictlySortedBy}
use Rattle.std.proofs.lemmas.Map.Entries.{lookup_from_place}
use Rattle.std.proofs.lemmas.Map.Keys.{IsDistinct-from_sorted}
use Rattle.stab_base.specs.declared.chunk_name.ChunkName.{ChunkName}
use Rattle.row_value.specs.declared.schema.Schema.{Schema}
use Rattle.chunk_store.specs.Payload.{name_cmp}
use Rattle.row_store.specs.declared.stored.StoredRow.{StoredRow}
use Rattle.row_store.specs.Data.{TableData, id_cmp, row_of}
use Rattle.row_store.proofs.Versions.{id_cmp_total}
use Rattle.store_commit.specs.declared.there.Found.{Found}
use Rattle.store_commit.specs.NamedChunks.{names_of}
use Rattle.store_commit.specs.There.{Chunks, is_not_there, hidden_from, named_from, HasIds}
use Rattle.store_commit.specs.Scan.{NotesRow, IsScanned, IsFound}
use Rattle.store_commit.specs.Update.{HasNames}
use Rattle.store_commit.proofs.Theres.{no_names, no_ids}

abbrev pub Rows : Type 0
Rows = List (List ℕ × StoredRow)

-- ---- the row at a place

pub record IsEntryAt (rows : Rows) (i : ℕ) (entry : List ℕ × StoredRow) : Type 0 where
  pub rest : drop i rows ≡ entry ∷ drop (i + 1) rows
  pub get : slice_get rows i ≡ Some entry
  pub key : (e : List ℕ) → get_or (keys_of rows) i e ≡ entry.0

pub entry_at : (rows : Rows) (i : ℕ) → i < length (keys_of rows) → (entry : List ℕ × StoredRow) × IsEntryAt rows i entry
entry_at [] i lt = absurd (omega arith)
entry_at (r ∷ rows) zero lt = (r, record { rest = refl; get = refl; key = λ e. refl })
entry_at (r ∷ rows) (suc i) lt =
    let x = entry_at rows i (omega arith) in
    let next : suc i + 1 ≡ suc (i + 1) = omega arith in
    (x.0, record { rest = x.1.rest ∙ ap (λ (j : ℕ). x.0 ∷ drop j (r ∷ rows)) (sym next); get = x.1.get; key = x.1.key })

module _ (held : TableData) (rising : IsStrictlySortedBy id_cmp (keys_of held.rows)) where
  pub row_at : (i : ℕ) (entry : List ℕ × StoredRow) → IsEntryAt held.rows i entry → row_of held entry.0 ≡ Some entry.1
  row_at i entry x = lookup_from_place (eq_by_cmp_equiv id_cmp_total) held.rows i entry.0 entry.1 (IsDistinct-from_sorted id_cmp (keys_of held.rows) rising) x.get

-- the row of the id at a place
module _ (held : TableData) (rising : IsStrictlySortedBy id_cmp (keys_of held.rows)) (ids : List (List ℕ)) (are : ids ≡ keys_of held.rows) (i : ℕ) (row e : List ℕ) (lt : i < length ids) (is : row ≡ get_or ids i e) where
  pub the_entry : (entry : List ℕ × StoredRow) × IsEntryAt held.rows i entry
  the_entry = entry_at held.rows i (subst (λ (l : List (List ℕ)). i < length l) are lt)

  pub its_id : the_entry.0.0 ≡ row
  its_id = sym (is ∙ (ap (λ (l : List (List ℕ)). get_or l i e) are ∙ the_entry.1.key e))

  pub its_row : row_of held row ≡ Some the_entry.0.1
  its_row = subst (λ (q : List ℕ). row_of held q ≡ Some the_entry.0.1) its_id (row_at held rising i the_entry.0 the_entry.1)

-- ---- one row more

module _ (chunks : Chunks) (table : Option (Schema × ℕ)) (all : Rows) where
  pub scanned_none : (found : Found) → keys found.named ≡ [] → keys found.hidden ≡ [] → IsScanned chunks table all all found
  scanned_none found names ids = record { before = []; ids = []; named = no_names found.named names; hidden = no_ids found.hidden ids; all_named = refl; all_hidden = refl }

  pub scanned_more : (entry : List ℕ × StoredRow) (rest : Rows) (old new : Found) → IsScanned chunks table all (entry ∷ rest) old → NotesRow chunks table entry.0 entry.1 old new → IsScanned chunks table all rest new
  scanned_more entry rest old new s n = pick (is_not_there chunks table s.before entry.1) (n.noted s.before s.ids s.named s.hidden) s.all_named s.all_hidden
    where
      pick : (b : Bool) → MatchBool b (HasNames s.before new.named × HasIds (s.ids ++ entry.0 ∷ []) new.hidden) (HasNames (s.before ++ names_of entry.1.content) new.named × HasIds s.ids new.hidden)
          → named_from chunks table [] all ≡ cond b (named_from chunks table s.before rest) (named_from chunks table (s.before ++ names_of entry.1.content) rest)
          → hidden_from chunks table [] all ≡ s.ids ++ cond b (entry.0 ∷ hidden_from chunks table s.before rest) (hidden_from chunks table (s.before ++ names_of entry.1.content) rest)
          → IsScanned chunks table all rest new
      pick true m named hidden = record {
        before = s.before;
        ids = s.ids ++ entry.0 ∷ [];
        named = m.0;
        hidden = m.1;
        all_named = named;
        all_hidden = hidden ∙ sym (append_assoc s.ids (entry.0 ∷ []) (hidden_from chunks table s.before rest));
      }
      pick false m named hidden = record { before = s.before ++ names_of entry.1.content; ids = s.ids; named = m.0; hidden = m.1; all_named = named; all_hidden = hidden }

-- the row at a place more
pub scanned_next : (chunks : Chunks) (table : Option (Schema × ℕ)) (all : Rows) (i : ℕ) (entry : List ℕ × StoredRow) → IsEntryAt all i entry → (row : List ℕ) → entry.0 ≡ row → (old new : Found)
    → IsScanned chunks table all (drop i all) old
    → NotesRow chunks table row entry.1 old new → IsScanned chunks table all (drop (i + 1) all) new
scanned_next chunks table all i entry x row same old new s n =
    scanned_more chunks table all entry (drop (i + 1) all) old new (subst (λ (l : Rows). IsScanned chunks table all l old) x.rest s) (subst (λ (q : List ℕ). NotesRow chunks table q entry.1 old new) (sym same) n)

append-none : {A : Type 0} (xs : List A) → xs ++ [] ≡ xs
append-none [] = refl
append-none {A} (x ∷ xs) = ap (λ (l : List A). x ∷ l) (append-none xs)

pub scanned_all : (chunks : Chunks) (held : TableData) (found : Found) → IsScanned chunks held.table held.rows [] found → IsStrictlySortedBy id_cmp (keys_of held.rows) → IsFound chunks held found
scanned_all chunks held found s rising = record {
  named = subst (λ (l : List ChunkName). HasNames l found.named) (sym s.all_named) s.named;
  hidden = subst (λ (l : List (List ℕ)). HasIds l found.hidden) (sym (s.all_hidden ∙ append-none s.ids)) s.hidden;
  rising = rising;
}
