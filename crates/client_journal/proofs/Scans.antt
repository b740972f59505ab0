-- What a scan finds, row by row.
use Rattle.std.proofs.Common.{◌≡◌, inl, inr, ⊎_elim, ◌⊎◌, ℕ, zero, suc, ◌+◌, ◌<◌, ◌≤◌, Bool, true, false, cond, not, List, [], ◌∷◌, ◌++◌, length, get_or, take, drop, map, Option, Some, None, Result, Ok, Err, refl, sym, ◌∙◌, ap, subst, arith, append_assoc}
use Rattle.std.specs.Prelude.{slice_get, IfOk, option_map, ◌||◌}
use Rattle.std.specs.declared.cmp.Ordering.{Ordering}
use Rattle.std.specs.declared.cmp.Ordering.TheVariants.{Less, Equal, Greater}
use Rattle.std.specs.Ordering.{match_ordering, ordering_reverse}
use Rattle.std.specs.List.{AllByRecursion, list_any}
use Rattle.std.specs.Bool.{MatchBool}
use Rattle.std.specs.BTreeMap.{insert_entry, is_at}
use Rattle.std.specs.BTreeSet.{BTreeSet, keys, contains, insert_key}
use Rattle.std.specs.Map.{lookup, keys_of}
use Rattle.std.specs.Cmp.{eq_by_cmp_equiv}
use Rattle.std.specs.List.Sorted.{IsStrictlySortedBy}
use Rattle.std.proofs.Common.{drop-cons, add-one}
use Rattle.std.proofs.lemmas.Map.Entries.{lookup_from_place}
use Rattle.std.proofs.lemmas.Map.Keys.{IsDistinct-from_sorted}
use Rattle.held_value.specs.declared.local_name.LocalName.{LocalName}
use Rattle.slot_store.specs.declared.held.RowKey.{RowKey}
use Rattle.slot_store.specs.declared.held.RowSlots.{RowSlots}
use Rattle.slot_store.specs.declared.held.TableRecord.{TableRecord}
use Rattle.slot_store.specs.Data.{SlotData, key_cmp, key_at, key_of, slots_of, record_of, with_slots, with_record}
use Rattle.slot_store.proofs.Keys.{key_cmp_total}
use Rattle.plan_log.specs.declared.plan.RowChange.{RowChange}
use Rattle.plan_log.specs.declared.plan.Commit.{Commit}
use Rattle.client_journal.specs.declared.scanned.Scanned.{Scanned}
use Rattle.client_journal.specs.declared.fault.JournalFault.{JournalFault}
use Rattle.client_journal.specs.Fault.{caused}
use Rattle.client_journal.specs.TakesOn.{IsNotDisk}
use Rattle.client_journal.specs.Names.{names_in}
use Rattle.client_journal.specs.Devs.{ClientDevs}
use Rattle.client_journal.specs.Redone.{slots_for, row_behind, with_row_if, record_for, with_record_if, applied, redone}
use Rattle.client_journal.specs.NamedSlots.{IsRow, IsRowOf}
use Rattle.client_journal.specs.Asking.{applied_if}
use Rattle.client_journal.specs.There.{Chunks, is_not_there, hidden_from, named_from, HasNames, HasKeys}
use Rattle.client_journal.specs.Scan.{put_or, with_waiting, NotesRow, IsScanned, IsFound}
use Rattle.client_journal.proofs.Behind.{its_slots, other_slots}
use Rattle.client_journal.proofs.Lookups.{key_itself}
use Rattle.client_journal.proofs.Theres.{no_names, no_keys}

abbrev pub Rows : Type 0
Rows = List (RowKey × RowSlots)

-- ---- the rows behind a commit

pub put_other : (commit : Commit) (table : ℕ) (row : List ℕ) → (IsRow commit.table commit.row table row → ⊥) → (held : SlotData)
    → slots_of (applied_if (Some commit) held) table row ≡ put_or None (slots_of held table row)
put_other commit table row not held = other_slots commit held table row not

module _ (commit : Commit) (table : ℕ) (row : List ℕ) (its : IsRow commit.table commit.row table row) where
  abbrev IsPut : Option RowSlots → Type 0
  IsPut found = (held : SlotData) → slots_of (applied_if (Some commit) held) table row ≡ put_or found (slots_of held table row)

  abbrev stored_at : ℕ → RowChange → RowSlots
  stored_at t change = record { table = t; row = change.row; last = commit.last; slots = change.slots }

  abbrev copied : Option RowChange → Option RowSlots
  copied change = option_map (λ (change : RowChange). stored_at commit.table change) change

  none_row : (change : Option RowChange) → change ≡ None → IsRowOf change row → ⊥
  none_row None is h = h
  none_row (Some change) is h = absurd cc

  put_is : (change : Option RowChange) → commit.row ≡ change → (found : Option RowSlots) → found ≡ copied change → IsPut found
  put_is None is found are held = absurd (none_row commit.row is its.1)
  put_is (Some change) is found are held =
      its_slots commit held table row change is its
      ∙ (ap (λ (t : ℕ). Some (stored_at t change)) (sym its.0)
      ∙ ap (λ (o : Option RowSlots). put_or o (slots_of held table row)) (sym are))

  pub put_its : {E : Type 0} (r : Result (Option RowSlots) E) → IfOk r (λ made. made ≡ copied commit.row) → IfOk r IsPut
  put_its (Ok found) are = put_is commit.row refl found are
  put_its (Err e) are = tt

-- ---- keys

keys_insert : (es : Rows) (k : RowKey) (v : RowSlots) → keys_of (insert_entry key_cmp es k v) ≡ insert_key key_cmp (keys_of es) k
keys_insert [] k v = refl
keys_insert (e ∷ es) k v = pick (key_cmp k e.0) (keys_insert es k v)
  where
    pick : (o : Ordering) → keys_of (insert_entry key_cmp es k v) ≡ insert_key key_cmp (keys_of es) k
        → keys_of (match_ordering o ((k, v) ∷ e ∷ es) ((e.0, v) ∷ es) (e ∷ insert_entry key_cmp es k v)) ≡ match_ordering o (k ∷ e.0 ∷ keys_of es) (e.0 ∷ keys_of es) (e.0 ∷ insert_key key_cmp (keys_of es) k)
    pick Less more = refl
    pick Equal more = refl
    pick Greater more = ap (λ (l : List RowKey). e.0 ∷ l) more

same_rows : (held : SlotData) (o : Option TableRecord) → (with_record_if held o).rows ≡ held.rows
same_rows held None = refl
same_rows held (Some table) = refl

rows_behind : (commit : Commit) (held : SlotData) → (applied commit held).rows ≡ (with_row_if held (row_behind commit)).rows
rows_behind commit held = same_rows (with_row_if held (row_behind commit)) (record_for (record_of held commit.table) commit)

pub keys_behind : (commit : Commit) (change : RowChange) → commit.row ≡ Some change → (held : SlotData) → keys_of (applied commit held).rows ≡ insert_key key_cmp (keys_of held.rows) (key_at commit.table change.row)
keys_behind commit change is held =
    ap (λ (rows : Rows). keys_of rows) (rows_behind commit held)
    ∙ (ap (λ (o : Option RowChange). keys_of (with_row_if held (option_map (slots_for commit) o)).rows) is
    ∙ keys_insert held.rows (key_at commit.table change.row) (slots_for commit change))

pub keys_still : (commit : Commit) → commit.row ≡ None → (held : SlotData) → keys_of (applied commit held).rows ≡ keys_of held.rows
keys_still commit is held =
    ap (λ (rows : Rows). keys_of rows) (rows_behind commit held)
    ∙ ap (λ (o : Option RowChange). keys_of (with_row_if held (option_map (slots_for commit) o)).rows) is

-- one key more, behind one that waits or with it
push_more : (xs rest : List RowKey) (k : RowKey) → (xs ++ k ∷ []) ++ rest ≡ xs ++ k ∷ rest
push_more xs rest k = append_assoc xs (k ∷ []) rest

pub between_none : (xs rest : List RowKey) (next : RowKey) → (xs ++ next ∷ []) ++ with_waiting None rest ≡ xs ++ with_waiting None (next ∷ rest)
between_none xs rest next = push_more xs rest next

pub between_less : (xs rest : List RowKey) (key next : RowKey) → key_cmp key next ≡ Less → ((xs ++ key ∷ []) ++ next ∷ []) ++ with_waiting None rest ≡ xs ++ with_waiting (Some key) (next ∷ rest)
between_less xs rest key next is =
    push_more (xs ++ key ∷ []) rest next
    ∙ (push_more xs (next ∷ rest) key
    ∙ ap (λ (o : Ordering). xs ++ match_ordering o (key ∷ next ∷ rest) (next ∷ rest) (next ∷ insert_key key_cmp rest key)) (sym is))

pub between_equal : (xs rest : List RowKey) (key next : RowKey) → key_cmp key next ≡ Equal → (xs ++ next ∷ []) ++ with_waiting None rest ≡ xs ++ with_waiting (Some key) (next ∷ rest)
between_equal xs rest key next is =
    push_more xs rest next
    ∙ ap (λ (o : Ordering). xs ++ match_ordering o (key ∷ next ∷ rest) (next ∷ rest) (next ∷ insert_key key_cmp rest key)) (sym is)

pub between_greater : (xs rest : List RowKey) (key next : RowKey) → key_cmp key next ≡ Greater → (xs ++ next ∷ []) ++ with_waiting (Some key) rest ≡ xs ++ with_waiting (Some key) (next ∷ rest)
between_greater xs rest key next is =
    push_more xs (insert_key key_cmp rest key) next
    ∙ ap (λ (o : Ordering). xs ++ match_ordering o (key ∷ next ∷ rest) (next ∷ rest) (next ∷ insert_key key_cmp rest key)) (sym is)

pub rest_from : (ks : List RowKey) (i : ℕ) (k e : RowKey) → i < length ks → k ≡ get_or ks i e → drop i ks ≡ k ∷ drop (i + 1) ks
rest_from ks i k e lt is = drop-cons ks i e lt ∙ ap (λ (y : RowKey). y ∷ drop (suc i) ks) (sym is) ∙ ap (λ (j : ℕ). k ∷ drop j ks) (sym (add-one i))

-- ---- the row at a place

pub record IsEntryAt (rows : Rows) (i : ℕ) (entry : RowKey × RowSlots) : Type 0 where
  pub rest : drop i rows ≡ entry ∷ drop (i + 1) rows
  pub get : slice_get rows i ≡ Some entry
  pub key : (e : RowKey) → get_or (keys_of rows) i e ≡ entry.0

pub entry_at : (rows : Rows) (i : ℕ) → i < length (keys_of rows) → (entry : RowKey × RowSlots) × IsEntryAt rows i entry
entry_at [] i lt = absurd (omega arith)
entry_at (r ∷ rows) zero lt = (r, record { rest = refl; get = refl; key = λ e. refl })
entry_at (r ∷ rows) (suc i) lt =
    let x = entry_at rows i (omega arith) in
    let next : suc i + 1 ≡ suc (i + 1) = omega arith in
    (x.0, record { rest = x.1.rest ∙ ap (λ (j : ℕ). x.0 ∷ drop j (r ∷ rows)) (sym next); get = x.1.get; key = x.1.key })

module _ (held : SlotData) (rising : IsStrictlySortedBy key_cmp (keys_of held.rows)) where
  pub row_at : (i : ℕ) (entry : RowKey × RowSlots) → IsEntryAt held.rows i entry → slots_of held entry.0.table entry.0.row ≡ Some entry.1
  row_at i entry x = lookup_from_place (eq_by_cmp_equiv key_cmp_total) held.rows i entry.0 entry.1 (IsDistinct-from_sorted key_cmp (keys_of held.rows) rising) x.get

-- the row of the key at a place
module _ (held : SlotData) (rising : IsStrictlySortedBy key_cmp (keys_of held.rows)) (ks : List RowKey) (are : ks ≡ keys_of held.rows) (i : ℕ) (key e : RowKey) (lt : i < length ks) (is : key ≡ get_or ks i e) where
  pub the_entry : (entry : RowKey × RowSlots) × IsEntryAt held.rows i entry
  the_entry = entry_at held.rows i (subst (λ (l : List RowKey). i < length l) are lt)

  pub its_key : the_entry.0.0 ≡ key
  its_key = sym (is ∙ (ap (λ (l : List RowKey). get_or l i e) are ∙ the_entry.1.key e))

  pub its_row : slots_of held key.table key.row ≡ Some the_entry.0.1
  its_row = subst (λ (q : RowKey). slots_of held q.table q.row ≡ Some the_entry.0.1) its_key (row_at held rising i the_entry.0 the_entry.1)

-- ---- one row more

module _ (chunks : Chunks) (held : SlotData) (greatest : ℕ) where
  pub scanned_none : (found : Scanned) → keys found.named ≡ [] → keys found.hidden ≡ [] → IsScanned chunks held greatest held.rows found
  scanned_none found names ks = record { before = []; keys = []; named = no_names found.named names; hidden = no_keys found.hidden ks; all_named = refl; all_hidden = refl }

  pub scanned_more : (entry : RowKey × RowSlots) (rest : Rows) (old new : Scanned) → IsScanned chunks held greatest (entry ∷ rest) old → NotesRow chunks held greatest entry.0 entry.1.slots old new → IsScanned chunks held greatest rest new
  scanned_more entry rest old new s n = pick (is_not_there chunks (record_of held entry.0.table) greatest s.before entry.1.slots) (n.noted s.before s.keys s.named s.hidden) s.all_named s.all_hidden
    where
      pick : (b : Bool) → MatchBool b (HasNames s.before new.named × HasKeys (s.keys ++ entry.0 ∷ []) new.hidden) (HasNames (s.before ++ names_in entry.1.slots) new.named × HasKeys s.keys new.hidden)
          → named_from chunks held greatest [] held.rows ≡ cond b (named_from chunks held greatest s.before rest) (named_from chunks held greatest (s.before ++ names_in entry.1.slots) rest)
          → hidden_from chunks held greatest [] held.rows ≡ s.keys ++ cond b (entry.0 ∷ hidden_from chunks held greatest s.before rest) (hidden_from chunks held greatest (s.before ++ names_in entry.1.slots) rest)
          → IsScanned chunks held greatest rest new
      pick true m named hidden = record {
        before = s.before;
        keys = s.keys ++ entry.0 ∷ [];
        named = m.0;
        hidden = m.1;
        all_named = named;
        all_hidden = hidden ∙ sym (append_assoc s.keys (entry.0 ∷ []) (hidden_from chunks held greatest s.before rest));
      }
      pick false m named hidden = record { before = s.before ++ names_in entry.1.slots; keys = s.keys; named = m.0; hidden = m.1; all_named = named; all_hidden = hidden }

  -- the row at a place more
  pub scanned_next : (i : ℕ) (entry : RowKey × RowSlots) → IsEntryAt held.rows i entry → (key : RowKey) → entry.0 ≡ key → (old new : Scanned) → IsScanned chunks held greatest (drop i held.rows) old
      → NotesRow chunks held greatest key entry.1.slots old new → IsScanned chunks held greatest (drop (i + 1) held.rows) new
  scanned_next i entry x key same old new s n =
      scanned_more entry (drop (i + 1) held.rows) old new (subst (λ (l : Rows). IsScanned chunks held greatest l old) x.rest s) (subst (λ (q : RowKey). NotesRow chunks held greatest q entry.1.slots old new) (sym same) n)

append-none : {A : Type 0} (xs : List A) → xs ++ [] ≡ xs
append-none [] = refl
append-none {A} (x ∷ xs) = ap (λ (l : List A). x ∷ l) (append-none xs)

pub scanned_all : (d : ClientDevs) (held : SlotData) (found : Scanned) → redone d ≡ held → IsStrictlySortedBy key_cmp (keys_of held.rows) → IsScanned d.chunks held d.journal.greatest [] found → IsFound d found
scanned_all d held found is rising s = record {
  rising = subst (λ (h : SlotData). IsStrictlySortedBy key_cmp (keys_of h.rows)) (sym is) rising;
  named = subst (λ (l : List LocalName). HasNames l found.named) (sym (ap (λ (h : SlotData). named_from d.chunks h d.journal.greatest [] h.rows) is ∙ s.all_named)) s.named;
  hidden = subst (λ (l : List RowKey). HasKeys l found.hidden) (sym (ap (λ (h : SlotData). hidden_from d.chunks h d.journal.greatest [] h.rows) is ∙ (s.all_hidden ∙ append-none s.keys))) s.hidden;
}

keys_len : (rows : Rows) → length (keys_of rows) ≡ length rows
keys_len [] = refl
keys_len (e ∷ rows) = omega (arith, keys_len rows)

pub all_over : (rows : Rows) (ks : List RowKey) (i : ℕ) → ks ≡ keys_of rows → length ks ≤ i → length rows ≤ i
all_over rows ks i are le = omega (arith, ap (λ (l : List RowKey). length l) are, keys_len rows, le)

pub caused_ok : {T E : Type 0} (cause : E → JournalFault) (P : T → Type 0) (r : Result T E) → IfOk r P → IfOk (caused cause r) P
caused_ok cause P (Ok x) h = h
caused_ok cause P (Err e) h = tt

-- ---- keys in rising order

all_behind : (k x : RowKey) (xs : List RowKey) → key_cmp k x ≡ Less → AllByRecursion (λ y. key_cmp x y ≡ Less) xs → AllByRecursion (λ y. key_cmp k y ≡ Less) xs
all_behind k x [] less all = tt
all_behind k x (y ∷ ys) less all = (key_cmp_total.trans k x y less all.0, all_behind k x ys less all.1)

all_insert : (x k : RowKey) (ks : List RowKey) → key_cmp x k ≡ Less → AllByRecursion (λ y. key_cmp x y ≡ Less) ks → AllByRecursion (λ y. key_cmp x y ≡ Less) (insert_key key_cmp ks k)
all_insert x k [] less all = (less, tt)
all_insert x k (y ∷ ys) less all = pick (key_cmp k y) (all_insert x k ys less all.1)
  where
    pick : (o : Ordering) → AllByRecursion (λ z. key_cmp x z ≡ Less) (insert_key key_cmp ys k)
        → AllByRecursion (λ z. key_cmp x z ≡ Less) (match_ordering o (k ∷ y ∷ ys) (y ∷ ys) (y ∷ insert_key key_cmp ys k))
    pick Less more = (less, all)
    pick Equal more = all
    pick Greater more = (all.0, more)

pub sorted_insert : (k : RowKey) (ks : List RowKey) → IsStrictlySortedBy key_cmp ks → IsStrictlySortedBy key_cmp (insert_key key_cmp ks k)
unfolding IsStrictlySortedBy
sorted_insert k [] s = (tt, tt)
sorted_insert k (x ∷ xs) s = pick (key_cmp k x) refl (sorted_insert k xs s.1)
  where
    pick : (o : Ordering) → key_cmp k x ≡ o → IsStrictlySortedBy key_cmp (insert_key key_cmp xs k)
        → IsStrictlySortedBy key_cmp (match_ordering o (k ∷ x ∷ xs) (x ∷ xs) (x ∷ insert_key key_cmp xs k))
    pick Less is more = ((is, all_behind k x xs is s.0), s)
    pick Equal is more = s
    pick Greater is more = (all_insert x k xs (key_cmp_total.antisymm x k ∙ ap ordering_reverse is) s.0, more)

pub no_hidden : (set : BTreeSet RowKey) → HasKeys [] set → keys set ≡ []
no_hidden set has = pick set.keys refl
  where
    pick : (ks : List RowKey) → set.keys ≡ ks → set.keys ≡ []
    pick [] is = is
    pick (k ∷ ks) is =
        let yes_ : contains key_cmp set k ≡ true = ap (list_any (is_at (key_cmp k))) is ∙ ap (λ (b : Bool). b || list_any (is_at (key_cmp k)) ks) (key_itself k) in
        let no_ : contains key_cmp set k ≡ false = has.same k in
        absurd cc

pub ok_not_disk : {T : Type 0} (x : T) → IsNotDisk (Ok x)
ok_not_disk x is = cc
