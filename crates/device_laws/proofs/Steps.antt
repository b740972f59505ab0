-- What one write makes of devices that stand for a disk.
use Rattle.std.proofs.Common.{◌≡◌, inl, inr, ⊎_elim, ◌⊎◌, ℕ, ◌+◌, ◌<◌, false, List, [], ◌∷◌, ◌++◌, length, Option, Some, None, refl, sym, ◌∙◌, ap, subst, arith}
use Rattle.std.specs.Prelude.{IsSome}
use Rattle.std.specs.BTreeMap.{insert_entry, is_at}
use Rattle.stab_base.specs.declared.chunk_name.ChunkName.{ChunkName}
use Rattle.row_value.specs.declared.schema.Schema.{Schema}
use Rattle.spare_map.specs.Late.{without}
use Rattle.chunk_store.specs.Payload.{name_cmp}
use Rattle.chunk_store.specs.Standing.{chunk_in}
use Rattle.status_log.specs.Entry.{Entry}
use Rattle.store_commit.specs.Devs.{Devs, Write, changed_by}
use Rattle.store_commit.specs.Devs as devs
use Rattle.store_commit.specs.NamedChunks.{Among, AreDifferent}
use Rattle.store_commit.specs.Agenda.{drops}
use Rattle.store_commit.proofs.Lookups.{cases_name, not_itself_name, chunk_put, chunk_put_other, chunk_dropped, chunk_dropped_other}
use Rattle.step_tables.specs.Store.{Stored}
use Rattle.step_tables.specs.Facts.{Fact}
use Rattle.step_tables.specs.Messages.{Send}
use Rattle.step_tables.specs.StoreMoves.{StoreDisk, StoreTask, changed}
use Rattle.step_tables.specs.StoreMoves as moves
use Rattle.step_tables.specs.Chunks.{without_names}
use Rattle.device_laws.specs.Stands.{AreNumbered, IsMade, AreMade, IsHeld, StandChunks, StandsEntry, IsEntryOf, Stands, Follows}
use Rattle.device_laws.proofs.Names.{left_among, right_among, either_among, none_among, among_without, without_among}
use Rattle.device_laws.proofs.NamedDevices.{held_below, none_open}

pub some_is : (o : Option (List ℕ)) (bytes : List ℕ) → o ≡ Some bytes → IsSome o
some_is None bytes is = absurd cc
some_is (Some b) bytes is = refl

-- ---- a chunk that is left is dropped

entry_less : (size : ℕ) (disk : StoreDisk) (less : List ChunkName) → ((name : ChunkName) → Among name less → Among name disk.left) → (o : Option Stored) (p : Option Entry)
    → StandsEntry size disk o p → StandsEntry size (record disk { left = less }) o p
entry_less size disk less sub None None h = none_among less (λ name a. subst (λ (l : List ChunkName). Among name l) h (sub name a))
entry_less size disk less sub None (Some entry) h = h
entry_less size disk less sub (Some item) None h = h
entry_less size disk less sub (Some item) (Some entry) h = record {
  before = h.before;
  entry_of = h.entry_of;
  next = h.next;
  made = h.made;
  stage = ⊎_elim (λ s. inl (s.0, λ name a. s.1 name (sub name a))) (λ s. inr (s.0, λ name a. s.1 name (sub name a))) h.stage;
}

pub dropped : (schema : Schema) (d : Devs) (disk : StoreDisk) (name : ChunkName) → Stands schema d disk → Among name disk.left
    → Stands schema (changed_by d (devs.DropChunk name)) (changed disk (moves.DropChunk name))
dropped schema d disk name st a = record {
  held = record { table = st.held.table; subs = st.held.subs; numbered = st.held.numbered; made = st.held.made; rows = st.held.rows };
  chunks = record {
    held = λ q bytes h. chunk_dropped_other d.chunks name q (λ same. st.chunks.apart q bytes (subst (λ (n : ChunkName). Among n disk.left) same a) h) ∙ st.chunks.held q bytes h;
    left = λ q b.
        let r = among_without (name ∷ []) disk.left q b in
        subst (λ (o : Option (List ℕ)). IsSome o) (sym (chunk_dropped_other d.chunks name q (λ same. r.1 (inl (sym same))))) (st.chunks.left q r.0);
    only = λ q bytes found. pick q bytes found (cases_name name q);
    apart = λ q bytes b h. st.chunks.apart q bytes (among_without (name ∷ []) disk.left q b).0 h;
  };
  entry = entry_less schema.chunk disk (without_names (name ∷ []) disk.left) (λ q b. (among_without (name ∷ []) disk.left q b).0) disk.pending d.pending st.entry;
}
  where
    pick : (q : ChunkName) (bytes : List ℕ) → chunk_in (without name_cmp d.chunks name) q ≡ Some bytes → (name ≡ q) ⊎ (is_at (name_cmp name) q ≡ false)
        → IsHeld schema.chunk disk.items q bytes ⊎ Among q (without_names (name ∷ []) disk.left)
    pick q bytes found (inl same) =
        let gone : chunk_in (without name_cmp d.chunks name) q ≡ None = subst (λ (x : ChunkName). chunk_in (without name_cmp d.chunks name) x ≡ None) same (chunk_dropped d.chunks name) in absurd cc
    pick q bytes found (inr at) =
        let other = not_itself_name name q at in
        ⊎_elim (λ h. inl h) (λ left. inr (without_among (name ∷ []) disk.left q left (λ here. ⊎_elim (λ same. other (sym same)) (λ none. none) here)))
        (st.chunks.only q bytes (sym (chunk_dropped_other d.chunks name q other) ∙ found))

-- ---- the entry is closed, and it is opened

pub closed : (schema : Schema) (d : Devs) (disk : StoreDisk) → Stands schema d disk → disk.left ≡ [] → Stands schema (changed_by d devs.CloseEntry) (changed disk moves.Close)
closed schema d disk st none = record {
  held = record { table = st.held.table; subs = st.held.subs; numbered = st.held.numbered; made = st.held.made; rows = st.held.rows };
  chunks = record { held = st.chunks.held; left = st.chunks.left; only = st.chunks.only; apart = st.chunks.apart };
  entry = none;
}

pub opened : (schema : Schema) (d : Devs) (disk : StoreDisk) (item : Stored) (entry : Entry) → Stands schema d disk → disk.pending ≡ None → IsEntryOf schema.chunk disk.items item entry
    → item.entry.version ≡ length disk.items + 1 → IsMade schema.chunk disk.items item → Stands schema (changed_by d (devs.OpenEntry entry)) (changed disk (moves.Open item))
opened schema d disk item entry st is e next made = record {
  held = record { table = st.held.table; subs = st.held.subs; numbered = st.held.numbered; made = st.held.made; rows = st.held.rows };
  chunks = record { held = st.chunks.held; left = st.chunks.left; only = st.chunks.only; apart = st.chunks.apart };
  entry = record {
    before = disk.items;
    entry_of = e;
    next = next;
    made = made;
    stage = inl (refl, λ name a. absurd (subst (λ (l : List ChunkName). Among name l) (none_open schema d disk st is).1 a));
  };
}

-- ---- a new chunk is put

pub put_chunk : (size : ℕ) (cs : List (ChunkName × List ℕ)) (disk : StoreDisk) (name : ChunkName) (bytes : List ℕ) → AreNumbered 0 disk.items → AreMade size [] disk.items
    → length disk.items < name.version → StandChunks size cs disk → StandChunks size (insert_entry name_cmp cs name bytes) (record disk { left = disk.left ++ name ∷ [] })
put_chunk size cs disk name bytes numbered made above st = record {
  held = λ q b h. chunk_put_other cs name bytes q (not_held q b h) ∙ st.held q b h;
  left = λ q a. ⊎_elim (was_left q (cases_name name q)) (λ here. ⊎_elim (λ same. is_put q (sym same)) (λ none. absurd none) here) (either_among q disk.left (name ∷ []) a);
  only = λ q b found. pick q b found (cases_name name q);
  apart = λ q b a h. ⊎_elim (λ l. st.apart q b l h) (λ here. ⊎_elim (λ same. not_held q b h (sym same)) (λ none. none) here) (either_among q disk.left (name ∷ []) a);
}
  where
    not_held : (q : ChunkName) (b : List ℕ) → IsHeld size disk.items q b → name ≡ q → ⊥
    not_held q b h same = let low = held_below size disk.items numbered made q b h in let is : name.version ≡ q.version = ap (λ (n : ChunkName). n.version) same in absurd (omega arith)

    is_put : (q : ChunkName) → name ≡ q → IsSome (chunk_in (insert_entry name_cmp cs name bytes) q)
    is_put q same = some_is _ bytes (subst (λ (n : ChunkName). chunk_in (insert_entry name_cmp cs name bytes) n ≡ Some bytes) same (chunk_put cs name bytes))

    was_left : (q : ChunkName) → (name ≡ q) ⊎ (is_at (name_cmp name) q ≡ false) → Among q disk.left → IsSome (chunk_in (insert_entry name_cmp cs name bytes) q)
    was_left q (inl same) a = is_put q same
    was_left q (inr at) a = subst (λ (o : Option (List ℕ)). IsSome o) (sym (chunk_put_other cs name bytes q (not_itself_name name q at))) (st.left q a)

    pick : (q : ChunkName) (b : List ℕ) → chunk_in (insert_entry name_cmp cs name bytes) q ≡ Some b → (name ≡ q) ⊎ (is_at (name_cmp name) q ≡ false)
        → IsHeld size disk.items q b ⊎ Among q (disk.left ++ name ∷ [])
    pick q b found (inl same) = inr (right_among q disk.left (name ∷ []) (inl (sym same)))
    pick q b found (inr at) = ⊎_elim (λ h. inl h) (λ a. inr (left_among q disk.left (name ∷ []) a)) (st.only q b (sym (chunk_put_other cs name bytes q (not_itself_name name q at)) ∙ found))

-- ---- drops, and the close behind them

abbrev pub closing : List Fact → List Send → StoreTask
closing facts sends = record { change = moves.Close; facts = facts; sends = sends }

pub drops_follow : (schema : Schema) (all : List ChunkName) (d : Devs) (disk : StoreDisk) (facts : List Fact) (sends : List Send) → Stands schema d disk → AreDifferent all
    → ((name : ChunkName) → Among name all → Among name disk.left) → ((name : ChunkName) → Among name disk.left → Among name all)
    → Follows schema d (drops all ++ devs.CloseEntry ∷ []) disk (moves.drops all ++ closing facts sends ∷ [])
drops_follow schema [] d disk facts sends st d_ to from =
    (st, tt, closed schema d disk st (none_among disk.left (λ name a. from name a)))
drops_follow schema (name ∷ all) d disk facts sends st apart to from = (
  st,
  refl,
  drops_follow schema all (changed_by d (devs.DropChunk name)) (changed disk (moves.DropChunk name)) facts sends (dropped schema d disk name st (to name (inl refl))) apart.1
      (λ q a. without_among (name ∷ []) disk.left q (to q (inr a)) (λ here. ⊎_elim (λ same. apart.0 (subst (λ (n : ChunkName). Among n all) same a)) (λ none. none) here))
      (λ q a. let r = among_without (name ∷ []) disk.left q a in ⊎_elim (λ same. absurd (r.1 (inl same))) (λ more. more) (from q r.0)),
)
