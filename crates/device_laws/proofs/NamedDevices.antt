-- Devices that stand for a disk have named chunks.
use Rattle.std.proofs.Common.{◌≡◌, ◌≢◌, inl, inr, ⊎_elim, ◌⊎◌, ℕ, ◌+◌, ◌<◌, ◌≤◌, Bool, true, false, List, [], ◌∷◌, ◌++◌, length, Option, Some, None, refl, sym, ◌∙◌, ap, subst, arith, true≢false}
use Rattle.std.specs.Prelude.{◌==◌, unwrap_or, IsSome}
use Rattle.std.proofs.lemmas.Bool.Decides.{nat_tests}
use Rattle.stab_base.specs.declared.chunk_name.ChunkName.{ChunkName}
use Rattle.row_value.specs.declared.schema.Schema.{Schema}
use Rattle.std.specs.List.Sorted.{IsStrictlySortedBy}
use Rattle.chunk_store.specs.Payload.{name_cmp}
use Rattle.chunk_store.specs.Standing.{chunk_in}
use Rattle.row_store.specs.Data.{version_of}
use Rattle.status_log.specs.Entry.{Entry}
use Rattle.store_commit.specs.Devs.{Devs}
use Rattle.store_commit.specs.NamedChunks.{Among, AreDifferent, IsNamed, IsNewOf, left_of, IsLeft, NamedChunks}
use Rattle.store_commit.specs.NamedChunks as devices
use Rattle.store_commit.specs.Agenda.{AreLeftovers}
use Rattle.store_commit.specs.Update.{names_if}
use Rattle.store_commit.proofs.Replacing.{row_standing, is_standing}
use Rattle.step_tables.specs.Store.{Stored, current_of}
use Rattle.step_tables.specs.StoreMoves.{StoreDisk}
use Rattle.step_tables.specs.Chunks.{Named, names_of, chunks_of, chunks_with, names_with, names_before, new_names, old_names, rising}
use Rattle.step_tables.proofs.Lists.{same_row-refl}
use Rattle.table_model.specs.History.{same_row}
use Rattle.device_laws.specs.Stands.{AreNumbered, AreMade, IsHeld, StandsEntry, IsBegun, Stands}
use Rattle.device_laws.proofs.Names.{mapped_among, among_mapped, among_without, among_rising, rising_among, rising_sorted, different_rising, same_sorted}
use Rattle.device_laws.proofs.Numbered.{numbered_most, one_version, current_own}
use Rattle.device_laws.proofs.Chunks.{flat, names, chunk_comes_from, row_sound, last_chunks, chunks_are, chunks_own, chunks_other}
use Rattle.device_laws.proofs.Rows.{row_tells, one_version_of, at_row, row_names, is_at_version, none_or_less}
use Rattle.device_laws.proofs.Entries.{new_of}

-- ---- chunks that a row has

pub numbered_front : (n : ℕ) (items more : List Stored) → AreNumbered n (items ++ more) → AreNumbered n items
numbered_front n [] more c = tt
numbered_front n (x ∷ items) more c = (c.0, numbered_front (n + 1) items more c.1)

pub made_front : (size : ℕ) (before items more : List Stored) → AreMade size before (items ++ more) → AreMade size before items
made_front size before [] more m = tt
made_front size before (x ∷ items) more m = (m.0, made_front size (before ++ x ∷ []) items more m.1)

module _ (size : ℕ) (items : List Stored) (numbered : AreNumbered 0 items) (made : AreMade size [] items) where
  pub held_below : (name : ChunkName) (bytes : List ℕ) → IsHeld size items name bytes → name.version ≤ length items
  held_below name bytes h =
      let from = chunk_comes_from size items numbered made h.row (name, bytes) h.among in
      let most = numbered_most 0 items from.0 numbered from.1.stands in
      let is = from.1.version_is in
      omega arith

  pub held_once : (name : ChunkName) (a b : List ℕ) (h : IsHeld size items name a) (k : IsHeld size items name b) → h.row ≡ k.row
  held_once name a b h k =
      let x = chunk_comes_from size items numbered made h.row (name, a) h.among in
      let y = chunk_comes_from size items numbered made k.row (name, b) k.among in
      let one : x.0 ≡ y.0 = one_version 0 items x.0 y.0 numbered x.1.stands y.1.stands (x.1.version_is ∙ sym y.1.version_is) in
      sym x.1.row_is ∙ (ap (λ (i : Stored). i.entry.row) one ∙ y.1.row_is)

names_below : (most : ℕ) (chunks : List Named) → ((x : Named) → Among x chunks → x.0.version ≤ most) → (name : ChunkName) → Among name (names chunks) → name.version ≤ most
names_below most chunks below name a =
    let x = among_mapped (λ (c : Named). c.0) name chunks a in
    subst (λ (n : ChunkName). n.version ≤ most) (sym x.2) (below x.0 x.1)

-- a name in a row has its bytes there
abbrev pub held_with : (size : ℕ) (items : List Stored) (row : List ℕ) (name : ChunkName) → Among name (names_of (chunks_of size items row)) → (bytes : List ℕ) × IsHeld size items name bytes
held_with size items row name a =
    let x = among_mapped (λ (c : Named). c.0) name (flat (chunks_of size items row)) a in
    (x.0.1, record { row = row; among = subst (λ (n : ChunkName). Among (n, x.0.1) (flat (chunks_of size items row))) (sym x.2) x.1 })

-- a row by its item, with one item more
pub held_cases : (size : ℕ) (items : List Stored) (item : Stored) (name : ChunkName) (bytes : List ℕ) (h : IsHeld size (items ++ item ∷ []) name bytes)
    → ((item.entry.row ≡ h.row) × Among (name, bytes) (flat (chunks_with size item)))
    ⊎ ((item.entry.row ≢ h.row) × Among (name, bytes) (flat (chunks_of size items h.row)))
held_cases size items item name bytes h = pick (row_tells item.entry.row h.row)
  where
    pick : (item.entry.row ≡ h.row) ⊎ (same_row item.entry.row h.row ≡ false)
        → ((item.entry.row ≡ h.row) × Among (name, bytes) (flat (chunks_with size item)))
        ⊎ ((item.entry.row ≢ h.row) × Among (name, bytes) (flat (chunks_of size items h.row)))
    pick (inl same) =
        let here : Among (name, bytes) (flat (chunks_of size (items ++ item ∷ []) item.entry.row)) =
        subst (λ (r : List ℕ). Among (name, bytes) (flat (chunks_of size (items ++ item ∷ []) r))) (sym same) h.among in
        inl (same, subst (λ (l : List (List Named)). Among (name, bytes) (flat l)) (chunks_own size items item) here)
    pick (inr other) =
        inr (
          (λ same. true≢false (sym (subst (λ (r : List ℕ). same_row item.entry.row r ≡ true) same (same_row-refl item.entry.row)) ∙ other)),
          subst (λ (l : List (List Named)). Among (name, bytes) (flat l)) (chunks_other size items item h.row other) h.among,
        )

-- what a row names no more stands in no row
pub old_apart : (size : ℕ) (items : List Stored) (item : Stored) → AreNumbered 0 items → AreMade size [] items → (name : ChunkName) → Among name (old_names size items item) → (bytes : List ℕ)
    → IsHeld size (items ++ item ∷ []) name bytes → ⊥
old_apart size items item numbered made name old bytes h =
    let o = among_without (names_with size item) (names_before size items item) name old in
    ⊎_elim
    (λ own. o.1 (mapped_among (λ (c : Named). c.0) (name, bytes) (flat (chunks_with size item)) own.1))
    (λ other. let was = held_with size items item.entry.row name o.0 in other.0 (held_once size items numbered made name was.0 bytes was.1 (record { row = h.row; among = other.1 })))
    (held_cases size items item name bytes h)

module _ (schema : Schema) (d : Devs) (disk : StoreDisk) (st : Stands schema d disk) where
  abbrev size : ℕ
  size = schema.chunk

  pub named_among : (name : ChunkName) (a : IsNamed d.held name) → Among name (names_of (chunks_of size disk.items a.row))
  named_among name a =
      subst (λ (l : List ChunkName). Among name l) (row_names size disk.items d.held st.held.numbered st.held.rows a.row) (is_standing d.held a.row name a.stored a.there a.among)

  abbrev pub named_is_held : (name : ChunkName) → IsNamed d.held name → (bytes : List ℕ) × IsHeld size disk.items name bytes
  named_is_held name a = held_with size disk.items a.row name (named_among name a)

  pub held_is_named : (name : ChunkName) (bytes : List ℕ) → IsHeld size disk.items name bytes → IsNamed d.held name
  held_is_named name bytes h =
      let inside : Among name (names_of (chunks_of size disk.items h.row)) = mapped_among (λ (c : Named). c.0) (name, bytes) (flat (chunks_of size disk.items h.row)) h.among in
      let r = row_standing d.held h.row name (subst (λ (l : List ChunkName). Among name l) (sym (row_names size disk.items d.held st.held.numbered st.held.rows h.row)) inside) in
      record { row = h.row; stored = r.0; there = r.1; among = r.2 }

  -- ---- the open entry

  pub open_entry : (item : Stored) → disk.pending ≡ Some item → (entry : Entry) × (d.pending ≡ Some entry) × IsBegun size disk item entry
  open_entry item is = pick disk.pending d.pending st.entry is
    where
      pick : (o : Option Stored) (p : Option Entry) → StandsEntry size disk o p → o ≡ Some item → (entry : Entry) × (p ≡ Some entry) × IsBegun size disk item entry
      pick None p h e = absurd cc
      pick (Some i) None h e = absurd h
      pick (Some i) (Some entry) h e = let same : i ≡ item = cc in (entry, refl, subst (λ (x : Stored). IsBegun size disk x entry) same h)

  pub begun_of : (entry : Entry) → d.pending ≡ Some entry → (item : Stored) × (disk.pending ≡ Some item) × IsBegun size disk item entry
  begun_of entry is = pick disk.pending d.pending st.entry is
    where
      pick : (o : Option Stored) (p : Option Entry) → StandsEntry size disk o p → p ≡ Some entry → (item : Stored) × (o ≡ Some item) × IsBegun size disk item entry
      pick None None h e = absurd cc
      pick None (Some x) h e = absurd h
      pick (Some i) None h e = absurd cc
      pick (Some i) (Some x) h e = let same : x ≡ entry = cc in (i, refl, subst (λ (y : Entry). IsBegun size disk i y) same h)

  pub none_open : disk.pending ≡ None → (d.pending ≡ None) × (disk.left ≡ [])
  none_open is = pick disk.pending d.pending st.entry is
    where
      pick : (o : Option Stored) (p : Option Entry) → StandsEntry size disk o p → o ≡ None → (p ≡ None) × (disk.left ≡ [])
      pick None None h e = (refl, h)
      pick None (Some x) h e = absurd h
      pick (Some i) p h e = absurd cc

  -- what is left of the open entry
  abbrev Leaves : Stored → Entry → ChunkName → Type 0
  Leaves item entry name = (Among name disk.left → IsLeft d.held entry name) × (IsLeft d.held entry name → (bytes : List ℕ) → IsHeld size disk.items name bytes → ⊥)

  begun_leaves : (item : Stored) (entry : Entry) → IsBegun size disk item entry → (name : ChunkName) → Leaves item entry name
  begun_leaves item entry b name = ⊎_elim to_come put b.stage
    where
      to_come : (disk.items ≡ b.before) × ((q : ChunkName) → Among q disk.left → Among q (new_names size item)) → Leaves item entry name
      to_come s =
          let numbered : AreNumbered 0 b.before = subst (AreNumbered 0) s.0 st.held.numbered in
          let made : AreMade size [] b.before = subst (AreMade size []) s.0 st.held.made in
          let most = none_or_less size disk.items d.held st.held.numbered st.held.rows entry.row in
          let count : length disk.items ≡ length b.before = ap length s.0 in
          let version = b.entry_of.version in
          let next = b.next in
          let above : version_of d.held entry.row < entry.version = omega arith in
          let test : (version_of d.held entry.row == entry.version) ≡ false = grind (arith, nat_tests) in (
            λ a. subst (λ (t : Bool). left_of t entry name) (sym test) (new_of size b.before item numbered b.next made b.made entry b.entry_of name (s.1 name a)),
            λ left bytes h.
                let new : IsNewOf entry name = subst (λ (t : Bool). left_of t entry name) test left in
                let low = held_below size disk.items st.held.numbered st.held.made name bytes h in
                let is = new.version in
                absurd (omega arith),
          )

      put : (disk.items ≡ b.before ++ item ∷ []) × ((q : ChunkName) → Among q disk.left → Among q (old_names size b.before item)) → Leaves item entry name
      put s =
          let current : current_of disk.items entry.row ≡ Some item =
          subst (λ (l : List Stored). current_of l entry.row ≡ Some item) (sym s.0) (current_own b.before item entry.row (sym b.entry_of.row)) in
          let version : version_of d.held entry.row ≡ entry.version = is_at_version size disk.items d.held st.held.numbered st.held.rows entry.row item current ∙ sym b.entry_of.version in
          let test : (version_of d.held entry.row == entry.version) ≡ true = grind (arith, nat_tests) in (
            λ a. subst (λ (t : Bool). left_of t entry name) (sym test) (subst (λ (l : List ChunkName). Among name l) (sym b.entry_of.old) (s.1 name a)),
            λ left bytes h.
                let old : Among name (old_names size b.before item) = subst (λ (l : List ChunkName). Among name l) b.entry_of.old (subst (λ (t : Bool). left_of t entry name) test left) in
                old_apart size b.before item (numbered_front 0 b.before (item ∷ []) (subst (AreNumbered 0) s.0 st.held.numbered))
                (made_front size [] b.before (item ∷ []) (subst (AreMade size []) s.0 st.held.made)) name old bytes
                (subst (λ (l : List Stored). IsHeld size l name bytes) s.0 h),
          )

  pub left_is_left : (entry : Entry) → d.pending ≡ Some entry → (name : ChunkName) → Among name disk.left → IsLeft d.held entry name
  left_is_left entry is name a = let b = begun_of entry is in (begun_leaves b.0 entry b.2 name).0 a

  pub left_apart : (entry : Entry) → d.pending ≡ Some entry → (name : ChunkName) (bytes : List ℕ) → IsLeft d.held entry name → IsHeld size disk.items name bytes → ⊥
  left_apart entry is name bytes left h = let b = begun_of entry is in (begun_leaves b.0 entry b.2 name).1 left bytes h

  pub left_has_entry : (name : ChunkName) → Among name disk.left → (entry : Entry) × (d.pending ≡ Some entry) × IsLeft d.held entry name
  left_has_entry name a = pick disk.pending refl
    where
      pick : (o : Option Stored) → disk.pending ≡ o → (entry : Entry) × (d.pending ≡ Some entry) × IsLeft d.held entry name
      pick None is = absurd (subst (λ (l : List ChunkName). Among name l) (none_open is).1 a)
      pick (Some item) is = let e = open_entry item is in (e.0, e.1, left_is_left e.0 e.1 name a)

  -- ---- named chunks

  abbrev pub meaning : ChunkName → List ℕ
  meaning name = unwrap_or (chunk_in d.chunks name) []

  found_bytes : (o : Option (List ℕ)) → IsSome o → (bytes : List ℕ) × (o ≡ Some bytes)
  found_bytes None some = absurd cc
  found_bytes (Some bytes) some = (bytes, refl)

  found_meaning : (o : Option (List ℕ)) (bytes : List ℕ) → o ≡ Some bytes → o ≡ Some (unwrap_or o [])
  found_meaning None bytes is = absurd cc
  found_meaning (Some b) bytes is = refl

  row_below : (name : ChunkName) (a : IsNamed d.held name) → name.version ≤ a.stored.version
  row_below name a =
      ⊎_elim
      (λ none. let both : Some a.stored ≡ None = sym a.there ∙ none.1 in absurd cc)
      (λ some.
      let same = one_version_of some.1 a.stored (sym some.3 ∙ a.there) in
      let last = last_chunks size disk.items st.held.numbered st.held.made a.row some.0 some.2 in
      let inside : Among name (names_of (chunks_with size some.0)) = subst (λ (l : List (List Named)). Among name (names_of l)) (chunks_are size disk.items a.row some.0 some.2) (named_among name a) in
      let low = names_below some.0.entry.version (flat (chunks_with size some.0)) last.sound.below name inside in
      let version : some.1.version ≡ some.0.entry.version = some.4.version in
      omega arith)
      (at_row size disk.items d.held st.held.numbered st.held.rows a.row)

  pub named_chunks : NamedChunks meaning d
  named_chunks = record {
    there = λ name a. let h = named_is_held name a in found_meaning (chunk_in d.chunks name) h.0 (st.chunks.held name h.0 h.1);
    different = λ row stored there.
        let names_are : devices.names_of stored.content ≡ names_of (chunks_of size disk.items row) = ap names_if (sym there) ∙ row_names size disk.items d.held st.held.numbered st.held.rows row in
        subst AreDifferent (sym names_are) (row_sound size disk.items st.held.numbered st.held.made row).different;
    once = λ name a b. let h = named_is_held name a in let k = named_is_held name b in held_once size disk.items st.held.numbered st.held.made name h.0 k.0 h.1 k.1;
    below = row_below;
    others = λ name bytes found. ⊎_elim (λ h. inl (held_is_named name bytes h)) (λ left. inr (left_has_entry name left)) (st.chunks.only name bytes found);
    apart = λ entry name is left a. let h = named_is_held name a in left_apart entry is name h.0 left h.1;
  }

  pub left_are_leftovers : AreLeftovers d (rising disk.left)
  left_are_leftovers = record {
    left = λ name a. left_has_entry name (among_rising name disk.left a);
    all = λ name bytes entry is left found. ⊎_elim (λ h. absurd (left_apart entry is name bytes left h)) (λ a. rising_among name disk.left a) (st.chunks.only name bytes found);
    different = different_rising disk.left;
    there = λ name a. st.chunks.left name (among_rising name disk.left a);
  }

  -- what is left, by rising name, is one list
  pub one_list_left : (all : List ChunkName) → AreLeftovers d all → IsStrictlySortedBy name_cmp all → all ≡ rising disk.left
  one_list_left all l sorted =
      let r = left_are_leftovers in
      same_sorted all (rising disk.left) sorted (rising_sorted disk.left)
      (λ q a. let k = l.left q a in let bytes = found_bytes (chunk_in d.chunks q) (l.there q a) in r.all q bytes.0 k.0 k.1 k.2 bytes.1)
      (λ q a. let k = r.left q a in let bytes = found_bytes (chunk_in d.chunks q) (r.there q a) in l.all q bytes.0 k.0 k.1 k.2 bytes.1)
