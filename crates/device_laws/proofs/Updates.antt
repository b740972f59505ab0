-- The writes of an update are the tasks of the step table's agenda.
use Rattle.std.proofs.Common.{◌≡◌, inl, inr, ⊎_elim, ◌⊎◌, ℕ, ◌+◌, ◌<◌, ◌^◌, true, false, List, [], ◌∷◌, ◌++◌, length, Option, Some, None, refl, sym, ◌∙◌, ap, subst, arith}
use Rattle.std.specs.Prelude.{◌==◌, not, map, is_some, IsSome}
use Rattle.std.specs.BTreeMap.{insert_entry, is_at}
use Rattle.std.proofs.lemmas.Bool.Decides.{nat_tests}
use Rattle.std.proofs.lemmas.List.{length-map}
use Rattle.stab_base.specs.declared.chunk_name.ChunkName.{ChunkName}
use Rattle.stab_base.specs.declared.node.Node.{Node}
use Rattle.row_value.specs.declared.schema.Schema.{Schema}
use Rattle.chunk_store.specs.Payload.{name_cmp}
use Rattle.chunk_store.specs.Standing.{chunk_in}
use Rattle.row_store.specs.declared.stored.StoredRow.{StoredRow}
use Rattle.row_store.specs.Spelling.{IsClient}
use Rattle.status_log.specs.Entry.{Entry}
use Rattle.store_commit.specs.declared.update.Update.{Update}
use Rattle.store_commit.specs.Devs.{Devs, Write, changed_by}
use Rattle.store_commit.specs.Devs as devs
use Rattle.store_commit.specs.NamedChunks.{Among, AreDifferent}
use Rattle.store_commit.specs.NamedChunks as devices
use Rattle.store_commit.specs.Agenda.{puts, drops, update_writes}
use Rattle.store_commit.specs.Update.{unmet, entry_for, stored_for}
use Rattle.store_commit.proofs.Lookups.{cases_name, cases_among, not_itself_name, chunk_put, chunk_put_other}
use Rattle.store_commit.proofs.Leftovers.{among_filter, filter_among}
use Rattle.step_tables.specs.Store.{Stored}
use Rattle.step_tables.specs.Facts as facts
use Rattle.step_tables.specs.Messages.{Request}
use Rattle.step_tables.specs.Messages as messages
use Rattle.step_tables.specs.StoreMoves.{StoreDisk, StoreTask, changed, item_for, accepting, keeps_there, ends_with, responded}
use Rattle.step_tables.specs.StoreMoves as moves
use Rattle.step_tables.specs.Chunks.{Named, name_of_new, is_of_version, names_of, objects_of, chunks_of, chunks_with, names_before, names_with, new_names, old_names, without_names, is_spelled}
use Rattle.step_tables.specs.Chunks as chunks
use Rattle.table_model.specs.History.{same_row}
use Rattle.device_laws.specs.Stands.{is_new, AreNext, IsMade, IsHeld, StandChunks, IsEntryOf, IsStoredAs, Stands, Follows, update_for}
use Rattle.device_laws.proofs.Names.{left_among, right_among, either_among, mapped_among, among_mapped, different_filter, among_without, without_among}
use Rattle.device_laws.proofs.Numbered.{numbered_push}
use Rattle.device_laws.proofs.Chunks.{flat, names, next_within, made_push, chunks_own, chunks_other, as_many}
use Rattle.device_laws.proofs.Pieces.{content_named, content_kept, names_filter}
use Rattle.device_laws.proofs.Rows.{row_tells, row_names, rows_with, stored_as}
use Rattle.device_laws.proofs.Entries.{one_named, now_from, now_different, before_different, before_below, news, news_next, news_names, new_count, old_is}
use Rattle.device_laws.proofs.NamedDevices.{held_with, held_cases, old_apart, none_open}
use Rattle.device_laws.proofs.Steps.{some_is, put_chunk, drops_follow}
use Rattle.device_laws.proofs.Made.{update_by, request_made, update_is_by}

is_there : (o : Option (List ℕ)) (bytes : List ℕ) → o ≡ Some bytes → is_some o ≡ true
is_there None bytes e = absurd cc
is_there (Some found) bytes e = refl

module _ (schema : Schema) (d : Devs) (disk : StoreDisk) (st : Stands schema d disk) (none : disk.pending ≡ None) (request : Request) (m : IsMade schema.chunk disk.items (item_for disk.items request)) where
  abbrev size : ℕ
  size = schema.chunk

  abbrev items : List Stored
  items = disk.items

  abbrev item : Stored
  item = item_for items request

  abbrev v : ℕ
  v = length items + 1

  abbrev update : Update
  update = update_by size items request

  abbrev entry : Entry
  entry = entry_for d v update

  abbrev stored : StoredRow
  stored = stored_for d v update

  abbrev before : List Named
  before = flat (chunks_of size items request.row)

  abbrev held : List (List Named)
  held = chunks_with size item

  abbrev now : List Named
  now = flat held

  abbrev new : List Named
  new = news size items item st.held.numbered refl st.held.made m

  many : length held ≡ length (objects_of request.content)
  many = as_many size item.names (objects_of request.content)

  before_there : (q : ChunkName) → Among q (names before) → is_some (chunk_in d.chunks q) ≡ true
  before_there q a = let h = held_with size items request.row q a in is_there (chunk_in d.chunks q) h.0 (st.chunks.held q h.0 h.1)

  pub entry_is : IsEntryOf size items item entry
  entry_is = record {
    version = refl;
    row = refl;
    client = refl;
    number = refl;
    base = refl;
    fresh = length-map new (λ (chunk : Named). chunk.1) ∙ sym (new_count size items item st.held.numbered refl st.held.made m);
    old = ap (λ (l : List ChunkName). unmet (λ name. is_some (chunk_in d.chunks name)) (devices.names_of update.content) l) (row_names size items d.held st.held.numbered st.held.rows request.row)
        ∙ old_is size items item st.held.numbered refl st.held.made m (λ name. is_some (chunk_in d.chunks name)) (devices.names_of update.content) before_there (content_kept v request.content held many);
  }

  -- ---- the new chunks are put

  abbrev at_work : List ChunkName → StoreDisk
  at_work left = record disk { pending = Some item; left = left }

  abbrev putting : List (ChunkName × List ℕ) → Devs
  putting cs = record { chunks = cs; held = d.held; pending = Some entry }

  record IsPutting (cs : List (ChunkName × List ℕ)) (left : List ChunkName) (more : List Named) : Type 0 where
    pub chunks : StandChunks size cs (at_work left)
    pub within : (x : Named) → Among x more → Among x new
    pub only_new : (q : ChunkName) → Among q left → Among q (names new)
    pub there : (x : Named) → Among x new → Among x more ⊎ (Among x.0 left × (chunk_in cs x.0 ≡ Some x.1))

  putting_stands : (cs : List (ChunkName × List ℕ)) (left : List ChunkName) (more : List Named) → IsPutting cs left more → Stands schema (putting cs) (at_work left)
  putting_stands cs left more p = record {
    held = record { table = st.held.table; subs = st.held.subs; numbered = st.held.numbered; made = st.held.made; rows = st.held.rows };
    chunks = p.chunks;
    entry = record {
      before = items;
      entry_of = entry_is;
      next = refl;
      made = m;
      stage = inl (refl, λ q a. subst (λ (l : List ChunkName). Among q l) (sym (news_names size items item st.held.numbered refl st.held.made m)) (p.only_new q a));
    };
  }

  new_different : AreDifferent (names new)
  new_different = subst AreDifferent (names_filter v now) (different_filter (is_of_version v) (names now) (now_different size items item st.held.numbered refl st.held.made m))

  put_next : (cs : List (ChunkName × List ℕ)) (left : List ChunkName) (x : Named) (more : List Named) → IsPutting cs left (x ∷ more)
      → IsPutting (insert_entry name_cmp cs x.0 x.1) (left ++ x.0 ∷ []) more
  put_next cs left x more p = record {
    chunks = let is = (next_within v 0 new (news_next size items item st.held.numbered refl st.held.made m) x here).0 in put_chunk size cs (at_work left) x.0 x.1 st.held.numbered st.held.made (omega arith) p.chunks;
    within = λ y a. p.within y (inr a);
    only_new = λ q a. ⊎_elim
        (λ old. p.only_new q old)
        (λ last. ⊎_elim (λ same. subst (λ (n : ChunkName). Among n (names new)) (sym same) (mapped_among (λ (c : Named). c.0) x new here)) (λ no_. absurd no_) last)
        (either_among q left (x.0 ∷ []) a);
    there = λ y a. ⊎_elim
        (λ more_. ⊎_elim (λ same. inr (is_put y same)) (λ later. inl later) more_)
        (λ done. inr (left_among y.0 left (x.0 ∷ []) done.0, was_put y a done.1 (cases_name x.0 y.0)))
        (p.there y a);
  }
    where
      here : Among x new
      here = p.within x (inl refl)

      is_put : (y : Named) → y ≡ x → Among y.0 (left ++ x.0 ∷ []) × (chunk_in (insert_entry name_cmp cs x.0 x.1) y.0 ≡ Some y.1)
      is_put y same =
          subst (λ (z : Named). Among z.0 (left ++ x.0 ∷ []) × (chunk_in (insert_entry name_cmp cs x.0 x.1) z.0 ≡ Some z.1)) (sym same)
          (right_among x.0 left (x.0 ∷ []) (inl refl), chunk_put cs x.0 x.1)

      was_put : (y : Named) → Among y new → chunk_in cs y.0 ≡ Some y.1 → (x.0 ≡ y.0) ⊎ (is_at (name_cmp x.0) y.0 ≡ false) → chunk_in (insert_entry name_cmp cs x.0 x.1) y.0 ≡ Some y.1
      was_put y a found (inl same) = (is_put y (one_named new new_different y x a here (sym same))).1
      was_put y a found (inr at) = chunk_put_other cs x.0 x.1 y.0 (not_itself_name x.0 y.0 at) ∙ found

  puts_follow : (k : ℕ) (more : List Named) (cs : List (ChunkName × List ℕ)) (left : List ChunkName) (ws : List Write) (ts : List StoreTask) → AreNext v k more → IsPutting cs left more
      → ((c : List (ChunkName × List ℕ)) (l : List ChunkName) → IsPutting c l [] → Follows schema (putting c) ws (at_work l) ts)
      → Follows schema (putting cs) (puts v k (map (λ (chunk : Named). chunk.1) more) ++ ws) (at_work left) (moves.puts (names more) ++ ts)
  puts_follow k [] cs left ws ts n p last = last cs left p
  puts_follow k (x ∷ more) cs left ws ts n p last = (
    putting_stands cs left (x ∷ more) p,
    sym n.0,
    puts_follow (k + 1) more (insert_entry name_cmp cs (name_of_new v k) x.1) (left ++ x.0 ∷ []) ws ts n.1
        (subst (λ (q : ChunkName). IsPutting (insert_entry name_cmp cs q x.1) (left ++ x.0 ∷ []) more) n.0 (put_next cs left x more p)) last,
  )

  -- ---- the row is put

  abbrev named : List ChunkName
  named = names_with size item

  abbrev old : List ChunkName
  old = old_names size items item

  new_is_now : (x : Named) → Among x new → Among x now
  new_is_now x a = (among_filter (is_new v) x now a).1

  abbrev left_behind : List ChunkName → List ChunkName
  left_behind left = without_names named left ++ old

  left_is_old : (left : List ChunkName) → ((q : ChunkName) → Among q left → Among q (names new)) → (q : ChunkName) → Among q (left_behind left) → Among q old
  left_is_old left all q a =
      ⊎_elim
      (λ first.
      let r = among_without named left q first in
      let x = among_mapped (λ (c : Named). c.0) q new (all q r.0) in
      absurd (r.1 (subst (λ (n : ChunkName). Among n named) (sym x.2) (mapped_among (λ (c : Named). c.0) x.0 now (new_is_now x.0 x.1)))))
      (λ last. last)
      (either_among q (without_names named left) old a)

  abbrev with_item : List Stored
  with_item = items ++ item ∷ []

  own_held : (x : Named) → Among x now → IsHeld size with_item x.0 x.1
  own_held x a = record { row = request.row; among = subst (λ (l : List (List Named)). Among x (flat l)) (sym (chunks_own size items item)) a }

  put_chunks : (cs : List (ChunkName × List ℕ)) (left : List ChunkName) → IsPutting cs left [] → StandChunks size cs (record disk { items = with_item; pending = Some item; left = left_behind left })
  put_chunks cs left p = record {
    held = held_now;
    left = λ q a. old_there q (left_is_old left p.only_new q a);
    only = λ q bytes found. ⊎_elim (λ h. was_held q bytes h (row_tells request.row h.row)) (λ l. was_new q bytes found l) (p.chunks.only q bytes found);
    apart = λ q bytes a h. old_apart size items item st.held.numbered st.held.made q (left_is_old left p.only_new q a) bytes h;
  }
    where
      new_there : (x : Named) → Among x new → chunk_in cs x.0 ≡ Some x.1
      new_there x a = ⊎_elim (λ more. absurd more) (λ done. done.1) (p.there x a)

      held_now : (q : ChunkName) (bytes : List ℕ) → IsHeld size with_item q bytes → chunk_in cs q ≡ Some bytes
      held_now q bytes h =
          ⊎_elim
          (λ own. ⊎_elim
          (λ kept. p.chunks.held q bytes (record { row = request.row; among = kept }))
          (λ b.
          let is = b.version_is in
          let test : (q.version == v) ≡ true = grind (arith, nat_tests) in
          new_there (q, bytes) (filter_among (is_new v) (q, bytes) now test own.1))
          (now_from size items item st.held.numbered refl st.held.made m (q, bytes) own.1))
          (λ other. p.chunks.held q bytes (record { row = h.row; among = other.1 }))
          (held_cases size items item q bytes h)

      old_there : (q : ChunkName) → Among q old → IsSome (chunk_in cs q)
      old_there q a =
          let o = among_without named (names_before size items item) q a in
          let h = held_with size items request.row q o.0 in
          some_is (chunk_in cs q) h.0 (p.chunks.held q h.0 h.1)

      kept_or_old : (q : ChunkName) (bytes : List ℕ) → Among (q, bytes) before → Among q named ⊎ (Among q named → ⊥) → IsHeld size with_item q bytes ⊎ Among q (left_behind left)
      kept_or_old q bytes a (inl inside) =
          let x = among_mapped (λ (c : Named). c.0) q now inside in
          let low = before_below size items item st.held.numbered refl st.held.made m (q, bytes) a in
          ⊎_elim
          (λ kept.
          let one : x.0 ≡ (q, bytes) = one_named before (before_different size items item st.held.numbered refl st.held.made m) x.0 (q, bytes) kept a (sym x.2) in
          inl (own_held (q, bytes) (subst (λ (y : Named). Among y now) one x.1)))
          (λ b. let is = b.version_is in let same : q.version ≡ x.0.0.version = ap (λ (n : ChunkName). n.version) x.2 in absurd (omega arith))
          (now_from size items item st.held.numbered refl st.held.made m x.0 x.1)
      kept_or_old q bytes a (inr outside) =
          inr (right_among q (without_names named left) old (without_among named (names_before size items item) q (mapped_among (λ (c : Named). c.0) (q, bytes) before a) outside))

      was_held : (q : ChunkName) (bytes : List ℕ) (h : IsHeld size items q bytes) → (request.row ≡ h.row) ⊎ (same_row request.row h.row ≡ false)
          → IsHeld size with_item q bytes ⊎ Among q (left_behind left)
      was_held q bytes h (inl same) = kept_or_old q bytes (subst (λ (r : List ℕ). Among (q, bytes) (flat (chunks_of size items r))) (sym same) h.among) (cases_among q named)
      was_held q bytes h (inr other) = inl (record { row = h.row; among = subst (λ (l : List (List Named)). Among (q, bytes) (flat l)) (sym (chunks_other size items item h.row other)) h.among })

      was_new : (q : ChunkName) (bytes : List ℕ) → chunk_in cs q ≡ Some bytes → Among q left → IsHeld size with_item q bytes ⊎ Among q (left_behind left)
      was_new q bytes found a =
          let x = among_mapped (λ (c : Named). c.0) q new (p.only_new q a) in
          let there : chunk_in cs q ≡ Some x.0.1 = ap (chunk_in cs) x.2 ∙ new_there x.0 x.1 in
          let both : Some bytes ≡ Some x.0.1 = sym found ∙ there in
          let one : x.0.1 ≡ bytes = cc in
          inl (subst (λ (b : List ℕ). IsHeld size with_item q b) one (subst (λ (n : ChunkName). IsHeld size with_item n x.0.1) (sym x.2) (own_held x.0 (new_is_now x.0 x.1))))

  module _ (client : IsClient request.client) (number : request.number < 2 ^ 64) (fits : length items + 1 < 2 ^ 64) where
    stored_is : IsStoredAs size with_item item stored
    stored_is = stored_as size items d.held st.held.numbered st.held.rows item stored refl refl (content_named v request.content held) refl client number fits

    row_put : (cs : List (ChunkName × List ℕ)) (left : List ChunkName) → IsPutting cs left []
        → Stands schema (changed_by (putting cs) (devs.PutRow stored)) (changed (at_work left) (moves.Put item named old))
    row_put cs left p = record {
      held = record {
        table = st.held.table;
        subs = st.held.subs;
        numbered = numbered_push 0 items item st.held.numbered (omega arith);
        made = made_push size [] items item st.held.made m;
        rows = rows_with size items d.held st.held.numbered st.held.rows item stored stored_is;
      };
      chunks = put_chunks cs left p;
      entry = record {
        before = items;
        entry_of = entry_is;
        next = refl;
        made = m;
        stage = inr (refl, λ q a. left_is_old left p.only_new q a);
      };
    }

    -- ---- the whole

    abbrev closes : Node → List StoreTask
    closes from = record { change = moves.Close; facts = []; sends = responded from request (messages.Accepted v) ∷ [] } ∷ []

    abbrev last_writes : List Write
    last_writes = devs.PutRow stored ∷ (drops entry.old ++ devs.CloseEntry ∷ [])

    abbrev last_tasks : Node → ℕ → List StoreTask
    last_tasks from table = ends_with (moves.Put item named old) (facts.Accepted table item.entry) ∷ (moves.drops old ++ closes from)

    behind_row : (from : Node) (cs : List (ChunkName × List ℕ)) (left : List ChunkName) → IsPutting cs left []
        → Follows schema (changed_by (putting cs) (devs.PutRow stored)) (drops entry.old ++ devs.CloseEntry ∷ []) (changed (at_work left) (moves.Put item named old)) (moves.drops old ++ closes from)
    behind_row from cs left p =
        let all = drops_follow schema old (changed_by (putting cs) (devs.PutRow stored)) (changed (at_work left) (moves.Put item named old))
        [] (responded from request (messages.Accepted v) ∷ []) (row_put cs left p)
        (different_filter (λ (q : ChunkName). not (chunks.is_among named q)) (names before) (before_different size items item st.held.numbered refl st.held.made m))
        (λ q a. right_among q (without_names named left) old a) (λ q a. left_is_old left p.only_new q a) in
        subst
        (λ (l : List ChunkName). Follows schema (changed_by (putting cs) (devs.PutRow stored)) (drops l ++ devs.CloseEntry ∷ [])
        (changed (at_work left) (moves.Put item named old)) (moves.drops old ++ closes from))
        (sym entry_is.old) all

    pub follows_by : (from : Node) (table : ℕ) → Follows schema d (update_writes entry update.fresh stored) disk (accepting size table items from request item)
    follows_by from table =
        let nothing_left = (none_open schema d disk st none).1 in
        let start : IsPutting d.chunks disk.left new = record {
          chunks = record { held = st.chunks.held; left = st.chunks.left; only = st.chunks.only; apart = st.chunks.apart };
          within = λ x a. a;
          only_new = λ q a. absurd (subst (λ (l : List ChunkName). Among q l) nothing_left a);
          there = λ x a. inl a;
        } in
        let all = puts_follow 0 new d.chunks disk.left last_writes (last_tasks from table) (news_next size items item st.held.numbered refl st.held.made m) start
        (λ cs left p. (putting_stands cs left [] p, (refl, refl), behind_row from cs left p)) in (
          st,
          entry_is,
          subst (λ (l : List ChunkName). Follows schema (putting d.chunks) (puts v 0 (map (λ (chunk : Named). chunk.1) new) ++ last_writes) (at_work disk.left) (moves.puts l ++ last_tasks from table))
              (sym (news_names size items item st.held.numbered refl st.held.made m)) all,
        )

pub update_follows : (schema : Schema) (d : Devs) (disk : StoreDisk) (st : Stands schema d disk) → disk.pending ≡ None → (request : Request)
    → is_spelled schema.chunk request.content request.pieces ≡ true → keeps_there schema.chunk disk.items request ≡ true
    → IsClient request.client → request.number < 2 ^ 64 → length disk.items + 1 < 2 ^ 64 → (from : Node) (table : ℕ)
    → Follows schema d
    (update_writes (entry_for d (length disk.items + 1) (update_for schema.chunk request)) (update_for schema.chunk request).fresh (stored_for d (length disk.items + 1) (update_for schema.chunk request)))
    disk (accepting schema.chunk table disk.items from request (item_for disk.items request))
update_follows schema d disk st none request spelled there client number fits from table =
    let v = length disk.items + 1 in
    subst
    (λ (u : Update). Follows schema d (update_writes (entry_for d v u) u.fresh (stored_for d v u)) disk (accepting schema.chunk table disk.items from request (item_for disk.items request)))
    (update_is_by schema.chunk disk.items st.held.numbered st.held.made request spelled there)
    (follows_by schema d disk st none request (request_made schema.chunk disk.items st.held.numbered st.held.made request spelled there) client number fits from table)
