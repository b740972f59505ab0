-- A row of one object, each chunk of which is new, may be put into a table of one column of objects.
use Rattle.std.proofs.Common.{◌≡◌, ℕ, zero, suc, ◌+◌, ◌*◌, ◌<◌, ◌≤◌, Bool, true, ◌==◌, ◌&&◌, List, [], ◌∷◌, ◌++◌, map, length, Option, Some, Result, Ok, Err, inl, refl, sym, ◌∙◌, ap, subst, arith}
use Rattle.std.specs.Prelude.{not, slice_get, OnOk}
use Rattle.std.specs.List.{range_with_len, AllByRecursion}
use Rattle.std.proofs.lemmas.Bool.Decides.{nat_tests}
use Rattle.std.proofs.lemmas.Grind.{div_ceil_times}
use Rattle.std.proofs.lemmas.List.{append-nil, length-replicate}
use Rattle.std.proofs.lemmas.List.FromFn.{length-range_with_len, length-map-range_with_len}
use Rattle.disk_trait.specs.Calls.{DiskState}
use Rattle.stab_base.specs.declared.step.Step.{Step}
use Rattle.stab_base.specs.declared.chunk_name.ChunkName.{ChunkName}
use Rattle.row_value.specs.Fit as fit
use Rattle.row_value.specs.declared.pieces.Piece.TheVariants.{Fresh}
use Rattle.row_value.specs.declared.pieces.PieceContent.{PieceContent}
use Rattle.row_value.specs.declared.schema.Schema.{Schema}
use Rattle.value_codec.specs.Spelling.{HasPieceSpelling, CountsFrom, fresh_in, pieces_of}
use Rattle.chunker.specs.Sized.{count_of, len_at, fits_by_len}
use Rattle.chunk_store.specs.Standing.{chunk_in}
use Rattle.store_commit.specs.declared.devs.TableDevs.{TableDevs}
use Rattle.store_commit.specs.declared.fault.CommitFault.{CommitFault}
use Rattle.store_commit.specs.declared.update.Update.{Update}
use Rattle.row_store.specs.declared.stored.StoredRow.{StoredRow}
use Rattle.row_store.specs.Spelling.{table_payload, IsClient}
use Rattle.value_codec.specs.SchemaSpelling.{HasSchemaSpelling}
use Rattle.vault.specs.Limit.{payload_most}
use Rattle.status_log.specs.Entry.{Entry}
use Rattle.store_commit.specs.Devs.{Devs, Write, OpenEntry, PutChunk, PutRow, DropChunk, CloseEntry, PutTable, changed_by, changed_by_all}
use Rattle.store_commit.specs.Agenda.{update_writes, fresh_name, puts, drops}
use Rattle.store_commit.specs.TakesOn.{TakesOn}
use Rattle.store_commit.specs.Standing.{devs, seen, nothing, writes_of, AreUp, IsReady, WorksOn}
use Rattle.store_commit.proofs.Updates.{update_ends}
use Rattle.store_commit.specs.NamedChunks.{Among, AreDifferent, names_in, names_of}
use Rattle.store_commit.specs.There.{has_len, lens_from, has_lens, all_lens, misfits, lacks}
use Rattle.store_commit.specs.Update.{IsUpdate, brought, entry_for, stored_for}
use Rattle.new_rows.specs.NewRow.{object_schema, new_pieces, new_content, AreNewChunks, TakesNewRows, IsNewUpdate, RestsForRows, WorksForRows, AllDone}

-- ---- pieces

fresh_all : (xs : List ℕ) → fresh_in (map (λ n. Fresh n) xs) ≡ xs
fresh_all [] = refl
fresh_all (x ∷ xs) = ap (λ (ys : List ℕ). x ∷ ys) (fresh_all xs)

no_names : (xs : List ℕ) → names_in (map (λ n. Fresh n) xs) ≡ []
no_names [] = refl
no_names (x ∷ xs) = no_names xs

counts : (from n : ℕ) → CountsFrom from (range_with_len from n)
counts from zero = tt
counts from (suc n) = (refl, counts (from + 1) n)

spelled : (from n : ℕ) → from + n ≤ 32768 → AllByRecursion HasPieceSpelling (map (λ n. Fresh n) (range_with_len from n))
spelled from zero le = tt
spelled from (suc n) le = (omega (arith, le), spelled (from + 1) n (omega (arith, le)))

-- ---- lengths

new_at : (fresh : List (List ℕ)) (i : ℕ) → AllByRecursion (λ bytes. length bytes ≡ 64) fresh → i < length fresh → (bytes : List ℕ) × (slice_get fresh i ≡ Some bytes) × (length bytes ≡ 64)
new_at [] i all lt = absurd (omega (arith, lt))
new_at (x ∷ xs) zero all lt = (x, refl, all.0)
new_at (x ∷ xs) (suc i) all lt = new_at xs i all.1 (omega (arith, lt))

short : (fresh : List (List ℕ)) → AllByRecursion (λ bytes. length bytes ≡ 64) fresh → AllByRecursion (λ bytes. length bytes ≤ 65536) fresh
short [] all = tt
short (x ∷ xs) all = (omega (arith, all.0), short xs all.1)

same_len : (bytes : List ℕ) (len : ℕ) → length bytes ≡ len → has_len (Some bytes) len ≡ true
same_len bytes len e = grind (arith, nat_tests, e)

module _ (chunk : ChunkName → Option (List ℕ)) (fresh : List (List ℕ)) (count : ℕ) (n : AreNewChunks count fresh) where
  lens : (from more : ℕ) → from + more ≡ count → lens_from (brought chunk fresh) 64 (64 * count) from (map (λ n. Fresh n) (range_with_len from more)) ≡ true
  lens from zero e = refl
  lens from (suc more) e =
      let at = new_at fresh from n.each (omega (arith, n.counted, e)) in
      let here : has_len (slice_get fresh from) (len_at 64 (64 * count) from) ≡ true =
      ap (λ (o : Option (List ℕ)). has_len o (len_at 64 (64 * count) from)) at.1 ∙ same_len at.0 (len_at 64 (64 * count) from) (omega (arith, at.2, e)) in
      ap (λ (b : Bool). b && lens_from (brought chunk fresh) 64 (64 * count) (from + 1) (map (λ n. Fresh n) (range_with_len (from + 1) more))) here
      ∙ lens (from + 1) more (omega (arith, e))

counted : (count : ℕ) → count_of 64 (64 * count) ≡ count
counted count = let there = div_ceil_times (64 * count) 64 (omega arith) in omega (arith, there)

-- ---- the schema

fits_new : (count : ℕ) → count ≤ 32768 → fits_by_len object_schema (new_content count) ≡ true
unfolding fit.fit_of fit.wrong_in
fits_new count most = let zero_ : ℕ = 0 in grind (arith, nat_tests, length-replicate (64 * count) zero_, counted count)

lens_new : (chunk : ChunkName → Option (List ℕ)) (fresh : List (List ℕ)) (count : ℕ) → AreNewChunks count fresh → all_lens (brought chunk fresh) 64 (new_content count) ≡ true
lens_new chunk fresh count n =
    let pieces = length-map-range_with_len (λ n. Fresh n) 0 count in
    let same : (length (new_pieces count) == count_of 64 (64 * count)) ≡ true = grind (arith, nat_tests, pieces, counted count) in
    let one : has_lens (brought chunk fresh) 64 (record { len = 64 * count; pieces = new_pieces count }) ≡ true =
    ap (λ (b : Bool). b && lens_from (brought chunk fresh) 64 (64 * count) 0 (new_pieces count)) same ∙ lens chunk fresh count n 0 count (omega arith) in
    ap (λ (b : Bool). b && true) one

pub schema_spelled : HasSchemaSpelling object_schema
schema_spelled = record { text = (omega arith, ([], (refl, refl))); size = inl refl; some = omega arith; most = omega arith; each = ((omega arith, ([], (refl, refl))), tt); order = (λ is. tt, tt) }

pub schema_short : (state : ℕ) → length (table_payload object_schema state) ≤ payload_most
schema_short state = omega arith

-- ---- an update

new_row_is : (d : Devs) → TakesNewRows d → (count : ℕ) (fresh : List (List ℕ)) (row : List ℕ) (client number base : ℕ) → count ≤ 32768 → AreNewChunks count fresh → IsClient client
    → IsUpdate d (record { row = row; client = client; number = number; base = base; content = new_content count; fresh = fresh })
new_row_is d takes count fresh row client number base most n is_client =
    let plain : pieces_of (record { len = 64 * count; pieces = new_pieces count } ∷ []) ≡ new_pieces count = append-nil (new_pieces count) in
    let ordinals : fresh_in (pieces_of (record { len = 64 * count; pieces = new_pieces count } ∷ [])) ≡ range_with_len 0 count = ap fresh_in plain ∙ fresh_all (range_with_len 0 count) in
    let none : names_of (new_content count) ≡ [] = ap names_in plain ∙ no_names (range_with_len 0 count) in
    let long = length-map-range_with_len (λ n. Fresh n) 0 count in
    record {
      client = is_client;
      content = record {
        cell_count = omega arith;
        each_cell = tt;
        object_count = omega arith;
        each_object = (record { len = omega (arith, most); count = omega (arith, most, long); each_piece = spelled 0 count (omega (arith, most)) }, tt);
        fresh = subst (CountsFrom 0) (sym ordinals) (counts 0 count);
      };
      short = omega (arith, most, long);
      different = subst (λ (names : List ChunkName). AreDifferent names) (sym none) tt;
      kept = λ name among. absurd (subst (Among name) none among);
      fresh = n.counted ∙ sym (ap length ordinals ∙ length-range_with_len 0 count);
      chunks = short fresh n.each;
      fits = ap (λ (t : Option (Schema × ℕ)). misfits t (new_content count)) takes.there ∙ ap not (fits_new count most);
      lens = ap (λ (t : Option (Schema × ℕ)). lacks (brought (chunk_in d.chunks) fresh) t (new_content count)) takes.there ∙ ap not (lens_new (chunk_in d.chunks) fresh count n);
    }

pub new_row_is_update : (d : Devs) (count : ℕ) (update : Update) → TakesNewRows d → count ≤ 32768 → IsNewUpdate count update → IsUpdate d update
new_row_is_update d count update takes most k =
    let made : PieceContent → Update = λ content. record { row = update.row; client = update.client; number = update.number; base = update.base; content = content; fresh = update.fresh } in
    subst (λ (content : PieceContent). IsUpdate d (made content)) (sym k.content) (new_row_is d takes count update.fresh update.row update.client update.number update.base most k.fresh k.client)

-- ---- behind an update

module _ (t : Option (Schema × ℕ)) where
  puts_behind : (version ordinal : ℕ) (fresh : List (List ℕ)) (ws : List Write) → ((d : Devs) → d.held.table ≡ t → (changed_by_all d ws).held.table ≡ t) → (d : Devs) → d.held.table ≡ t
      → (changed_by_all d (puts version ordinal fresh ++ ws)).held.table ≡ t
  puts_behind version ordinal [] ws k d h = k d h
  puts_behind version ordinal (bytes ∷ fresh) ws k d h = puts_behind version (ordinal + 1) fresh ws k (changed_by d (PutChunk (fresh_name version ordinal) bytes)) h

  drops_behind : (names : List ChunkName) (d : Devs) → d.held.table ≡ t → (changed_by_all d (drops names ++ CloseEntry ∷ [])).held.table ≡ t
  drops_behind [] d h = h
  drops_behind (name ∷ names) d h = drops_behind names (changed_by d (DropChunk name)) h

pub takes_behind : (d : Devs) (entry : Entry) (fresh : List (List ℕ)) (stored : StoredRow) → TakesNewRows d → TakesNewRows (changed_by_all d (update_writes entry fresh stored))
takes_behind d entry fresh stored takes = record {
  closed = update_ends d entry fresh stored;
  state = takes.state;
  there = puts_behind (Some (object_schema, takes.state)) entry.version 0 fresh (PutRow stored ∷ (drops entry.old ++ CloseEntry ∷ []))
      (λ e h. drops_behind (Some (object_schema, takes.state)) entry.old (changed_by e (PutRow stored)) h) (changed_by d (OpenEntry entry)) takes.there;
}

-- ---- devices at work

-- one write more is done, and fewer are to come
pub record DoesOne {D : Type 0} (state : D → DiskState) (old new : TableDevs D) : Type 0 where
  pub up : AreUp new
  pub ready : IsReady state new (writes_of new)
  pub same : changed_by_all (devs state new) (writes_of new) ≡ changed_by_all (devs state old) (writes_of old)
  pub fewer : length (writes_of new) < length (writes_of old)

module _ {D : Type 0} (state : D → DiskState) (images : D → ℕ → List ℕ → Type 0) where
  pub does_one : (old new : TableDevs D) (r : Result Step CommitFault) (ws : List Write) → writes_of old ≡ ws → (writes_of old ≡ [] → ⊥) → WorksOn state images old new r ws → OnOk r (DoesOne state old new)
  does_one old new (Err e) ws is some k = tt
  does_one old new (Ok step) [] is some k = absurd (some is)
  does_one old new (Ok step) (w ∷ ws) is some k = record {
    up = k.0.up;
    ready = subst (IsReady state new) (sym k.1) k.0.ready;
    same = ap (λ (l : List Write). changed_by_all (devs state new) l) k.1
        ∙ (ap (λ (d : Devs). changed_by_all d ws) k.0.devs_are ∙ ap (λ (l : List Write). changed_by_all (devs state old) l) (sym is));
    fewer = omega (arith, ap length k.1, ap length is);
  }

  -- an update was taken on
  pub begun : (is_spent : Type 0) (update : Update) (old new : TableDevs D) (r : Result ℕ CommitFault) → RestsForRows state old
      → TakesOn state images is_spent (λ version. update_writes (entry_for (seen state old) version update) update.fresh (stored_for (seen state old) version update)) old new r
      → OnOk r (WorksForRows state new)
  begun is_spent update old new (Err e) rests k = tt
  begun is_spent update old new (Ok version) rests k =
      let entry = entry_for (seen state old) version update in
      let stored = stored_for (seen state old) version update in
      let behind = takes_behind (devs state old) entry update.fresh stored rests.takes in
      let same : devs state new ≡ devs state old = k.same (λ is. cc) in
      record {
        up = k.up;
        ready = k.ready;
        takes = subst (λ (l : List Write). TakesNewRows (changed_by_all (devs state new) l)) (sym k.taken)
            (subst (λ (d : Devs). TakesNewRows (changed_by_all d (update_writes entry update.fresh stored))) (sym same) behind);
      }

  pub seen_takes : (table : TableDevs D) → TakesNewRows (devs state table) → TakesNewRows (seen state table)
  seen_takes table takes = record { closed = takes.closed; state = takes.state; there = takes.there }

  pub rests_behind : (old new : TableDevs D) → WorksForRows state old → AllDone state old new → RestsForRows state new
  rests_behind old new works done = record { ready = done.ready; idle = done.idle; takes = subst TakesNewRows (sym done.devs) works.takes }

  -- the table was put
  pub table_put : (old mid new : TableDevs D) (r : Result Step CommitFault) (n : ℕ) → devs state old ≡ nothing → devs state mid ≡ devs state old → writes_of mid ≡ PutTable object_schema n ∷ []
      → WorksOn state images mid new r (writes_of mid) → OnOk r (RestsForRows state new)
  table_put old mid new (Err e) n empty same ws k = tt
  table_put old mid new (Ok step) n empty same ws k =
      let w : WorksOn state images mid new (Ok step) (PutTable object_schema n ∷ []) = subst (λ (l : List Write). WorksOn state images mid new (Ok step) l) ws k in
      let are : devs state new ≡ changed_by nothing (PutTable object_schema n) = w.0.devs_are ∙ ap (λ (d : Devs). changed_by d (PutTable object_schema n)) (same ∙ empty) in
      record { ready = w.0.ready; idle = w.1; takes = record { closed = ap (λ (d : Devs). d.pending) are; state = n; there = ap (λ (d : Devs). d.held.table) are } }

  -- what is ready for its writes is so behind one of them
  pub still_ready : (old new : TableDevs D) (r : Result Step CommitFault) (ws : List Write) → writes_of old ≡ ws → WorksOn state images old new r ws → AreUp old → IsReady state old (writes_of old)
      → OnOk r (AreUp new × IsReady state new (writes_of new))
  still_ready old new (Err e) ws is k up ready = tt
  still_ready old new (Ok step) [] is k up ready = (subst AreUp (sym k.1) up, subst (λ (t : TableDevs D). IsReady state t (writes_of t)) (sym k.1) ready)
  still_ready old new (Ok step) (w ∷ ws) is k up ready = (k.0.up, subst (IsReady state new) (sym k.1) k.0.ready)
