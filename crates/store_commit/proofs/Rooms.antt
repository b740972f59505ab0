-- The writes of an update may be done, and what room they need.
use Rattle.std.proofs.Common.{◌≡◌, inl, inr, ⊎_elim, ℕ, ◌+◌, ◌*◌, ◌<◌, ◌≤◌, Bool, true, List, [], ◌∷◌, ◌++◌, length, Option, Some, None, refl, sym, ◌∙◌, ap, subst, arith}
use Rattle.std.specs.Prelude.{sum_by, is_some, IsSome}
use Rattle.std.specs.List.{AllByRecursion}
use Rattle.std.proofs.lemmas.List.Sums.{sum_by-cons}
use Rattle.disk_trait.specs.Calls.{DiskState}
use Rattle.vault.specs.declared.folded.Folded.{Folded}
use Rattle.vault.specs.Folded as folded
use Rattle.vault.proofs.Uppers.{less_room}
use Rattle.stab_base.specs.declared.chunk_name.ChunkName.{ChunkName}
use Rattle.stab_base.specs.declared.limits.TheConstants.{NUMBER_MAX}
use Rattle.vault.specs.Limit.{payload_most}
use Rattle.chunk_store.specs.Index.{HasSpare as chunk_spare}
use Rattle.chunk_store.specs.Standing.{chunk_in}
use Rattle.chunk_store.specs.Standing as chunks
use Rattle.row_store.specs.Memory.{HasSpare as row_spare}
use Rattle.row_store.specs.Standing as rows
use Rattle.status_log.specs.Memory.{HasSpare as log_spare}
use Rattle.status_log.specs.Standing as logs
use Rattle.store_commit.specs.declared.devs.TableDevs.{TableDevs}
use Rattle.row_store.specs.declared.stored.StoredRow.{StoredRow}
use Rattle.row_value.specs.declared.schema.Schema.{Schema}
use Rattle.row_store.specs.declared.stored.Terms.{Terms}
use Rattle.row_store.specs.Spelling.{HasStoredSpelling, row_payload, table_payload, IsClient}
use Rattle.status_log.specs.Entry.{Entry, size_of, HasSpelling}
use Rattle.store_commit.specs.Devs.{Devs, Write, OpenEntry, PutChunk, PutRow, DropChunk, CloseEntry, PutTable, PutSub, changed_by}
use Rattle.store_commit.specs.declared.update.Update.{Update}
use Rattle.store_commit.specs.NamedChunks.{Among, AreDifferent, names_of}
use Rattle.store_commit.specs.Agenda.{fresh_name, puts, drops, update_writes}
use Rattle.store_commit.specs.Standing.{chunk_opens, chunk_puts, chunk_bytes, row_opens, row_puts, row_bytes, log_opens, log_puts, log_bytes, MayDo, MayDoAll, IsReady, devs}
use Rattle.store_commit.specs.Standing.{chunk_opened, row_opened, log_opened}
use Rattle.store_commit.specs.TakesOn.{IsPlan}
use Rattle.store_commit.proofs.Works.{all_chunk, all_row, all_log}
use Rattle.row_store.specs.Data.{row_of}
use Rattle.store_commit.specs.Update.{chunk_most, names_if, entry_for}
use Rattle.store_commit.proofs.Replacing.{unmet_is, unmet_different}
use Rattle.store_commit.proofs.Lookups.{cases_name, chunk_put, chunk_put_other, chunk_dropped_other, not_itself_name}

-- ---- they may be done

-- these names have a chunk, and an entry is open
pub record AreThere (d : Devs) (names : List ChunkName) : Type 0 where
  pub there : (name : ChunkName) → Among name names → IsSome (chunk_in d.chunks name)
  pub open_ : IsSome d.pending

there_still : (d : Devs) (names : List ChunkName) (name : ChunkName) (bytes : List ℕ) → AreThere d names → AreThere (changed_by d (PutChunk name bytes)) names
there_still d names name bytes a = record {
  there = λ q among. ⊎_elim
      (λ same. subst (λ (o : Option (List ℕ)). IsSome o) (sym (ap (chunk_in (changed_by d (PutChunk name bytes)).chunks) (sym same) ∙ chunk_put d.chunks name bytes)) refl)
      (λ apart. subst (λ (o : Option (List ℕ)). IsSome o) (sym (chunk_put_other d.chunks name bytes q (not_itself_name name q apart))) (a.there q among))
      (cases_name name q);
  open_ = a.open_;
}

may_drop : (names : List ChunkName) (d : Devs) → AreDifferent names → AreThere d names → MayDoAll d (drops names ++ CloseEntry ∷ [])
may_drop [] d different a = (a.open_, tt)
may_drop (name ∷ names) d different a = (
  a.there name (inl refl),
  may_drop names (changed_by d (DropChunk name)) different.1 (record {
    there = λ q among. subst (λ (o : Option (List ℕ)). IsSome o) (sym (chunk_dropped_other d.chunks name q (λ same. different.0 (subst (λ (x : ChunkName). Among x names) (sym same) among)))) (a.there q (inr among));
    open_ = a.open_;
  }),
)

may_put : (v k : ℕ) (fresh : List (List ℕ)) (d : Devs) (names : List ChunkName) (rest : List Write) → v ≤ NUMBER_MAX → AllByRecursion (λ (bytes : List ℕ). length bytes ≤ chunk_most) fresh
    → AreThere d names
    → ((e : Devs) → AreThere e names → MayDoAll e rest) → MayDoAll d (puts v k fresh ++ rest)
may_put v k [] d names rest most short a last = last d a
may_put v k (bytes ∷ fresh) d names rest most short a last = (
  (most, omega (arith, short.0)),
  may_put v (k + 1) fresh (changed_by d (PutChunk (fresh_name v k) bytes)) names rest most short.1 (there_still d names (fresh_name v k) bytes a) last,
)

pub may_update : (d : Devs) (entry : Entry) (fresh : List (List ℕ)) (stored : StoredRow) → HasSpelling entry → d.pending ≡ None → AllByRecursion (λ (bytes : List ℕ). length bytes ≤ chunk_most) fresh
    → HasStoredSpelling stored → length (row_payload stored) ≤ payload_most → AreDifferent entry.old → ((name : ChunkName) → Among name entry.old → IsSome (chunk_in d.chunks name))
    → MayDoAll d (update_writes entry fresh stored)
may_update d entry fresh stored spelled closed short row small different there = (
  (spelled, closed),
  may_put entry.version 0 fresh (changed_by d (OpenEntry entry)) entry.old (PutRow stored ∷ (drops entry.old ++ CloseEntry ∷ [])) spelled.version short (record { there = there; open_ = refl })
      (λ e a. ((row, small), may_drop entry.old (changed_by e (PutRow stored)) different (record { there = a.there; open_ = a.open_ }))),
)

-- ---- their room

pub record IsMore (more less : List Write) (count bytes : ℕ) : Type 0 where
  pub chunk_opens : chunk_opens more ≡ chunk_opens less
  pub chunk_puts : chunk_puts more ≡ chunk_puts less + count
  pub chunk_bytes : chunk_bytes more ≡ chunk_bytes less + bytes
  pub row_opens : row_opens more ≡ row_opens less
  pub row_puts : row_puts more ≡ row_puts less
  pub row_bytes : row_bytes more ≡ row_bytes less
  pub log_opens : log_opens more ≡ log_opens less
  pub log_puts : log_puts more ≡ log_puts less
  pub log_bytes : log_bytes more ≡ log_bytes less

put_more : (v k : ℕ) (fresh : List (List ℕ)) (rest : List Write) → IsMore (puts v k fresh ++ rest) rest (length fresh) (13 * length fresh + sum_by length fresh)
put_more v k [] rest = record { chunk_opens = refl; chunk_puts = omega arith; chunk_bytes = omega arith; row_opens = refl; row_puts = refl; row_bytes = refl; log_opens = refl; log_puts = refl; log_bytes = refl }
put_more v k (bytes ∷ fresh) rest =
    let m = put_more v (k + 1) fresh rest in
    record {
      chunk_opens = m.chunk_opens;
      chunk_puts = omega (arith, m.chunk_puts);
      chunk_bytes = omega (arith, m.chunk_bytes, sum_by-cons (λ (b : List ℕ). length b) bytes fresh);
      row_opens = m.row_opens;
      row_puts = m.row_puts;
      row_bytes = m.row_bytes;
      log_opens = m.log_opens;
      log_puts = m.log_puts;
      log_bytes = m.log_bytes;
    }

drop_more : (names : List ChunkName) (rest : List Write) → IsMore (drops names ++ rest) rest (length names) (13 * length names)
drop_more [] rest = record { chunk_opens = refl; chunk_puts = omega arith; chunk_bytes = omega arith; row_opens = refl; row_puts = refl; row_bytes = refl; log_opens = refl; log_puts = refl; log_bytes = refl }
drop_more (name ∷ names) rest =
    let m = drop_more names rest in
    record {
      chunk_opens = m.chunk_opens;
      chunk_puts = omega (arith, m.chunk_puts);
      chunk_bytes = omega (arith, m.chunk_bytes);
      row_opens = m.row_opens;
      row_puts = m.row_puts;
      row_bytes = m.row_bytes;
      log_opens = m.log_opens;
      log_puts = m.log_puts;
      log_bytes = m.log_bytes;
    }

pub record NeedsRoom (ws : List Write) (puts_ bytes row log : ℕ) : Type 0 where
  pub chunk_opens : chunk_opens ws ≡ 0
  pub chunk_puts : chunk_puts ws ≡ puts_
  pub chunk_bytes : chunk_bytes ws ≡ bytes
  pub row_opens : row_opens ws ≡ 0
  pub row_puts : row_puts ws ≡ 1
  pub row_bytes : row_bytes ws ≡ row
  pub log_opens : log_opens ws ≡ 0
  pub log_puts : log_puts ws ≡ 2
  pub log_bytes : log_bytes ws ≡ log

pub update_room : (entry : Entry) (fresh : List (List ℕ)) (stored : StoredRow)
    → NeedsRoom (update_writes entry fresh stored) (length fresh + length entry.old) (13 * (length fresh + length entry.old) + sum_by length fresh) (length (row_payload stored)) (size_of entry + 9)
update_room entry fresh stored =
    let d = drop_more entry.old (CloseEntry ∷ []) in
    let p = put_more entry.version 0 fresh (PutRow stored ∷ (drops entry.old ++ CloseEntry ∷ [])) in
    record {
      chunk_opens = p.chunk_opens ∙ d.chunk_opens;
      chunk_puts = omega (arith, p.chunk_puts, d.chunk_puts);
      chunk_bytes = omega (arith, p.chunk_bytes, d.chunk_bytes);
      row_opens = p.row_opens ∙ d.row_opens;
      row_puts = omega (arith, p.row_puts, d.row_puts);
      row_bytes = omega (arith, p.row_bytes, d.row_bytes);
      log_opens = p.log_opens ∙ d.log_opens;
      log_puts = omega (arith, p.log_puts, d.log_puts);
      log_bytes = omega (arith, p.log_bytes, d.log_bytes);
    }

-- ---- ready

unopened : {D F : Type 0} (state : D → DiskState) (has_spare : F → ℕ → ℕ → Type 0) (folded_ : Folded D F) (p b o n m : ℕ) → o ≡ 0 → n ≡ p → m ≡ b → folded.HasRoom state has_spare folded_ 1 p b
    → folded.HasRoom state has_spare folded_ o n m
unopened state has_spare folded_ p b o n m none same_puts same_bytes r =
    subst (λ (x : ℕ). folded.HasRoom state has_spare folded_ o x m) (sym same_puts)
    (subst (λ (x : ℕ). folded.HasRoom state has_spare folded_ o p x) (sym same_bytes)
    (record { vault = less_room state folded_.vault 1 p b o p b (omega (arith, none)) (omega arith) (omega arith) r.vault; memory = r.memory; payload = r.payload }))

pub ready_update : {D : Type 0} (state : D → DiskState) (table : TableDevs D) (entry : Entry) (fresh : List (List ℕ)) (stored : StoredRow) → IsReady state table [] → IsPlan entry fresh stored
    → (devs state table).pending ≡ None → AreDifferent entry.old
    → ((name : ChunkName) → Among name entry.old → IsSome (chunk_in (devs state table).chunks name))
    → chunks.HasRoom state table.chunks 1 (length fresh + length entry.old) (13 * (length fresh + length entry.old) + sum_by length fresh)
    → rows.HasRoom state table.rows 1 1 (length (row_payload stored)) → logs.HasRoom state table.log 1 2 (62 + 12 * length entry.old)
    → IsReady state table (update_writes entry fresh stored)
ready_update state table entry fresh stored r plan closed different there chunk_room row_room log_room =
    let ws = update_writes entry fresh stored in
    let n = update_room entry fresh stored in
    record {
      may = may_update (devs state table) entry fresh stored plan.spelled closed plan.chunks plan.row_spelled plan.short different there;
      chunk_looked = r.chunk_looked;
      chunk_sound = r.chunk_sound;
      chunk_is_opened = all_chunk (chunks.IsOpened state table.chunks) ws r.chunk_is_opened;
      chunk_room = unopened state chunk_spare table.chunks.inner _ _ (chunk_opens ws) (chunk_puts ws) (chunk_bytes ws) n.chunk_opens n.chunk_puts n.chunk_bytes chunk_room;
      row_looked = r.row_looked;
      row_sound = r.row_sound;
      row_is_opened = all_row (rows.IsOpened state table.rows) ws r.row_is_opened;
      row_room = unopened state row_spare table.rows.inner _ _ (row_opens ws) (row_puts ws) (row_bytes ws) n.row_opens n.row_puts n.row_bytes row_room;
      log_looked = r.log_looked;
      log_sound = r.log_sound;
      log_is_opened = all_log (logs.IsOpened state table.log) ws r.log_is_opened;
      log_room = unopened state log_spare table.log.inner _ _ (log_opens ws) (log_puts ws) (log_bytes ws) n.log_opens n.log_puts (omega (arith, n.log_bytes)) log_room;
    }

-- the chunks' bytes
pub bytes_few : (fresh : List (List ℕ)) → AllByRecursion (λ (bytes : List ℕ). length bytes ≤ chunk_most) fresh → sum_by length fresh ≤ 65536 * length fresh
bytes_few [] h = omega arith
bytes_few (bytes ∷ fresh) h = omega (arith, sum_by-cons (λ (b : List ℕ). length b) bytes fresh, bytes_few fresh h.1, h.0)

-- an update that was worked out over devices with the same chunks
pub prepared : {D : Type 0} (state : D → DiskState) (d : Devs) (new : TableDevs D) (version : ℕ) (update : Update) (entry : Entry) (fresh : List (List ℕ)) (stored : StoredRow)
    → entry ≡ entry_for d version update → (devs state new).chunks ≡ d.chunks
    → IsPlan entry fresh stored → (devs state new).pending ≡ None → IsReady state new []
    → chunks.HasRoom state new.chunks 1 (length fresh + length entry.old) (13 * (length fresh + length entry.old) + sum_by length fresh) → rows.HasRoom state new.rows 1 1 (length (row_payload stored))
    → logs.HasRoom state new.log 1 2 (62 + 12 * length entry.old)
    → IsReady state new (update_writes entry fresh stored)
prepared state d new version update entry fresh stored is same plan closed rests chunk_room row_room log_room =
    let there : ChunkName → Bool = λ name. is_some (chunk_in d.chunks name) in
    let kept = names_of update.content in
    let names = names_if (row_of d.held update.row) in
    ready_update state new entry fresh stored rests plan closed
    (subst (λ (e : Entry). AreDifferent e.old) (sym is) (unmet_different there kept names))
    (λ name among.
    let x = unmet_is there kept names name (subst (λ (e : Entry). Among name e.old) is among) in
    subst (λ (cs : List (ChunkName × List ℕ)). IsSome (chunk_in cs name)) (sym same) x.1)
    chunk_room row_room log_room

-- one put of the rows' device
module _ {D : Type 0} (state : D → DiskState) (table : TableDevs D) (r : IsReady state table []) where
  put_ready : (w : Write) (bytes : ℕ) → MayDo (devs state table) w → chunk_opened (chunks.IsOpened state table.chunks) (w ∷ []) → row_opened (rows.IsOpened state table.rows) (w ∷ [])
      → log_opened (logs.IsOpened state table.log) (w ∷ [])
      → chunk_opens (w ∷ []) ≡ 0 → chunk_puts (w ∷ []) ≡ 0 → chunk_bytes (w ∷ []) ≡ 0 → row_opens (w ∷ []) ≡ 0 → row_puts (w ∷ []) ≡ 1 → row_bytes (w ∷ []) ≡ bytes
      → log_opens (w ∷ []) ≡ 0 → log_puts (w ∷ []) ≡ 0 → log_bytes (w ∷ []) ≡ 0 → rows.HasRoom state table.rows 1 1 bytes → IsReady state table (w ∷ [])
  put_ready w bytes may co ro lo a b c d e f x y z room = record {
    may = (may, tt);
    chunk_looked = r.chunk_looked;
    chunk_sound = r.chunk_sound;
    chunk_is_opened = co;
    chunk_room = rw (a, b, c) r.chunk_room;
    row_looked = r.row_looked;
    row_sound = r.row_sound;
    row_is_opened = ro;
    row_room = unopened state row_spare table.rows.inner 1 bytes (row_opens (w ∷ [])) (row_puts (w ∷ [])) (row_bytes (w ∷ [])) d e f room;
    log_looked = r.log_looked;
    log_sound = r.log_sound;
    log_is_opened = lo;
    log_room = rw (x, y, z) r.log_room;
  }

  pub sub_ready : (client : ℕ) (terms : Option Terms) → IsClient client → rows.HasRoom state table.rows 1 1 18 → IsReady state table (PutSub client terms ∷ [])
  sub_ready client terms is room = put_ready (PutSub client terms) 18 is r.chunk_is_opened r.row_is_opened r.log_is_opened refl refl refl refl refl refl refl refl refl room

  pub table_ready : (schema : Schema) (number : ℕ) → MayDo (devs state table) (PutTable schema number) → rows.HasRoom state table.rows 1 1 (length (table_payload schema number))
      → IsReady state table (PutTable schema number ∷ [])
  table_ready schema number may room = put_ready (PutTable schema number) (length (table_payload schema number)) may r.chunk_is_opened r.row_is_opened r.log_is_opened refl refl refl refl refl (omega arith) refl refl refl room
