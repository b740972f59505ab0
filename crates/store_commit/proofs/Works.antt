-- What one write does to the three devices, from what it does to its own.
use Rattle.std.proofs.Common.{◌≡◌, inl, inr, ⊎_elim, ℕ, ◌+◌, ◌<◌, ◌≤◌, true, List, [], ◌∷◌, length, Option, Some, None, Result, Ok, Err, refl, sym, ◌∙◌, ap, subst, arith}
use Rattle.std.specs.Prelude.{IsErrOf}
use Rattle.std.specs.BTreeMap.{insert_entry}
use Rattle.disk_trait.specs.Image.{IsImage, settled}
use Rattle.disk_trait.proofs.Images.{settled_only}
use Rattle.disk_trait.proofs.Moments.{started}
use Rattle.vault.specs.File.{StandsForOne}
use Rattle.vault.proofs.Lists.{stands_at}
use Rattle.disk_trait.specs.Calls.{DiskState}
use Rattle.vault.specs.declared.fault.VaultFault.{VaultFault}
use Rattle.vault.specs.declared.fault.VaultFault.TheVariants as causes
use Rattle.vault.specs.declared.vault.Vault.{Vault}
use Rattle.vault.specs.Standing.{payloads, faults, stops, disk_of, IsUp, IsDown, IsSound, IsSynced, IsBlank, StopsWithin}
use Rattle.vault.specs.Standing as vaults
use Rattle.vault.specs.Calls.{IsEither, Refuses, RefusesOnly}
use Rattle.vault.proofs.Uppers.{opened_sound, less_room, runs_weaker}
use Rattle.vault.proofs.Stayings.{looked_leaves}
use Rattle.stab_base.specs.declared.chunk_name.ChunkName.{ChunkName}
use Rattle.row_value.specs.declared.schema.Schema.{Schema}
use Rattle.spare_map.specs.Late.{without}
use Rattle.chunk_store.specs.declared.device.ChunkDev.{ChunkDev}
use Rattle.chunk_store.specs.declared.fault.ChunkFault.{ChunkFault}
use Rattle.chunk_store.specs.Fault.{fault_of as chunk_fault}
use Rattle.chunk_store.specs.Payload.{name_cmp, chunks_of}
use Rattle.chunk_store.specs.Standing as chunks
use Rattle.row_store.specs.declared.device.RowDev.{RowDev}
use Rattle.row_store.specs.declared.fault.RowFault.{RowFault}
use Rattle.row_store.specs.declared.stored.StoredRow.{StoredRow}
use Rattle.row_store.specs.declared.stored.Terms.{Terms}
use Rattle.row_store.specs.Fault.{fault_of as row_fault}
use Rattle.row_store.specs.Spelling.{row_payload, table_payload, IsClient}
use Rattle.row_store.specs.Data.{TableData, with_row, with_table, with_sub, data_of, nothing_held}
use Rattle.row_store.specs.Standing as rows
use Rattle.status_log.specs.declared.device.StatusLog.{StatusLog}
use Rattle.status_log.specs.declared.fault.LogFault.{LogFault}
use Rattle.status_log.specs.Fault.{fault_of as log_fault}
use Rattle.status_log.specs.Entry.{Entry, size_of}
use Rattle.status_log.specs.Payload.{pending_of}
use Rattle.status_log.specs.Standing as logs
use Rattle.store_commit.specs.declared.devs.TableDevs.{TableDevs}
use Rattle.store_commit.specs.declared.fused.Device.{Device}
use Rattle.store_commit.specs.declared.fused.Device.TheVariants as devices
use Rattle.store_commit.specs.Fault.{disk_or}
use Rattle.store_commit.specs.declared.fault.CommitFault.{CommitFault}
use Rattle.store_commit.specs.declared.fault.CommitFault.TheVariants.{Disk, Down}
use Rattle.store_commit.specs.Devs.{Devs, Write, OpenChunks, OpenRows, OpenLog, OpenEntry, PutChunk, PutRow, DropChunk, CloseEntry, PutTable, PutSub, changed_by, IsBeforeOrAfter}
use Rattle.store_commit.specs.Fused.{vault_at, device_of}
use Rattle.store_commit.specs.Standing.{devs, all_stops, AreUp, IsOneDown, chunk_opens, chunk_puts, chunk_bytes, row_opens, row_puts, row_bytes, log_opens, log_puts, log_bytes, chunk_opened, row_opened}
use Rattle.store_commit.specs.Standing.{log_opened, MayDoAll, IsReady, DevsLeave, RowsLeave, Works, AreSound, AreSynced, AreBlank, nothing}

-- a device that is up and takes no memory fails by its disk alone
must_be_disk : {D X T E : Type 0} (state : D → DiskState) (fault : VaultFault → E) (old new : Vault D) (before after : X) (x : E) → Refuses {T = T} state fault old new before after (Err x) → RefusesOnly {T = T} fault (Err x) → (IsErrOf {T = T} (Err x) (fault causes.Memory) → ⊥) → IsUp old
    → IsDown new × (faults state old < faults state new)
must_be_disk state fault old new before after x refuses only no_memory up = pick only.0 only.1
  where
    pick : (c : VaultFault) → x ≡ fault c → IsDown new × (faults state old < faults state new)
    pick causes.Disk same = (refuses.disk (ap (λ e. Err e) same), refuses.cause.0 same)
    pick causes.Down same = let is_down : IsDown old = refuses.down.0 (ap (λ e. Err e) same) in absurd cc
    pick causes.Memory same = absurd (no_memory (ap (λ e. Err e) same))

-- what is opened needs no opening
pub all_chunk : (opened : Type 0) (ws : List Write) → opened → chunk_opened opened ws
all_chunk opened [] h = h
all_chunk opened (OpenChunks ∷ ws) h = tt
all_chunk opened (OpenRows ∷ ws) h = all_chunk opened ws h
all_chunk opened (OpenLog ∷ ws) h = all_chunk opened ws h
all_chunk opened (OpenEntry entry ∷ ws) h = all_chunk opened ws h
all_chunk opened (PutChunk name bytes ∷ ws) h = h
all_chunk opened (PutRow stored ∷ ws) h = all_chunk opened ws h
all_chunk opened (DropChunk name ∷ ws) h = h
all_chunk opened (CloseEntry ∷ ws) h = all_chunk opened ws h
all_chunk opened (PutTable schema state ∷ ws) h = all_chunk opened ws h
all_chunk opened (PutSub client terms ∷ ws) h = all_chunk opened ws h

-- what is opened needs no opening
pub all_row : (opened : Type 0) (ws : List Write) → opened → row_opened opened ws
all_row opened [] h = h
all_row opened (OpenChunks ∷ ws) h = all_row opened ws h
all_row opened (OpenRows ∷ ws) h = tt
all_row opened (OpenLog ∷ ws) h = all_row opened ws h
all_row opened (OpenEntry entry ∷ ws) h = all_row opened ws h
all_row opened (PutChunk name bytes ∷ ws) h = all_row opened ws h
all_row opened (PutRow stored ∷ ws) h = h
all_row opened (DropChunk name ∷ ws) h = all_row opened ws h
all_row opened (CloseEntry ∷ ws) h = all_row opened ws h
all_row opened (PutTable schema state ∷ ws) h = h
all_row opened (PutSub client terms ∷ ws) h = h

-- what is opened needs no opening
pub all_log : (opened : Type 0) (ws : List Write) → opened → log_opened opened ws
all_log opened [] h = h
all_log opened (OpenChunks ∷ ws) h = all_log opened ws h
all_log opened (OpenRows ∷ ws) h = all_log opened ws h
all_log opened (OpenLog ∷ ws) h = tt
all_log opened (OpenEntry entry ∷ ws) h = h
all_log opened (PutChunk name bytes ∷ ws) h = all_log opened ws h
all_log opened (PutRow stored ∷ ws) h = all_log opened ws h
all_log opened (DropChunk name ∷ ws) h = all_log opened ws h
all_log opened (CloseEntry ∷ ws) h = h
all_log opened (PutTable schema state ∷ ws) h = all_log opened ws h
all_log opened (PutSub client terms ∷ ws) h = all_log opened ws h

module _ {D : Type 0} (state : D → DiskState) (images : D → ℕ → List ℕ → Type 0) (only_now : (disk : D) (image : List ℕ) → images disk (state disk).moment image → IsImage (state disk).pending image) where
  pub leave : (old new : TableDevs D) (P : List (ChunkName × List ℕ) → Type 0) (Q : TableData → Type 0) (S : Option Entry → Type 0) (R : Devs → Type 0)
      → vaults.Leaves state images (chunks.vault_of old.chunks) (chunks.vault_of new.chunks) (λ l. P (chunks_of l))
      → vaults.Leaves state images (rows.vault_of old.rows) (rows.vault_of new.rows) (λ l. Q (data_of l))
      → vaults.Leaves state images (logs.vault_of old.log) (logs.vault_of new.log) (λ l. S (pending_of l))
      → ((c : List (ChunkName × List ℕ)) (h : TableData) (p : Option Entry) → P c → Q h → S p → R (record { chunks = c; held = h; pending = p })) → DevsLeave state images old new R
  leave old new P Q S R a b c to = record {
    each = λ x y z ix iy iz.
        let x' = a.each x ix in
        let y' = b.each y iy in
        let z' = c.each z iz in
        (x'.0, y'.0, z'.0, x'.1, y'.1, z'.1, to (chunks_of x'.0) (data_of y'.0) (pending_of z'.0) x'.2 y'.2 z'.2);
    later = record { chunks = a.later; rows = b.later; log = c.later };
  }

  pub still_chunk : (dev : ChunkDev D) → vaults.IsLookedAt state (chunks.vault_of dev) → IsSound state (chunks.vault_of dev)
      → vaults.Leaves state images (chunks.vault_of dev) (chunks.vault_of dev) (λ l. chunks_of l ≡ chunks.chunks state dev)
  still_chunk dev looked sound = runs_weaker state images (chunks.vault_of dev) (chunks.vault_of dev) (λ l. l ≡ payloads state (chunks.vault_of dev)) (λ l. chunks_of l ≡ chunks.chunks state dev) (looked_leaves state images only_now (chunks.vault_of dev) looked sound) (λ l is. ap chunks_of is)

  pub still_row : (dev : RowDev D) → vaults.IsLookedAt state (rows.vault_of dev) → IsSound state (rows.vault_of dev)
      → vaults.Leaves state images (rows.vault_of dev) (rows.vault_of dev) (λ l. data_of l ≡ rows.held state dev)
  still_row dev looked sound = runs_weaker state images (rows.vault_of dev) (rows.vault_of dev) (λ l. l ≡ payloads state (rows.vault_of dev)) (λ l. data_of l ≡ rows.held state dev) (looked_leaves state images only_now (rows.vault_of dev) looked sound) (λ l is. ap data_of is)

  pub still_log : (dev : StatusLog D) → vaults.IsLookedAt state (logs.vault_of dev) → IsSound state (logs.vault_of dev)
      → vaults.Leaves state images (logs.vault_of dev) (logs.vault_of dev) (λ l. pending_of l ≡ logs.entry_open state dev)
  still_log dev looked sound = runs_weaker state images (logs.vault_of dev) (logs.vault_of dev) (λ l. l ≡ payloads state (logs.vault_of dev)) (λ l. pending_of l ≡ logs.entry_open state dev) (looked_leaves state images only_now (logs.vault_of dev) looked sound) (λ l is. ap pending_of is)

  pub all_same : (old new : TableDevs D) → vaults.Leaves state images (chunks.vault_of old.chunks) (chunks.vault_of new.chunks) (λ l. chunks_of l ≡ chunks.chunks state old.chunks)
      → vaults.Leaves state images (rows.vault_of old.rows) (rows.vault_of new.rows) (λ l. data_of l ≡ rows.held state old.rows)
      → vaults.Leaves state images (logs.vault_of old.log) (logs.vault_of new.log) (λ l. pending_of l ≡ logs.entry_open state old.log)
      → DevsLeave state images old new (λ d. d ≡ devs state old)
  all_same old new a b c = leave old new (λ here. here ≡ chunks.chunks state old.chunks) (λ here. here ≡ rows.held state old.rows) (λ here. here ≡ logs.entry_open state old.log) (λ d. d ≡ devs state old) a b c (λ x y z px py pz. cc)

  -- a write of the chunks: what a crash leaves of the rest, and what a fuse that lets four calls pass stops
  module _ (old : TableDevs D) (dev : ChunkDev D) where
    chunk_late : {T E : Type 0} (r : Result T E) → vaults.Burns state 4 (chunks.vault_of old.chunks) (chunks.vault_of dev) r → (state (disk_of (chunks.vault_of old.chunks))).is_armed ≡ true → 4 ≤ (state (disk_of (chunks.vault_of old.chunks))).passes
        → all_stops state (record old { chunks = dev }) ≡ all_stops state old
    chunk_late r b armed passes = ap (λ (n : ℕ). n + (stops state (rows.vault_of old.rows) + stops state (logs.vault_of old.log))) (b.passed armed passes)

    module _ (ws : List Write) (ready : IsReady state old ws) where
      chunk_rows : (after : TableData) → RowsLeave state images old (record old { chunks = dev }) (IsEither (rows.held state old.rows) after)
      chunk_rows after = runs_weaker state images (rows.vault_of old.rows) (rows.vault_of old.rows) (λ l. data_of l ≡ rows.held state old.rows) (λ l. IsEither (rows.held state old.rows) after (data_of l)) (still_row old.rows ready.row_looked.vault ready.row_sound) (λ l is. inl is)

      chunk_undone : vaults.Leaves state images (chunks.vault_of old.chunks) (chunks.vault_of dev) (λ l. chunks_of l ≡ chunks.chunks state old.chunks) → DevsLeave state images old (record old { chunks = dev }) (λ d. d ≡ devs state old)
      chunk_undone k = let new : TableDevs D = record old { chunks = dev } in all_same old new k (still_row old.rows ready.row_looked.vault ready.row_sound) (still_log old.log ready.log_looked.vault ready.log_sound)

  -- a write of the rows
  module _ (old : TableDevs D) (dev : RowDev D) where
    row_late : {T E : Type 0} (r : Result T E) → vaults.Burns state 4 (rows.vault_of old.rows) (rows.vault_of dev) r → (state (disk_of (rows.vault_of old.rows))).is_armed ≡ true → 4 ≤ (state (disk_of (rows.vault_of old.rows))).passes
        → all_stops state (record old { rows = dev }) ≡ all_stops state old
    row_late r b armed passes = ap (λ (n : ℕ). stops state (chunks.vault_of old.chunks) + (n + stops state (logs.vault_of old.log))) (b.passed armed passes)

    module _ (ws : List Write) (ready : IsReady state old ws) where
      row_undone : vaults.Leaves state images (rows.vault_of old.rows) (rows.vault_of dev) (λ l. data_of l ≡ rows.held state old.rows) → DevsLeave state images old (record old { rows = dev }) (λ d. d ≡ devs state old)
      row_undone k = let new : TableDevs D = record old { rows = dev } in all_same old new (still_chunk old.chunks ready.chunk_looked.vault ready.chunk_sound) k (still_log old.log ready.log_looked.vault ready.log_sound)

  -- a write of the log
  module _ (old : TableDevs D) (dev : StatusLog D) where
    log_late : {T E : Type 0} (r : Result T E) → vaults.Burns state 4 (logs.vault_of old.log) (logs.vault_of dev) r → (state (disk_of (logs.vault_of old.log))).is_armed ≡ true → 4 ≤ (state (disk_of (logs.vault_of old.log))).passes
        → all_stops state (record old { log = dev }) ≡ all_stops state old
    log_late r b armed passes = ap (λ (n : ℕ). stops state (chunks.vault_of old.chunks) + (stops state (rows.vault_of old.rows) + n)) (b.passed armed passes)

    module _ (ws : List Write) (ready : IsReady state old ws) where
      log_rows : (after : TableData) → RowsLeave state images old (record old { log = dev }) (IsEither (rows.held state old.rows) after)
      log_rows after = runs_weaker state images (rows.vault_of old.rows) (rows.vault_of old.rows) (λ l. data_of l ≡ rows.held state old.rows) (λ l. IsEither (rows.held state old.rows) after (data_of l)) (still_row old.rows ready.row_looked.vault ready.row_sound) (λ l is. inl is)

      log_undone : vaults.Leaves state images (logs.vault_of old.log) (logs.vault_of dev) (λ l. pending_of l ≡ logs.entry_open state old.log) → DevsLeave state images old (record old { log = dev }) (λ d. d ≡ devs state old)
      log_undone k = let new : TableDevs D = record old { log = dev } in all_same old new (still_chunk old.chunks ready.chunk_looked.vault ready.chunk_sound) (still_row old.rows ready.row_looked.vault ready.row_sound) k

  module _ (old : TableDevs D) (dev : ChunkDev D) (ws : List Write) (up : AreUp old) (ready : IsReady state old (OpenChunks ∷ ws)) where
    open_chunks_moment : (r : Result (Unit {0}) ChunkFault) → chunks.OpensWrite state images old.chunks dev r → DevsLeave state images old (record old { chunks = dev }) (IsBeforeOrAfter (devs state old) OpenChunks)
    open_chunks_moment r k = let new : TableDevs D = record old { chunks = dev } in leave old new (λ here. here ≡ chunks.chunks state old.chunks) (λ here. here ≡ rows.held state old.rows) (λ here. here ≡ logs.entry_open state old.log) (IsBeforeOrAfter (devs state old) OpenChunks) (k.any_moment up.chunks ready.chunk_sound) (still_row old.rows ready.row_looked.vault ready.row_sound) (still_log old.log ready.log_looked.vault ready.log_sound) one
      where
        one : (c : List (ChunkName × List ℕ)) (h : TableData) (p : Option Entry) → (c ≡ chunks.chunks state old.chunks) → (h ≡ rows.held state old.rows) → (p ≡ logs.entry_open state old.log) → IsBeforeOrAfter (devs state old) OpenChunks (record { chunks = c; held = h; pending = p })
        one c h p pc ph pp = inl cc

    pub open_chunks_works : (r : Result (Unit {0}) ChunkFault) → chunks.OpensWrite state images old.chunks dev r → Works state images OpenChunks ws old (record old { chunks = dev }) (disk_or r)
    open_chunks_works (Ok x) k =
        let same : devs state (record old { chunks = dev }) ≡ changed_by (devs state old) OpenChunks = ap (λ (y : List (ChunkName × List ℕ)). record { chunks = y; held = rows.held state old.rows; pending = logs.entry_open state old.log }) k.same in
        record {
          devs_are = same;
          ready = record {
            may = subst (λ (e : Devs). MayDoAll e ws) (sym same) ready.may.1;
            chunk_looked = record { vault = k.opened.vault.looked; memory = k.opened.memory };
            chunk_sound = opened_sound state (chunks.vault_of dev) k.opened.vault;
            chunk_is_opened = all_chunk (chunks.IsOpened state dev) ws k.opened;
            chunk_room = k.room (chunk_opens ws) (chunk_puts ws) (chunk_bytes ws) ready.chunk_room;
            row_looked = ready.row_looked;
            row_sound = ready.row_sound;
            row_is_opened = ready.row_is_opened;
            row_room = ready.row_room;
            log_looked = ready.log_looked;
            log_sound = ready.log_sound;
            log_is_opened = ready.log_is_opened;
            log_room = ready.log_room;
          };
          up = record { chunks = k.opened.vault.looked.up; rows = up.rows; log = up.log };
          counted = omega (arith, k.refuses.cause);
          any_moment = open_chunks_moment (Ok x) k;
          rows_left = chunk_rows old dev (OpenChunks ∷ ws) ready (rows.held state old.rows);
          early = λ _. chunk_undone old dev (OpenChunks ∷ ws) ready (k.any_moment up.chunks ready.chunk_sound);
          stopped = λ within. (k.fuse up.chunks).stopped within.0 within.1;
          late = chunk_late old dev {T = Unit {0}} {E = ChunkFault} (Ok x) (k.fuse up.chunks);
          disk = λ e is. absurd cc;
        }
    open_chunks_works (Err x) k =
        let failed = must_be_disk {T = Unit {0}} state chunk_fault (chunks.vault_of old.chunks) (chunks.vault_of dev) old.chunks dev x k.refuses k.only k.no_memory up.chunks in
        record {
          devs_are = tt;
          ready = tt;
          up = tt;
          counted = tt;
          any_moment = open_chunks_moment (Err x) k;
          rows_left = chunk_rows old dev (OpenChunks ∷ ws) ready (rows.held state old.rows);
          early = λ _. chunk_undone old dev (OpenChunks ∷ ws) ready (k.any_moment up.chunks ready.chunk_sound);
          stopped = λ _. tt;
          late = chunk_late old dev {T = Unit {0}} {E = ChunkFault} (Err x) (k.fuse up.chunks);
          disk = λ e is. (cc, omega (arith, failed.1), inl failed.0);
        }

  module _ (old : TableDevs D) (dev : RowDev D) (ws : List Write) (up : AreUp old) (ready : IsReady state old (OpenRows ∷ ws)) where
    open_rows_moment : (r : Result (Unit {0}) RowFault) → rows.OpensWrite state images old.rows dev r → DevsLeave state images old (record old { rows = dev }) (IsBeforeOrAfter (devs state old) OpenRows)
    open_rows_moment r k = let new : TableDevs D = record old { rows = dev } in leave old new (λ here. here ≡ chunks.chunks state old.chunks) (λ here. here ≡ rows.held state old.rows) (λ here. here ≡ logs.entry_open state old.log) (IsBeforeOrAfter (devs state old) OpenRows) (still_chunk old.chunks ready.chunk_looked.vault ready.chunk_sound) (k.any_moment up.rows ready.row_sound) (still_log old.log ready.log_looked.vault ready.log_sound) one
      where
        one : (c : List (ChunkName × List ℕ)) (h : TableData) (p : Option Entry) → (c ≡ chunks.chunks state old.chunks) → (h ≡ rows.held state old.rows) → (p ≡ logs.entry_open state old.log) → IsBeforeOrAfter (devs state old) OpenRows (record { chunks = c; held = h; pending = p })
        one c h p pc ph pp = inl cc

    pub open_rows_works : (r : Result (Unit {0}) RowFault) → rows.OpensWrite state images old.rows dev r → Works state images OpenRows ws old (record old { rows = dev }) (disk_or r)
    open_rows_works (Ok x) k =
        let same : devs state (record old { rows = dev }) ≡ changed_by (devs state old) OpenRows = ap (λ (y : TableData). record { chunks = chunks.chunks state old.chunks; held = y; pending = logs.entry_open state old.log }) k.same in
        record {
          devs_are = same;
          ready = record {
            may = subst (λ (e : Devs). MayDoAll e ws) (sym same) ready.may.1;
            row_looked = record { vault = k.opened.vault.looked; memory = k.opened.memory };
            row_sound = opened_sound state (rows.vault_of dev) k.opened.vault;
            row_is_opened = all_row (rows.IsOpened state dev) ws k.opened;
            row_room = k.room (row_opens ws) (row_puts ws) (row_bytes ws) ready.row_room;
            chunk_looked = ready.chunk_looked;
            chunk_sound = ready.chunk_sound;
            chunk_is_opened = ready.chunk_is_opened;
            chunk_room = ready.chunk_room;
            log_looked = ready.log_looked;
            log_sound = ready.log_sound;
            log_is_opened = ready.log_is_opened;
            log_room = ready.log_room;
          };
          up = record { chunks = up.chunks; rows = k.opened.vault.looked.up; log = up.log };
          counted = omega (arith, k.refuses.cause);
          any_moment = open_rows_moment (Ok x) k;
          rows_left = runs_weaker state images (rows.vault_of old.rows) (rows.vault_of dev) (λ l. data_of l ≡ rows.held state old.rows) (λ l. IsEither (rows.held state old.rows) (rows.held state old.rows) (data_of l)) (k.any_moment up.rows ready.row_sound) (λ l is. inl is);
          early = λ _. row_undone old dev (OpenRows ∷ ws) ready (k.any_moment up.rows ready.row_sound);
          stopped = λ within. (k.fuse up.rows).stopped within.0 within.1;
          late = row_late old dev {T = Unit {0}} {E = RowFault} (Ok x) (k.fuse up.rows);
          disk = λ e is. absurd cc;
        }
    open_rows_works (Err x) k =
        let failed = must_be_disk {T = Unit {0}} state row_fault (rows.vault_of old.rows) (rows.vault_of dev) old.rows dev x k.refuses k.only k.no_memory up.rows in
        record {
          devs_are = tt;
          ready = tt;
          up = tt;
          counted = tt;
          any_moment = open_rows_moment (Err x) k;
          rows_left = runs_weaker state images (rows.vault_of old.rows) (rows.vault_of dev) (λ l. data_of l ≡ rows.held state old.rows) (λ l. IsEither (rows.held state old.rows) (rows.held state old.rows) (data_of l)) (k.any_moment up.rows ready.row_sound) (λ l is. inl is);
          early = λ _. row_undone old dev (OpenRows ∷ ws) ready (k.any_moment up.rows ready.row_sound);
          stopped = λ _. tt;
          late = row_late old dev {T = Unit {0}} {E = RowFault} (Err x) (k.fuse up.rows);
          disk = λ e is. (cc, omega (arith, failed.1), inr (inl failed.0));
        }

  module _ (old : TableDevs D) (dev : StatusLog D) (ws : List Write) (up : AreUp old) (ready : IsReady state old (OpenLog ∷ ws)) where
    open_log_moment : (r : Result (Unit {0}) LogFault) → logs.OpensWrite state images old.log dev r → DevsLeave state images old (record old { log = dev }) (IsBeforeOrAfter (devs state old) OpenLog)
    open_log_moment r k = let new : TableDevs D = record old { log = dev } in leave old new (λ here. here ≡ chunks.chunks state old.chunks) (λ here. here ≡ rows.held state old.rows) (λ here. here ≡ logs.entry_open state old.log) (IsBeforeOrAfter (devs state old) OpenLog) (still_chunk old.chunks ready.chunk_looked.vault ready.chunk_sound) (still_row old.rows ready.row_looked.vault ready.row_sound) (k.any_moment up.log ready.log_sound) one
      where
        one : (c : List (ChunkName × List ℕ)) (h : TableData) (p : Option Entry) → (c ≡ chunks.chunks state old.chunks) → (h ≡ rows.held state old.rows) → (p ≡ logs.entry_open state old.log) → IsBeforeOrAfter (devs state old) OpenLog (record { chunks = c; held = h; pending = p })
        one c h p pc ph pp = inl cc

    pub open_log_works : (r : Result (Unit {0}) LogFault) → logs.OpensWrite state images old.log dev r → Works state images OpenLog ws old (record old { log = dev }) (disk_or r)
    open_log_works (Ok x) k =
        let same : devs state (record old { log = dev }) ≡ changed_by (devs state old) OpenLog = ap (λ (y : Option Entry). record { chunks = chunks.chunks state old.chunks; held = rows.held state old.rows; pending = y }) k.same in
        record {
          devs_are = same;
          ready = record {
            may = subst (λ (e : Devs). MayDoAll e ws) (sym same) ready.may.1;
            log_looked = record { vault = k.opened.vault.looked; memory = k.opened.memory };
            log_sound = opened_sound state (logs.vault_of dev) k.opened.vault;
            log_is_opened = all_log (logs.IsOpened state dev) ws k.opened;
            log_room = k.room (log_opens ws) (log_puts ws) (log_bytes ws) ready.log_room;
            chunk_looked = ready.chunk_looked;
            chunk_sound = ready.chunk_sound;
            chunk_is_opened = ready.chunk_is_opened;
            chunk_room = ready.chunk_room;
            row_looked = ready.row_looked;
            row_sound = ready.row_sound;
            row_is_opened = ready.row_is_opened;
            row_room = ready.row_room;
          };
          up = record { chunks = up.chunks; rows = up.rows; log = k.opened.vault.looked.up };
          counted = omega (arith, k.refuses.cause);
          any_moment = open_log_moment (Ok x) k;
          rows_left = log_rows old dev (OpenLog ∷ ws) ready (rows.held state old.rows);
          early = λ _. log_undone old dev (OpenLog ∷ ws) ready (k.any_moment up.log ready.log_sound);
          stopped = λ within. (k.fuse up.log).stopped within.0 within.1;
          late = log_late old dev {T = Unit {0}} {E = LogFault} (Ok x) (k.fuse up.log);
          disk = λ e is. absurd cc;
        }
    open_log_works (Err x) k =
        let failed = must_be_disk {T = Unit {0}} state log_fault (logs.vault_of old.log) (logs.vault_of dev) old.log dev x k.refuses k.only k.no_memory up.log in
        record {
          devs_are = tt;
          ready = tt;
          up = tt;
          counted = tt;
          any_moment = open_log_moment (Err x) k;
          rows_left = log_rows old dev (OpenLog ∷ ws) ready (rows.held state old.rows);
          early = λ _. log_undone old dev (OpenLog ∷ ws) ready (k.any_moment up.log ready.log_sound);
          stopped = λ _. tt;
          late = log_late old dev {T = Unit {0}} {E = LogFault} (Err x) (k.fuse up.log);
          disk = λ e is. (cc, omega (arith, failed.1), inr (inr failed.0));
        }

  module _ (old : TableDevs D) (dev : StatusLog D) (ws : List Write) (entry : Entry) (up : AreUp old) (ready : IsReady state old (OpenEntry entry ∷ ws)) where
    open_entry_moment : (r : Result (Unit {0}) LogFault) → logs.Puts state images (size_of entry) (Some entry) old.log dev r → DevsLeave state images old (record old { log = dev }) (IsBeforeOrAfter (devs state old) (OpenEntry entry))
    open_entry_moment r k = let new : TableDevs D = record old { log = dev } in leave old new (λ here. here ≡ chunks.chunks state old.chunks) (λ here. here ≡ rows.held state old.rows) (IsEither (logs.entry_open state old.log) (Some entry)) (IsBeforeOrAfter (devs state old) (OpenEntry entry)) (still_chunk old.chunks ready.chunk_looked.vault ready.chunk_sound) (still_row old.rows ready.row_looked.vault ready.row_sound) (k.any_moment up.log) one
      where
        one : (c : List (ChunkName × List ℕ)) (h : TableData) (p : Option Entry) → (c ≡ chunks.chunks state old.chunks) → (h ≡ rows.held state old.rows) → (IsEither (logs.entry_open state old.log) (Some entry)) p → IsBeforeOrAfter (devs state old) (OpenEntry entry) (record { chunks = c; held = h; pending = p })
        one c h p pc ph pp = ⊎_elim (λ same. inl cc) (λ same. inr cc) pp

    pub open_entry_works : (r : Result (Unit {0}) LogFault) → logs.Puts state images (size_of entry) (Some entry) old.log dev r → Works state images (OpenEntry entry) ws old (record old { log = dev }) (disk_or r)
    open_entry_works (Ok x) k =
        let same : devs state (record old { log = dev }) ≡ changed_by (devs state old) (OpenEntry entry) = ap (λ (y : Option Entry). record { chunks = chunks.chunks state old.chunks; held = rows.held state old.rows; pending = y }) k.put in
        record {
          devs_are = same;
          ready = record {
            may = subst (λ (e : Devs). MayDoAll e ws) (sym same) ready.may.1;
            log_looked = record { vault = k.opened.vault.looked; memory = k.opened.memory };
            log_sound = opened_sound state (logs.vault_of dev) k.opened.vault;
            log_is_opened = all_log (logs.IsOpened state dev) ws k.opened;
            log_room = k.room (log_opens ws) (log_puts ws) (log_bytes ws) ready.log_room;
            chunk_looked = ready.chunk_looked;
            chunk_sound = ready.chunk_sound;
            chunk_is_opened = ready.chunk_is_opened;
            chunk_room = ready.chunk_room;
            row_looked = ready.row_looked;
            row_sound = ready.row_sound;
            row_is_opened = ready.row_is_opened;
            row_room = ready.row_room;
          };
          up = record { chunks = up.chunks; rows = up.rows; log = k.opened.vault.looked.up };
          counted = omega (arith, k.refuses.cause);
          any_moment = open_entry_moment (Ok x) k;
          rows_left = log_rows old dev (OpenEntry entry ∷ ws) ready (rows.held state old.rows);
          early = λ within. log_undone old dev (OpenEntry entry ∷ ws) ready (k.early up.log within);
          stopped = λ within. (k.fuse up.log).stopped within.0 within.1;
          late = log_late old dev {T = Unit {0}} {E = LogFault} (Ok x) (k.fuse up.log);
          disk = λ e is. absurd cc;
        }
    open_entry_works (Err x) k =
        let failed = must_be_disk {T = Unit {0}} state log_fault (logs.vault_of old.log) (logs.vault_of dev) old.log dev x k.refuses k.only k.no_memory up.log in
        record {
          devs_are = tt;
          ready = tt;
          up = tt;
          counted = tt;
          any_moment = open_entry_moment (Err x) k;
          rows_left = log_rows old dev (OpenEntry entry ∷ ws) ready (rows.held state old.rows);
          early = λ within. log_undone old dev (OpenEntry entry ∷ ws) ready (k.early up.log within);
          stopped = λ _. tt;
          late = log_late old dev {T = Unit {0}} {E = LogFault} (Err x) (k.fuse up.log);
          disk = λ e is. (cc, omega (arith, failed.1), inr (inr failed.0));
        }

  module _ (old : TableDevs D) (dev : ChunkDev D) (ws : List Write) (name : ChunkName) (bytes : List ℕ) (up : AreUp old) (ready : IsReady state old (PutChunk name bytes ∷ ws)) where
    put_chunk_moment : (r : Result (Unit {0}) ChunkFault) → chunks.Puts state images (13 + length bytes) (insert_entry name_cmp (chunks.chunks state old.chunks) name bytes) old.chunks dev r → DevsLeave state images old (record old { chunks = dev }) (IsBeforeOrAfter (devs state old) (PutChunk name bytes))
    put_chunk_moment r k = let new : TableDevs D = record old { chunks = dev } in leave old new (IsEither (chunks.chunks state old.chunks) (insert_entry name_cmp (chunks.chunks state old.chunks) name bytes)) (λ here. here ≡ rows.held state old.rows) (λ here. here ≡ logs.entry_open state old.log) (IsBeforeOrAfter (devs state old) (PutChunk name bytes)) (k.any_moment up.chunks) (still_row old.rows ready.row_looked.vault ready.row_sound) (still_log old.log ready.log_looked.vault ready.log_sound) one
      where
        one : (c : List (ChunkName × List ℕ)) (h : TableData) (p : Option Entry) → (IsEither (chunks.chunks state old.chunks) (insert_entry name_cmp (chunks.chunks state old.chunks) name bytes)) c → (h ≡ rows.held state old.rows) → (p ≡ logs.entry_open state old.log) → IsBeforeOrAfter (devs state old) (PutChunk name bytes) (record { chunks = c; held = h; pending = p })
        one c h p pc ph pp = ⊎_elim (λ same. inl cc) (λ same. inr cc) pc

    pub put_chunk_works : (r : Result (Unit {0}) ChunkFault) → chunks.Puts state images (13 + length bytes) (insert_entry name_cmp (chunks.chunks state old.chunks) name bytes) old.chunks dev r → Works state images (PutChunk name bytes) ws old (record old { chunks = dev }) (disk_or r)
    put_chunk_works (Ok x) k =
        let same : devs state (record old { chunks = dev }) ≡ changed_by (devs state old) (PutChunk name bytes) = ap (λ (y : List (ChunkName × List ℕ)). record { chunks = y; held = rows.held state old.rows; pending = logs.entry_open state old.log }) k.put in
        record {
          devs_are = same;
          ready = record {
            may = subst (λ (e : Devs). MayDoAll e ws) (sym same) ready.may.1;
            chunk_looked = record { vault = k.opened.vault.looked; memory = k.opened.memory };
            chunk_sound = opened_sound state (chunks.vault_of dev) k.opened.vault;
            chunk_is_opened = all_chunk (chunks.IsOpened state dev) ws k.opened;
            chunk_room = k.room (chunk_opens ws) (chunk_puts ws) (chunk_bytes ws) ready.chunk_room;
            row_looked = ready.row_looked;
            row_sound = ready.row_sound;
            row_is_opened = ready.row_is_opened;
            row_room = ready.row_room;
            log_looked = ready.log_looked;
            log_sound = ready.log_sound;
            log_is_opened = ready.log_is_opened;
            log_room = ready.log_room;
          };
          up = record { chunks = k.opened.vault.looked.up; rows = up.rows; log = up.log };
          counted = omega (arith, k.refuses.cause);
          any_moment = put_chunk_moment (Ok x) k;
          rows_left = chunk_rows old dev (PutChunk name bytes ∷ ws) ready (rows.held state old.rows);
          early = λ within. chunk_undone old dev (PutChunk name bytes ∷ ws) ready (k.early up.chunks within);
          stopped = λ within. (k.fuse up.chunks).stopped within.0 within.1;
          late = chunk_late old dev {T = Unit {0}} {E = ChunkFault} (Ok x) (k.fuse up.chunks);
          disk = λ e is. absurd cc;
        }
    put_chunk_works (Err x) k =
        let failed = must_be_disk {T = Unit {0}} state chunk_fault (chunks.vault_of old.chunks) (chunks.vault_of dev) old.chunks dev x k.refuses k.only k.no_memory up.chunks in
        record {
          devs_are = tt;
          ready = tt;
          up = tt;
          counted = tt;
          any_moment = put_chunk_moment (Err x) k;
          rows_left = chunk_rows old dev (PutChunk name bytes ∷ ws) ready (rows.held state old.rows);
          early = λ within. chunk_undone old dev (PutChunk name bytes ∷ ws) ready (k.early up.chunks within);
          stopped = λ _. tt;
          late = chunk_late old dev {T = Unit {0}} {E = ChunkFault} (Err x) (k.fuse up.chunks);
          disk = λ e is. (cc, omega (arith, failed.1), inl failed.0);
        }

  module _ (old : TableDevs D) (dev : RowDev D) (ws : List Write) (stored : StoredRow) (up : AreUp old) (ready : IsReady state old (PutRow stored ∷ ws)) where
    put_row_moment : (r : Result (Unit {0}) RowFault) → rows.Puts state images (length (row_payload stored)) (with_row (rows.held state old.rows) stored) old.rows dev r → DevsLeave state images old (record old { rows = dev }) (IsBeforeOrAfter (devs state old) (PutRow stored))
    put_row_moment r k = let new : TableDevs D = record old { rows = dev } in leave old new (λ here. here ≡ chunks.chunks state old.chunks) (IsEither (rows.held state old.rows) (with_row (rows.held state old.rows) stored)) (λ here. here ≡ logs.entry_open state old.log) (IsBeforeOrAfter (devs state old) (PutRow stored)) (still_chunk old.chunks ready.chunk_looked.vault ready.chunk_sound) (k.any_moment up.rows) (still_log old.log ready.log_looked.vault ready.log_sound) one
      where
        one : (c : List (ChunkName × List ℕ)) (h : TableData) (p : Option Entry) → (c ≡ chunks.chunks state old.chunks) → (IsEither (rows.held state old.rows) (with_row (rows.held state old.rows) stored)) h → (p ≡ logs.entry_open state old.log) → IsBeforeOrAfter (devs state old) (PutRow stored) (record { chunks = c; held = h; pending = p })
        one c h p pc ph pp = ⊎_elim (λ same. inl cc) (λ same. inr cc) ph

    pub put_row_works : (r : Result (Unit {0}) RowFault) → rows.Puts state images (length (row_payload stored)) (with_row (rows.held state old.rows) stored) old.rows dev r → Works state images (PutRow stored) ws old (record old { rows = dev }) (disk_or r)
    put_row_works (Ok x) k =
        let same : devs state (record old { rows = dev }) ≡ changed_by (devs state old) (PutRow stored) = ap (λ (y : TableData). record { chunks = chunks.chunks state old.chunks; held = y; pending = logs.entry_open state old.log }) k.put in
        record {
          devs_are = same;
          ready = record {
            may = subst (λ (e : Devs). MayDoAll e ws) (sym same) ready.may.1;
            row_looked = record { vault = k.opened.vault.looked; memory = k.opened.memory };
            row_sound = opened_sound state (rows.vault_of dev) k.opened.vault;
            row_is_opened = all_row (rows.IsOpened state dev) ws k.opened;
            row_room = k.room (row_opens ws) (row_puts ws) (row_bytes ws) ready.row_room;
            chunk_looked = ready.chunk_looked;
            chunk_sound = ready.chunk_sound;
            chunk_is_opened = ready.chunk_is_opened;
            chunk_room = ready.chunk_room;
            log_looked = ready.log_looked;
            log_sound = ready.log_sound;
            log_is_opened = ready.log_is_opened;
            log_room = ready.log_room;
          };
          up = record { chunks = up.chunks; rows = k.opened.vault.looked.up; log = up.log };
          counted = omega (arith, k.refuses.cause);
          any_moment = put_row_moment (Ok x) k;
          rows_left = k.any_moment up.rows;
          early = λ within. row_undone old dev (PutRow stored ∷ ws) ready (k.early up.rows within);
          stopped = λ within. (k.fuse up.rows).stopped within.0 within.1;
          late = row_late old dev {T = Unit {0}} {E = RowFault} (Ok x) (k.fuse up.rows);
          disk = λ e is. absurd cc;
        }
    put_row_works (Err x) k =
        let failed = must_be_disk {T = Unit {0}} state row_fault (rows.vault_of old.rows) (rows.vault_of dev) old.rows dev x k.refuses k.only k.no_memory up.rows in
        record {
          devs_are = tt;
          ready = tt;
          up = tt;
          counted = tt;
          any_moment = put_row_moment (Err x) k;
          rows_left = k.any_moment up.rows;
          early = λ within. row_undone old dev (PutRow stored ∷ ws) ready (k.early up.rows within);
          stopped = λ _. tt;
          late = row_late old dev {T = Unit {0}} {E = RowFault} (Err x) (k.fuse up.rows);
          disk = λ e is. (cc, omega (arith, failed.1), inr (inl failed.0));
        }

  module _ (old : TableDevs D) (dev : ChunkDev D) (ws : List Write) (name : ChunkName) (up : AreUp old) (ready : IsReady state old (DropChunk name ∷ ws)) where
    drop_chunk_moment : (r : Result (Unit {0}) ChunkFault) → chunks.Puts state images 13 (without name_cmp (chunks.chunks state old.chunks) name) old.chunks dev r → DevsLeave state images old (record old { chunks = dev }) (IsBeforeOrAfter (devs state old) (DropChunk name))
    drop_chunk_moment r k = let new : TableDevs D = record old { chunks = dev } in leave old new (IsEither (chunks.chunks state old.chunks) (without name_cmp (chunks.chunks state old.chunks) name)) (λ here. here ≡ rows.held state old.rows) (λ here. here ≡ logs.entry_open state old.log) (IsBeforeOrAfter (devs state old) (DropChunk name)) (k.any_moment up.chunks) (still_row old.rows ready.row_looked.vault ready.row_sound) (still_log old.log ready.log_looked.vault ready.log_sound) one
      where
        one : (c : List (ChunkName × List ℕ)) (h : TableData) (p : Option Entry) → (IsEither (chunks.chunks state old.chunks) (without name_cmp (chunks.chunks state old.chunks) name)) c → (h ≡ rows.held state old.rows) → (p ≡ logs.entry_open state old.log) → IsBeforeOrAfter (devs state old) (DropChunk name) (record { chunks = c; held = h; pending = p })
        one c h p pc ph pp = ⊎_elim (λ same. inl cc) (λ same. inr cc) pc

    pub drop_chunk_works : (r : Result (Unit {0}) ChunkFault) → chunks.Puts state images 13 (without name_cmp (chunks.chunks state old.chunks) name) old.chunks dev r → Works state images (DropChunk name) ws old (record old { chunks = dev }) (disk_or r)
    drop_chunk_works (Ok x) k =
        let same : devs state (record old { chunks = dev }) ≡ changed_by (devs state old) (DropChunk name) = ap (λ (y : List (ChunkName × List ℕ)). record { chunks = y; held = rows.held state old.rows; pending = logs.entry_open state old.log }) k.put in
        record {
          devs_are = same;
          ready = record {
            may = subst (λ (e : Devs). MayDoAll e ws) (sym same) ready.may.1;
            chunk_looked = record { vault = k.opened.vault.looked; memory = k.opened.memory };
            chunk_sound = opened_sound state (chunks.vault_of dev) k.opened.vault;
            chunk_is_opened = all_chunk (chunks.IsOpened state dev) ws k.opened;
            chunk_room = k.room (chunk_opens ws) (chunk_puts ws) (chunk_bytes ws) ready.chunk_room;
            row_looked = ready.row_looked;
            row_sound = ready.row_sound;
            row_is_opened = ready.row_is_opened;
            row_room = ready.row_room;
            log_looked = ready.log_looked;
            log_sound = ready.log_sound;
            log_is_opened = ready.log_is_opened;
            log_room = ready.log_room;
          };
          up = record { chunks = k.opened.vault.looked.up; rows = up.rows; log = up.log };
          counted = omega (arith, k.refuses.cause);
          any_moment = drop_chunk_moment (Ok x) k;
          rows_left = chunk_rows old dev (DropChunk name ∷ ws) ready (rows.held state old.rows);
          early = λ within. chunk_undone old dev (DropChunk name ∷ ws) ready (k.early up.chunks within);
          stopped = λ within. (k.fuse up.chunks).stopped within.0 within.1;
          late = chunk_late old dev {T = Unit {0}} {E = ChunkFault} (Ok x) (k.fuse up.chunks);
          disk = λ e is. absurd cc;
        }
    drop_chunk_works (Err x) k =
        let failed = must_be_disk {T = Unit {0}} state chunk_fault (chunks.vault_of old.chunks) (chunks.vault_of dev) old.chunks dev x k.refuses k.only k.no_memory up.chunks in
        record {
          devs_are = tt;
          ready = tt;
          up = tt;
          counted = tt;
          any_moment = drop_chunk_moment (Err x) k;
          rows_left = chunk_rows old dev (DropChunk name ∷ ws) ready (rows.held state old.rows);
          early = λ within. chunk_undone old dev (DropChunk name ∷ ws) ready (k.early up.chunks within);
          stopped = λ _. tt;
          late = chunk_late old dev {T = Unit {0}} {E = ChunkFault} (Err x) (k.fuse up.chunks);
          disk = λ e is. (cc, omega (arith, failed.1), inl failed.0);
        }

  module _ (old : TableDevs D) (dev : StatusLog D) (ws : List Write) (up : AreUp old) (ready : IsReady state old (CloseEntry ∷ ws)) where
    close_entry_moment : (r : Result (Unit {0}) LogFault) → logs.Puts state images 9 None old.log dev r → DevsLeave state images old (record old { log = dev }) (IsBeforeOrAfter (devs state old) CloseEntry)
    close_entry_moment r k = let new : TableDevs D = record old { log = dev } in leave old new (λ here. here ≡ chunks.chunks state old.chunks) (λ here. here ≡ rows.held state old.rows) (IsEither (logs.entry_open state old.log) None) (IsBeforeOrAfter (devs state old) CloseEntry) (still_chunk old.chunks ready.chunk_looked.vault ready.chunk_sound) (still_row old.rows ready.row_looked.vault ready.row_sound) (k.any_moment up.log) one
      where
        one : (c : List (ChunkName × List ℕ)) (h : TableData) (p : Option Entry) → (c ≡ chunks.chunks state old.chunks) → (h ≡ rows.held state old.rows) → (IsEither (logs.entry_open state old.log) None) p → IsBeforeOrAfter (devs state old) CloseEntry (record { chunks = c; held = h; pending = p })
        one c h p pc ph pp = ⊎_elim (λ same. inl cc) (λ same. inr cc) pp

    pub close_entry_works : (r : Result (Unit {0}) LogFault) → logs.Puts state images 9 None old.log dev r → Works state images CloseEntry ws old (record old { log = dev }) (disk_or r)
    close_entry_works (Ok x) k =
        let same : devs state (record old { log = dev }) ≡ changed_by (devs state old) CloseEntry = ap (λ (y : Option Entry). record { chunks = chunks.chunks state old.chunks; held = rows.held state old.rows; pending = y }) k.put in
        record {
          devs_are = same;
          ready = record {
            may = subst (λ (e : Devs). MayDoAll e ws) (sym same) ready.may.1;
            log_looked = record { vault = k.opened.vault.looked; memory = k.opened.memory };
            log_sound = opened_sound state (logs.vault_of dev) k.opened.vault;
            log_is_opened = all_log (logs.IsOpened state dev) ws k.opened;
            log_room = k.room (log_opens ws) (log_puts ws) (log_bytes ws) ready.log_room;
            chunk_looked = ready.chunk_looked;
            chunk_sound = ready.chunk_sound;
            chunk_is_opened = ready.chunk_is_opened;
            chunk_room = ready.chunk_room;
            row_looked = ready.row_looked;
            row_sound = ready.row_sound;
            row_is_opened = ready.row_is_opened;
            row_room = ready.row_room;
          };
          up = record { chunks = up.chunks; rows = up.rows; log = k.opened.vault.looked.up };
          counted = omega (arith, k.refuses.cause);
          any_moment = close_entry_moment (Ok x) k;
          rows_left = log_rows old dev (CloseEntry ∷ ws) ready (rows.held state old.rows);
          early = λ within. log_undone old dev (CloseEntry ∷ ws) ready (k.early up.log within);
          stopped = λ within. (k.fuse up.log).stopped within.0 within.1;
          late = log_late old dev {T = Unit {0}} {E = LogFault} (Ok x) (k.fuse up.log);
          disk = λ e is. absurd cc;
        }
    close_entry_works (Err x) k =
        let failed = must_be_disk {T = Unit {0}} state log_fault (logs.vault_of old.log) (logs.vault_of dev) old.log dev x k.refuses k.only k.no_memory up.log in
        record {
          devs_are = tt;
          ready = tt;
          up = tt;
          counted = tt;
          any_moment = close_entry_moment (Err x) k;
          rows_left = log_rows old dev (CloseEntry ∷ ws) ready (rows.held state old.rows);
          early = λ within. log_undone old dev (CloseEntry ∷ ws) ready (k.early up.log within);
          stopped = λ _. tt;
          late = log_late old dev {T = Unit {0}} {E = LogFault} (Err x) (k.fuse up.log);
          disk = λ e is. (cc, omega (arith, failed.1), inr (inr failed.0));
        }

  module _ (old : TableDevs D) (dev : RowDev D) (ws : List Write) (schema : Schema) (state_ : ℕ) (up : AreUp old) (ready : IsReady state old (PutTable schema state_ ∷ ws)) where
    put_table_moment : (r : Result (Unit {0}) RowFault) → rows.Puts state images (length (table_payload schema state_)) (with_table (rows.held state old.rows) schema state_) old.rows dev r → DevsLeave state images old (record old { rows = dev }) (IsBeforeOrAfter (devs state old) (PutTable schema state_))
    put_table_moment r k = let new : TableDevs D = record old { rows = dev } in leave old new (λ here. here ≡ chunks.chunks state old.chunks) (IsEither (rows.held state old.rows) (with_table (rows.held state old.rows) schema state_)) (λ here. here ≡ logs.entry_open state old.log) (IsBeforeOrAfter (devs state old) (PutTable schema state_)) (still_chunk old.chunks ready.chunk_looked.vault ready.chunk_sound) (k.any_moment up.rows) (still_log old.log ready.log_looked.vault ready.log_sound) one
      where
        one : (c : List (ChunkName × List ℕ)) (h : TableData) (p : Option Entry) → (c ≡ chunks.chunks state old.chunks) → (IsEither (rows.held state old.rows) (with_table (rows.held state old.rows) schema state_)) h → (p ≡ logs.entry_open state old.log) → IsBeforeOrAfter (devs state old) (PutTable schema state_) (record { chunks = c; held = h; pending = p })
        one c h p pc ph pp = ⊎_elim (λ same. inl cc) (λ same. inr cc) ph

    pub put_table_works : (r : Result (Unit {0}) RowFault) → rows.Puts state images (length (table_payload schema state_)) (with_table (rows.held state old.rows) schema state_) old.rows dev r → Works state images (PutTable schema state_) ws old (record old { rows = dev }) (disk_or r)
    put_table_works (Ok x) k =
        let same : devs state (record old { rows = dev }) ≡ changed_by (devs state old) (PutTable schema state_) = ap (λ (y : TableData). record { chunks = chunks.chunks state old.chunks; held = y; pending = logs.entry_open state old.log }) k.put in
        record {
          devs_are = same;
          ready = record {
            may = subst (λ (e : Devs). MayDoAll e ws) (sym same) ready.may.1;
            row_looked = record { vault = k.opened.vault.looked; memory = k.opened.memory };
            row_sound = opened_sound state (rows.vault_of dev) k.opened.vault;
            row_is_opened = all_row (rows.IsOpened state dev) ws k.opened;
            row_room = k.room (row_opens ws) (row_puts ws) (row_bytes ws) ready.row_room;
            chunk_looked = ready.chunk_looked;
            chunk_sound = ready.chunk_sound;
            chunk_is_opened = ready.chunk_is_opened;
            chunk_room = ready.chunk_room;
            log_looked = ready.log_looked;
            log_sound = ready.log_sound;
            log_is_opened = ready.log_is_opened;
            log_room = ready.log_room;
          };
          up = record { chunks = up.chunks; rows = k.opened.vault.looked.up; log = up.log };
          counted = omega (arith, k.refuses.cause);
          any_moment = put_table_moment (Ok x) k;
          rows_left = k.any_moment up.rows;
          early = λ within. row_undone old dev (PutTable schema state_ ∷ ws) ready (k.early up.rows within);
          stopped = λ within. (k.fuse up.rows).stopped within.0 within.1;
          late = row_late old dev {T = Unit {0}} {E = RowFault} (Ok x) (k.fuse up.rows);
          disk = λ e is. absurd cc;
        }
    put_table_works (Err x) k =
        let failed = must_be_disk {T = Unit {0}} state row_fault (rows.vault_of old.rows) (rows.vault_of dev) old.rows dev x k.refuses k.only k.no_memory up.rows in
        record {
          devs_are = tt;
          ready = tt;
          up = tt;
          counted = tt;
          any_moment = put_table_moment (Err x) k;
          rows_left = k.any_moment up.rows;
          early = λ within. row_undone old dev (PutTable schema state_ ∷ ws) ready (k.early up.rows within);
          stopped = λ _. tt;
          late = row_late old dev {T = Unit {0}} {E = RowFault} (Err x) (k.fuse up.rows);
          disk = λ e is. (cc, omega (arith, failed.1), inr (inl failed.0));
        }

  module _ (old : TableDevs D) (dev : RowDev D) (ws : List Write) (client : ℕ) (terms : Option Terms) (up : AreUp old) (ready : IsReady state old (PutSub client terms ∷ ws)) where
    put_sub_moment : (r : Result (Unit {0}) RowFault) → rows.Puts state images 18 (with_sub (rows.held state old.rows) client terms) old.rows dev r → DevsLeave state images old (record old { rows = dev }) (IsBeforeOrAfter (devs state old) (PutSub client terms))
    put_sub_moment r k = let new : TableDevs D = record old { rows = dev } in leave old new (λ here. here ≡ chunks.chunks state old.chunks) (IsEither (rows.held state old.rows) (with_sub (rows.held state old.rows) client terms)) (λ here. here ≡ logs.entry_open state old.log) (IsBeforeOrAfter (devs state old) (PutSub client terms)) (still_chunk old.chunks ready.chunk_looked.vault ready.chunk_sound) (k.any_moment up.rows) (still_log old.log ready.log_looked.vault ready.log_sound) one
      where
        one : (c : List (ChunkName × List ℕ)) (h : TableData) (p : Option Entry) → (c ≡ chunks.chunks state old.chunks) → (IsEither (rows.held state old.rows) (with_sub (rows.held state old.rows) client terms)) h → (p ≡ logs.entry_open state old.log) → IsBeforeOrAfter (devs state old) (PutSub client terms) (record { chunks = c; held = h; pending = p })
        one c h p pc ph pp = ⊎_elim (λ same. inl cc) (λ same. inr cc) ph

    pub put_sub_works : (r : Result (Unit {0}) RowFault) → rows.Puts state images 18 (with_sub (rows.held state old.rows) client terms) old.rows dev r → Works state images (PutSub client terms) ws old (record old { rows = dev }) (disk_or r)
    put_sub_works (Ok x) k =
        let same : devs state (record old { rows = dev }) ≡ changed_by (devs state old) (PutSub client terms) = ap (λ (y : TableData). record { chunks = chunks.chunks state old.chunks; held = y; pending = logs.entry_open state old.log }) k.put in
        record {
          devs_are = same;
          ready = record {
            may = subst (λ (e : Devs). MayDoAll e ws) (sym same) ready.may.1;
            row_looked = record { vault = k.opened.vault.looked; memory = k.opened.memory };
            row_sound = opened_sound state (rows.vault_of dev) k.opened.vault;
            row_is_opened = all_row (rows.IsOpened state dev) ws k.opened;
            row_room = k.room (row_opens ws) (row_puts ws) (row_bytes ws) ready.row_room;
            chunk_looked = ready.chunk_looked;
            chunk_sound = ready.chunk_sound;
            chunk_is_opened = ready.chunk_is_opened;
            chunk_room = ready.chunk_room;
            log_looked = ready.log_looked;
            log_sound = ready.log_sound;
            log_is_opened = ready.log_is_opened;
            log_room = ready.log_room;
          };
          up = record { chunks = up.chunks; rows = k.opened.vault.looked.up; log = up.log };
          counted = omega (arith, k.refuses.cause);
          any_moment = put_sub_moment (Ok x) k;
          rows_left = k.any_moment up.rows;
          early = λ within. row_undone old dev (PutSub client terms ∷ ws) ready (k.early up.rows within);
          stopped = λ within. (k.fuse up.rows).stopped within.0 within.1;
          late = row_late old dev {T = Unit {0}} {E = RowFault} (Ok x) (k.fuse up.rows);
          disk = λ e is. absurd cc;
        }
    put_sub_works (Err x) k =
        let failed = must_be_disk {T = Unit {0}} state row_fault (rows.vault_of old.rows) (rows.vault_of dev) old.rows dev x k.refuses k.only k.no_memory up.rows in
        record {
          devs_are = tt;
          ready = tt;
          up = tt;
          counted = tt;
          any_moment = put_sub_moment (Err x) k;
          rows_left = k.any_moment up.rows;
          early = λ within. row_undone old dev (PutSub client terms ∷ ws) ready (k.early up.rows within);
          stopped = λ _. tt;
          late = row_late old dev {T = Unit {0}} {E = RowFault} (Err x) (k.fuse up.rows);
          disk = λ e is. (cc, omega (arith, failed.1), inr (inl failed.0));
        }

-- the same, where the write's name is answered
pub works_named : {D S : Type 0} (state : D → DiskState) (images : D → ℕ → List ℕ → Type 0) (w : Write) (ws : List Write) (old new : TableDevs D) (s : S) → Works {T = Unit {0}} state images w ws old new (Ok tt) → Works {T = S} state images w ws old new (Ok s)
works_named state images w ws old new s k = record { devs_are = k.devs_are; ready = k.ready; up = k.up; counted = k.counted; any_moment = k.any_moment; rows_left = k.rows_left; early = k.early; stopped = k.stopped; late = k.late; disk = λ e is. absurd cc }

pub works_failed : {D S : Type 0} (state : D → DiskState) (images : D → ℕ → List ℕ → Type 0) (w : Write) (ws : List Write) (old new : TableDevs D) (x : CommitFault) → Works {T = Unit {0}} state images w ws old new (Err x) → Works {T = S} state images w ws old new (Err x)
works_failed state images w ws old new x k = record { devs_are = tt; ready = tt; up = tt; counted = tt; any_moment = k.any_moment; rows_left = k.rows_left; early = k.early; stopped = λ _. tt; late = k.late; disk = λ e is. let same : x ≡ e = cc in k.disk e (ap (λ (y : CommitFault). Err y) same) }

-- what has failed wasn't down before
pub not_down : {D : Type 0} (state : D → DiskState) (images : D → ℕ → List ℕ → Type 0) (w : Write) (ws : List Write) (old new : TableDevs D) (x : CommitFault) → Works {T = Unit {0}} state images w ws old new (Err x) → x ≡ Down → ⊥
not_down state images w ws old new x k is = let disk : x ≡ Disk = (k.disk x refl).0 in absurd cc

pub up_or_down : {D : Type 0} (table : TableDevs D) → AreUp table → IsOneDown table → ⊥
up_or_down table up down =
    let a = up.chunks in
    let b = up.rows in
    let c = up.log in
    ⊎_elim (λ x. absurd cc) (λ y. ⊎_elim (λ x. absurd cc) (λ x. absurd cc) y) down

-- what is said of the devices doesn't speak of the writes to come
module _ {D : Type 0} (state : D → DiskState) (images : D → ℕ → List ℕ → Type 0) (old mid : TableDevs D) (chunk_same : mid.chunks ≡ old.chunks) (row_same : mid.rows ≡ old.rows) (log_same : mid.log ≡ old.log) where
  pub same_ready : (ws : List Write) → IsReady state old ws → IsReady state mid ws
  same_ready ws r = record {
    may = rw (chunk_same, row_same, log_same) r.may;
    chunk_looked = rw chunk_same r.chunk_looked;
    chunk_sound = rw chunk_same r.chunk_sound;
    chunk_is_opened = rw chunk_same r.chunk_is_opened;
    chunk_room = rw chunk_same r.chunk_room;
    row_looked = rw row_same r.row_looked;
    row_sound = rw row_same r.row_sound;
    row_is_opened = rw row_same r.row_is_opened;
    row_room = rw row_same r.row_room;
    log_looked = rw log_same r.log_looked;
    log_sound = rw log_same r.log_sound;
    log_is_opened = rw log_same r.log_is_opened;
    log_room = rw log_same r.log_room;
  }

  same_vault : (d : Device) → vault_at mid d ≡ vault_at old d
  same_vault devices.Chunks = ap chunks.vault_of chunk_same
  same_vault devices.Rows = ap rows.vault_of row_same
  same_vault devices.Log = ap logs.vault_of log_same

  pub same_works : {T : Type 0} (w : Write) (ws : List Write) (new : TableDevs D) (r : Result T CommitFault) → Works state images w ws mid new r → Works state images w ws old new r
  same_works w ws new r k = record {
    devs_are = rw (← chunk_same, ← row_same, ← log_same) k.devs_are;
    ready = k.ready;
    up = k.up;
    counted = rw (← chunk_same, ← row_same, ← log_same) k.counted;
    any_moment = record { each = rw (← chunk_same, ← row_same, ← log_same) k.any_moment.each; later = record { chunks = rw (← chunk_same) k.any_moment.later.chunks; rows = rw (← row_same) k.any_moment.later.rows; log = rw (← log_same) k.any_moment.later.log } };
    rows_left = rw (← chunk_same, ← row_same, ← log_same) k.rows_left;
    early = λ within.
        let run = k.early (subst (λ (v : Vault D). StopsWithin state v 2) (sym (same_vault (device_of w))) within) in
        record { each = rw (← chunk_same, ← row_same, ← log_same) run.each; later = record { chunks = rw (← chunk_same) run.later.chunks; rows = rw (← row_same) run.later.rows; log = rw (← log_same) run.later.log } };
    stopped = λ within. k.stopped (subst (λ (v : Vault D). StopsWithin state v 4) (sym (same_vault (device_of w))) within);
    late = λ armed passes.
        let same : all_stops state new ≡ all_stops state mid = k.late (subst (λ (v : Vault D). (state (disk_of v)).is_armed ≡ true) (sym (same_vault (device_of w))) armed) (subst (λ (v : Vault D). 4 ≤ (state (disk_of v)).passes) (sym (same_vault (device_of w))) passes) in
        rw (← chunk_same, ← row_same, ← log_same) same;
    disk = rw (← chunk_same, ← row_same, ← log_same) k.disk;
  }

-- ---- a look

module _ {D : Type 0} (state : D → DiskState) (images : D → ℕ → List ℕ → Type 0) (only_now : (disk : D) (image : List ℕ) → images disk (state disk).moment image → IsImage (state disk).pending image) where
  -- while nothing is done, a crash of what is synced and sound leaves it
  synced_leaves : (vault : Vault D) → (state (disk_of vault)).pending ≡ settled (state (disk_of vault)).seen → IsSound state vault
      → vaults.Leaves state images vault vault (λ list. list ≡ payloads state vault)
  synced_leaves vault synced sound =
      let file = (state (disk_of vault)).seen in
      let P : List ℕ → Type 0 = StandsForOne (λ list. list ≡ payloads state vault) in
      let here : P file = (payloads state vault, sound, refl) in
      started state images (disk_of vault) P (λ image left. subst P (sym (settled_only file image (subst (λ q. IsImage q image) synced (only_now (disk_of vault) image left)))) here)

  pub synced_chunks : (dev : ChunkDev D) → IsUp (chunks.vault_of dev) → IsSynced state (chunks.vault_of dev) → IsSound state (chunks.vault_of dev)
      → vaults.Leaves state images (chunks.vault_of dev) (chunks.vault_of dev) (λ l. chunks_of l ≡ chunks.chunks state dev)
  synced_chunks dev up synced sound = runs_weaker state images (chunks.vault_of dev) (chunks.vault_of dev) (λ l. l ≡ payloads state (chunks.vault_of dev)) (λ l. chunks_of l ≡ chunks.chunks state dev) (synced_leaves (chunks.vault_of dev) (synced up) sound) (λ l is. ap chunks_of is)

  pub synced_rows : (dev : RowDev D) → IsUp (rows.vault_of dev) → IsSynced state (rows.vault_of dev) → IsSound state (rows.vault_of dev)
      → vaults.Leaves state images (rows.vault_of dev) (rows.vault_of dev) (λ l. data_of l ≡ rows.held state dev)
  synced_rows dev up synced sound = runs_weaker state images (rows.vault_of dev) (rows.vault_of dev) (λ l. l ≡ payloads state (rows.vault_of dev)) (λ l. data_of l ≡ rows.held state dev) (synced_leaves (rows.vault_of dev) (synced up) sound) (λ l is. ap data_of is)

  pub synced_log : (dev : StatusLog D) → IsUp (logs.vault_of dev) → IsSynced state (logs.vault_of dev) → IsSound state (logs.vault_of dev)
      → vaults.Leaves state images (logs.vault_of dev) (logs.vault_of dev) (λ l. pending_of l ≡ logs.entry_open state dev)
  synced_log dev up synced sound = runs_weaker state images (logs.vault_of dev) (logs.vault_of dev) (λ l. l ≡ payloads state (logs.vault_of dev)) (λ l. pending_of l ≡ logs.entry_open state dev) (synced_leaves (logs.vault_of dev) (synced up) sound) (λ l is. ap pending_of is)

  -- where the look at the chunks alone was tried
  pub one_looked : (old : TableDevs D) (cs : ChunkDev D) → AreUp old → AreSynced state old → AreSound state old → vaults.Leaves state images (chunks.vault_of old.chunks) (chunks.vault_of cs) (λ l. chunks_of l ≡ chunks.chunks state old.chunks) → DevsLeave state images old (record old { chunks = cs }) (λ d. d ≡ devs state old)
  one_looked old cs up synced sound a = let new : TableDevs D = record old { chunks = cs } in all_same state images only_now old new a (synced_rows old.rows up.rows synced.rows sound.rows) (synced_log old.log up.log synced.log sound.log)

  -- where that at the rows was tried too
  pub two_looked : (old : TableDevs D) (cs : ChunkDev D) (rs : RowDev D) → AreUp old → AreSynced state old → AreSound state old
      → vaults.Leaves state images (chunks.vault_of old.chunks) (chunks.vault_of cs) (λ l. chunks_of l ≡ chunks.chunks state old.chunks)
      → vaults.Leaves state images (rows.vault_of old.rows) (rows.vault_of rs) (λ l. data_of l ≡ rows.held state old.rows)
      → DevsLeave state images old (record old { chunks = cs; rows = rs }) (λ d. d ≡ devs state old)
  two_looked old cs rs up synced sound a b = let new : TableDevs D = record old { chunks = cs; rows = rs } in all_same state images only_now old new a b (synced_log old.log up.log synced.log sound.log)

  -- while nothing is done, a crash of devices at rest leaves what they hold
  pub rests_leave : (old : TableDevs D) (ws : List Write) → IsReady state old ws → DevsLeave state images old old (λ d. d ≡ devs state old)
  rests_leave old ws r =
      all_same state images only_now old old
      (still_chunk state images only_now old.chunks r.chunk_looked.vault r.chunk_sound)
      (still_row state images only_now old.rows r.row_looked.vault r.row_sound)
      (still_log state images only_now old.log r.log_looked.vault r.log_sound)

  -- ---- a format

  abbrev made : List (ChunkName × List ℕ) → TableData → Option Entry → Devs
  made c h p = record { chunks = c; held = h; pending = p }

  pub short_stands : (image : List ℕ) → length image ≤ 1 → StandsForOne (λ list. list ≡ []) image
  short_stands image short = ([], stands_at image 0 [] (record { size = refl; front = refl; more = λ lt. absurd (omega arith); short = tt }) (λ _. omega arith), refl)

  -- while nothing is done, a crash of a blank file leaves no payload
  pub blank_leaves : (vault : Vault D) → IsBlank state vault → vaults.Leaves state images vault vault (λ list. list ≡ [])
  blank_leaves vault blank =
      let file = (state (disk_of vault)).seen in
      started state images (disk_of vault) (StandsForOne (λ list. list ≡ []))
      (λ image left.
      let same = settled_only file image (subst (λ q. IsImage q image) blank.synced (only_now (disk_of vault) image left)) in
      short_stands image (rw same blank.short))

  pub no_rows : data_of [] ≡ nothing_held
  unfolding data_of
  no_rows = refl

  pub no_chunks : chunks_of [] ≡ []
  unfolding chunks_of
  no_chunks = refl

  pub no_entry : pending_of [] ≡ None
  unfolding pending_of
  no_entry = refl

  pub all_blank : (old new : TableDevs D) → vaults.Leaves state images (chunks.vault_of old.chunks) (chunks.vault_of new.chunks) (λ l. chunks_of l ≡ chunks_of [])
      → vaults.Leaves state images (rows.vault_of old.rows) (rows.vault_of new.rows) (λ l. data_of l ≡ data_of [])
      → vaults.Leaves state images (logs.vault_of old.log) (logs.vault_of new.log) (λ l. pending_of l ≡ pending_of [])
      → DevsLeave state images old new (λ d. d ≡ nothing)
  all_blank old new a b c =
      leave state images only_now old new (λ here. here ≡ chunks_of []) (λ here. here ≡ data_of []) (λ here. here ≡ pending_of []) (λ d. d ≡ nothing) a b c
      (λ x y z px py pz. let p : x ≡ [] = px ∙ no_chunks in let q : y ≡ nothing_held = py ∙ no_rows in let r : z ≡ None = pz ∙ no_entry in cc)

  pub blank_rows : (dev : RowDev D) → IsBlank state (rows.vault_of dev) → vaults.Leaves state images (rows.vault_of dev) (rows.vault_of dev) (λ l. data_of l ≡ data_of [])
  blank_rows dev blank = runs_weaker state images (rows.vault_of dev) (rows.vault_of dev) (λ l. l ≡ []) (λ l. data_of l ≡ data_of []) (blank_leaves (rows.vault_of dev) blank) (λ l is. ap data_of is)

  pub blank_log : (dev : StatusLog D) → IsBlank state (logs.vault_of dev) → vaults.Leaves state images (logs.vault_of dev) (logs.vault_of dev) (λ l. pending_of l ≡ pending_of [])
  blank_log dev blank = runs_weaker state images (logs.vault_of dev) (logs.vault_of dev) (λ l. l ≡ []) (λ l. pending_of l ≡ pending_of []) (blank_leaves (logs.vault_of dev) blank) (λ l is. ap pending_of is)

  pub one_blank : (old new : TableDevs D) → new.rows ≡ old.rows → new.log ≡ old.log → AreBlank state old
      → vaults.Leaves state images (chunks.vault_of old.chunks) (chunks.vault_of new.chunks) (λ l. chunks_of l ≡ chunks_of []) → DevsLeave state images old new (λ d. d ≡ nothing)
  one_blank old new rs ls blank a = all_blank old new a (rw rs (blank_rows old.rows blank.rows)) (rw ls (blank_log old.log blank.log))

  pub two_blank : (old new : TableDevs D) → new.log ≡ old.log → AreBlank state old
      → vaults.Leaves state images (chunks.vault_of old.chunks) (chunks.vault_of new.chunks) (λ l. chunks_of l ≡ chunks_of [])
      → vaults.Leaves state images (rows.vault_of old.rows) (rows.vault_of new.rows) (λ l. data_of l ≡ data_of [])
      → DevsLeave state images old new (λ d. d ≡ nothing)
  two_blank old new ls blank a b = all_blank old new a b (rw ls (blank_log old.log blank.log))

  pub all_empty : (c : List (ChunkName × List ℕ)) (h : TableData) (p : Option Entry) → c ≡ chunks_of [] → h ≡ data_of [] → p ≡ pending_of [] → made c h p ≡ nothing
  all_empty c h p px py pz = let a : c ≡ [] = px ∙ no_chunks in let b : h ≡ nothing_held = py ∙ no_rows in let e : p ≡ None = pz ∙ no_entry in cc

  -- opened devices are at rest
  pub all_opened : (table : TableDevs D) → chunks.IsOpened state table.chunks → rows.IsOpened state table.rows → logs.IsOpened state table.log → chunks.HasRoom state table.chunks 0 0 0
      → rows.HasRoom state table.rows 0 0 0 → logs.HasRoom state table.log 0 0 0 → IsReady state table []
  all_opened table a b c x y z = record {
    may = tt;
    chunk_looked = record { vault = a.vault.looked; memory = a.memory };
    chunk_sound = opened_sound state (chunks.vault_of table.chunks) a.vault;
    chunk_is_opened = a;
    chunk_room = x;
    row_looked = record { vault = b.vault.looked; memory = b.memory };
    row_sound = opened_sound state (rows.vault_of table.rows) b.vault;
    row_is_opened = b;
    row_room = y;
    log_looked = record { vault = c.vault.looked; memory = c.memory };
    log_sound = opened_sound state (logs.vault_of table.log) c.vault;
    log_is_opened = c;
    log_room = z;
  }

  -- and so they are with room for an opening each
  pub at_rest : (table : TableDevs D) → chunks.IsOpened state table.chunks → rows.IsOpened state table.rows → logs.IsOpened state table.log → chunks.HasRoom state table.chunks 1 0 0
      → rows.HasRoom state table.rows 1 0 0 → logs.HasRoom state table.log 1 0 0 → IsReady state table []
  at_rest table a b c x y z =
      all_opened table a b c
      (record { vault = less_room state (chunks.vault_of table.chunks) 1 0 0 0 0 0 (omega arith) (omega arith) (omega arith) x.vault; memory = x.memory; payload = x.payload })
      (record { vault = less_room state (rows.vault_of table.rows) 1 0 0 0 0 0 (omega arith) (omega arith) (omega arith) y.vault; memory = y.memory; payload = y.payload })
      (record { vault = less_room state (logs.vault_of table.log) 1 0 0 0 0 0 (omega arith) (omega arith) (omega arith) z.vault; memory = z.memory; payload = z.payload })
