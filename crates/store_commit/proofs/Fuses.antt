-- A device whose room or fuse was changed is ready for what it was ready for.
use Rattle.std.proofs.Common.{◌≡◌, ℕ, List, [], ◌∷◌, Option, Some, None, refl, sym, ◌∙◌, ap, subst}
use Rattle.disk_trait.specs.Image.{IsImage, settled}
use Rattle.disk_trait.proofs.Images.{settled_only}
use Rattle.disk_trait.proofs.Moments.{started}
use Rattle.disk_trait.specs.Calls.{DiskState}
use Rattle.vault.specs.File.{StandsForOne}
use Rattle.vault.specs.declared.vault.Vault.{Vault}
use Rattle.vault.specs.Standing.{payloads, IsUp, IsSound, IsSynced}
use Rattle.vault.specs.Standing as vaults
use Rattle.vault.proofs.Uppers.{runs_weaker}
use Rattle.stab_base.specs.declared.chunk_name.ChunkName.{ChunkName}
use Rattle.chunk_store.specs.declared.device.ChunkDev.{ChunkDev}
use Rattle.chunk_store.specs.Payload.{chunks_of}
use Rattle.chunk_store.specs.Standing as chunks
use Rattle.row_store.specs.declared.device.RowDev.{RowDev}
use Rattle.row_store.specs.Data.{TableData, data_of}
use Rattle.row_store.specs.Standing as rows
use Rattle.status_log.specs.declared.device.StatusLog.{StatusLog}
use Rattle.status_log.specs.Entry.{Entry}
use Rattle.status_log.specs.Payload.{pending_of}
use Rattle.status_log.specs.Standing as logs
use Rattle.store_commit.specs.declared.devs.TableDevs.{TableDevs}
use Rattle.store_commit.specs.Devs.{Devs, Write, OpenChunks, OpenRows, OpenLog, OpenEntry, PutChunk, PutRow, DropChunk, CloseEntry, PutTable, PutSub}
use Rattle.store_commit.specs.Standing.{devs, AreUp, AreSynced, AreSound, IsReady, DevsLeave, MayDoAll, chunk_opens, chunk_puts, chunk_bytes, row_opens, row_puts, row_bytes, log_opens, log_puts}
use Rattle.store_commit.specs.Standing.{log_bytes, chunk_opened, row_opened, log_opened}
use Rattle.store_commit.proofs.Works.{all_same}

-- ---- an opened device stays opened

chunk_more : (P Q : Type 0) → (P → Q) → (ws : List Write) → chunk_opened P ws → chunk_opened Q ws
chunk_more P Q to [] h = to h
chunk_more P Q to (OpenChunks ∷ ws) h = tt
chunk_more P Q to (OpenRows ∷ ws) h = chunk_more P Q to ws h
chunk_more P Q to (OpenLog ∷ ws) h = chunk_more P Q to ws h
chunk_more P Q to (OpenEntry entry ∷ ws) h = chunk_more P Q to ws h
chunk_more P Q to (PutChunk name bytes ∷ ws) h = to h
chunk_more P Q to (PutRow stored ∷ ws) h = chunk_more P Q to ws h
chunk_more P Q to (DropChunk name ∷ ws) h = to h
chunk_more P Q to (CloseEntry ∷ ws) h = chunk_more P Q to ws h
chunk_more P Q to (PutTable schema state ∷ ws) h = chunk_more P Q to ws h
chunk_more P Q to (PutSub client terms ∷ ws) h = chunk_more P Q to ws h

row_more : (P Q : Type 0) → (P → Q) → (ws : List Write) → row_opened P ws → row_opened Q ws
row_more P Q to [] h = to h
row_more P Q to (OpenChunks ∷ ws) h = row_more P Q to ws h
row_more P Q to (OpenRows ∷ ws) h = tt
row_more P Q to (OpenLog ∷ ws) h = row_more P Q to ws h
row_more P Q to (OpenEntry entry ∷ ws) h = row_more P Q to ws h
row_more P Q to (PutChunk name bytes ∷ ws) h = row_more P Q to ws h
row_more P Q to (PutRow stored ∷ ws) h = to h
row_more P Q to (DropChunk name ∷ ws) h = row_more P Q to ws h
row_more P Q to (CloseEntry ∷ ws) h = row_more P Q to ws h
row_more P Q to (PutTable schema state ∷ ws) h = to h
row_more P Q to (PutSub client terms ∷ ws) h = to h

log_more : (P Q : Type 0) → (P → Q) → (ws : List Write) → log_opened P ws → log_opened Q ws
log_more P Q to [] h = to h
log_more P Q to (OpenChunks ∷ ws) h = log_more P Q to ws h
log_more P Q to (OpenRows ∷ ws) h = log_more P Q to ws h
log_more P Q to (OpenLog ∷ ws) h = tt
log_more P Q to (OpenEntry entry ∷ ws) h = to h
log_more P Q to (PutChunk name bytes ∷ ws) h = log_more P Q to ws h
log_more P Q to (PutRow stored ∷ ws) h = log_more P Q to ws h
log_more P Q to (DropChunk name ∷ ws) h = log_more P Q to ws h
log_more P Q to (CloseEntry ∷ ws) h = to h
log_more P Q to (PutTable schema state ∷ ws) h = log_more P Q to ws h
log_more P Q to (PutSub client terms ∷ ws) h = log_more P Q to ws h

-- ---- ready for the same writes

module _ {D : Type 0} (state : D → DiskState) (old : TableDevs D) (ws : List Write) (r : IsReady state old ws) where
  pub chunk_still_ready : (dev : ChunkDev D) → chunks.Stays state old.chunks dev → IsReady state (record old { chunks = dev }) ws
  chunk_still_ready dev k =
      let same : devs state (record old { chunks = dev }) ≡ devs state old = ap (λ (y : List (ChunkName × List ℕ)). record { chunks = y; held = rows.held state old.rows; pending = logs.entry_open state old.log }) (ap chunks_of k.same) in
      record {
        may = subst (λ (e : Devs). MayDoAll e ws) (sym same) r.may;
        chunk_looked = k.looked r.chunk_looked;
        chunk_sound = k.sound r.chunk_sound;
        chunk_is_opened = chunk_more (chunks.IsOpened state old.chunks) (chunks.IsOpened state dev) k.opened ws r.chunk_is_opened;
        chunk_room = k.room (chunk_opens ws) (chunk_puts ws) (chunk_bytes ws) r.chunk_room;
        row_looked = r.row_looked;
        row_sound = r.row_sound;
        row_is_opened = r.row_is_opened;
        row_room = r.row_room;
        log_looked = r.log_looked;
        log_sound = r.log_sound;
        log_is_opened = r.log_is_opened;
        log_room = r.log_room;
      }

  pub row_still_ready : (dev : RowDev D) → rows.Stays state old.rows dev → IsReady state (record old { rows = dev }) ws
  row_still_ready dev k =
      let same : devs state (record old { rows = dev }) ≡ devs state old = ap (λ (y : TableData). record { chunks = chunks.chunks state old.chunks; held = y; pending = logs.entry_open state old.log }) (ap data_of k.same) in
      record {
        may = subst (λ (e : Devs). MayDoAll e ws) (sym same) r.may;
        row_looked = k.looked r.row_looked;
        row_sound = k.sound r.row_sound;
        row_is_opened = row_more (rows.IsOpened state old.rows) (rows.IsOpened state dev) k.opened ws r.row_is_opened;
        row_room = k.room (row_opens ws) (row_puts ws) (row_bytes ws) r.row_room;
        chunk_looked = r.chunk_looked;
        chunk_sound = r.chunk_sound;
        chunk_is_opened = r.chunk_is_opened;
        chunk_room = r.chunk_room;
        log_looked = r.log_looked;
        log_sound = r.log_sound;
        log_is_opened = r.log_is_opened;
        log_room = r.log_room;
      }

  pub log_still_ready : (dev : StatusLog D) → logs.Stays state old.log dev → IsReady state (record old { log = dev }) ws
  log_still_ready dev k =
      let same : devs state (record old { log = dev }) ≡ devs state old = ap (λ (y : Option Entry). record { chunks = chunks.chunks state old.chunks; held = rows.held state old.rows; pending = y }) (ap pending_of k.same) in
      record {
        may = subst (λ (e : Devs). MayDoAll e ws) (sym same) r.may;
        log_looked = k.looked r.log_looked;
        log_sound = k.sound r.log_sound;
        log_is_opened = log_more (logs.IsOpened state old.log) (logs.IsOpened state dev) k.opened ws r.log_is_opened;
        log_room = k.room (log_opens ws) (log_puts ws) (log_bytes ws) r.log_room;
        chunk_looked = r.chunk_looked;
        chunk_sound = r.chunk_sound;
        chunk_is_opened = r.chunk_is_opened;
        chunk_room = r.chunk_room;
        row_looked = r.row_looked;
        row_sound = r.row_sound;
        row_is_opened = r.row_is_opened;
        row_room = r.row_room;
      }

-- ---- a crash leaves the same

module _ {D : Type 0} (state : D → DiskState) (images : D → ℕ → List ℕ → Type 0) (only_now : (disk : D) (image : List ℕ) → images disk (state disk).moment image → IsImage (state disk).pending image) where
  synced_leaves : (vault : Vault D) → IsUp vault → IsSynced state vault → IsSound state vault → vaults.Leaves state images vault vault (λ list. list ≡ payloads state vault)
  synced_leaves vault up synced sound =
      let file = (state (vaults.disk_of vault)).seen in
      let P : List ℕ → Type 0 = StandsForOne (λ list. list ≡ payloads state vault) in
      let here : P file = (payloads state vault, sound, refl) in
      started state images (vaults.disk_of vault) P (λ image left. subst P (sym (settled_only file image (subst (λ q. IsImage q image) (synced up) (only_now (vaults.disk_of vault) image left)))) here)

  module _ (old : TableDevs D) (up : AreUp old) (synced : AreSynced state old) (sound : AreSound state old) where
    chunk_leaves : vaults.Leaves state images (chunks.vault_of old.chunks) (chunks.vault_of old.chunks) (λ l. chunks_of l ≡ chunks.chunks state old.chunks)
    chunk_leaves = runs_weaker state images (chunks.vault_of old.chunks) (chunks.vault_of old.chunks) (λ l. l ≡ payloads state (chunks.vault_of old.chunks)) (λ l. chunks_of l ≡ chunks.chunks state old.chunks) (synced_leaves (chunks.vault_of old.chunks) up.chunks synced.chunks sound.chunks) (λ l is. ap chunks_of is)

    pub row_leaves : vaults.Leaves state images (rows.vault_of old.rows) (rows.vault_of old.rows) (λ l. data_of l ≡ rows.held state old.rows)
    row_leaves = runs_weaker state images (rows.vault_of old.rows) (rows.vault_of old.rows) (λ l. l ≡ payloads state (rows.vault_of old.rows)) (λ l. data_of l ≡ rows.held state old.rows) (synced_leaves (rows.vault_of old.rows) up.rows synced.rows sound.rows) (λ l is. ap data_of is)

    log_leaves : vaults.Leaves state images (logs.vault_of old.log) (logs.vault_of old.log) (λ l. pending_of l ≡ logs.entry_open state old.log)
    log_leaves = runs_weaker state images (logs.vault_of old.log) (logs.vault_of old.log) (λ l. l ≡ payloads state (logs.vault_of old.log)) (λ l. pending_of l ≡ logs.entry_open state old.log) (synced_leaves (logs.vault_of old.log) up.log synced.log sound.log) (λ l is. ap pending_of is)

    pub chunk_still_leaves : (dev : ChunkDev D) → vaults.Leaves state images (chunks.vault_of old.chunks) (chunks.vault_of dev) (λ l. chunks_of l ≡ chunks.chunks state old.chunks) → DevsLeave state images old (record old { chunks = dev }) (λ d. d ≡ devs state old)
    chunk_still_leaves dev k = let new : TableDevs D = record old { chunks = dev } in all_same state images only_now old new k row_leaves log_leaves

    pub row_still_leaves : (dev : RowDev D) → vaults.Leaves state images (rows.vault_of old.rows) (rows.vault_of dev) (λ l. data_of l ≡ rows.held state old.rows) → DevsLeave state images old (record old { rows = dev }) (λ d. d ≡ devs state old)
    row_still_leaves dev k = let new : TableDevs D = record old { rows = dev } in all_same state images only_now old new chunk_leaves k log_leaves

    pub log_still_leaves : (dev : StatusLog D) → vaults.Leaves state images (logs.vault_of old.log) (logs.vault_of dev) (λ l. pending_of l ≡ logs.entry_open state old.log) → DevsLeave state images old (record old { log = dev }) (λ d. d ≡ devs state old)
    log_still_leaves dev k = let new : TableDevs D = record old { log = dev } in all_same state images only_now old new chunk_leaves row_leaves k

    pub none_still_leaves : DevsLeave state images old old (λ d. d ≡ devs state old)
    none_still_leaves = all_same state images only_now old old chunk_leaves row_leaves log_leaves
