-- A device whose room or fuse was changed is ready for what it was ready for.
use Rattle.std.proofs.Common.{◌≡◌, ℕ, List, [], ◌∷◌, refl, sym, ap, subst}
use Rattle.disk_trait.specs.Image.{IsImage}
use Rattle.disk_trait.proofs.Images.{settled_only}
use Rattle.disk_trait.proofs.Moments.{started}
use Rattle.disk_trait.specs.Calls.{DiskState}
use Rattle.vault.specs.File.{StandsForOne}
use Rattle.vault.specs.declared.vault.Vault.{Vault}
use Rattle.vault.specs.Standing.{payloads, IsUp, IsSound, IsSynced}
use Rattle.vault.specs.Standing as vaults
use Rattle.vault.proofs.Uppers.{runs_weaker}
use Rattle.stab_base.specs.declared.chunk_name.ChunkName.{ChunkName}
use Rattle.chunk_store.specs.declared.device.ChunkDev.{ChunkDev}
use Rattle.chunk_store.specs.Payload.{chunks_of}
use Rattle.chunk_store.specs.Standing as chunks
use Rattle.slot_store.specs.declared.device.SlotDev.{SlotDev}
use Rattle.slot_store.specs.Data.{SlotData, data_of}
use Rattle.slot_store.specs.Standing as slots
use Rattle.plan_log.specs.declared.device.PlanLog.{PlanLog}
use Rattle.plan_log.specs.Journal.{Journal as Planned, journal_of}
use Rattle.plan_log.specs.Standing as journals
use Rattle.client_journal.specs.declared.devs.Journal.{Journal}
use Rattle.client_journal.specs.Devs.{ClientDevs, Write, OpenJournal, OpenSlots, OpenChunks, PutIntend, PutChunk, PutCommit, PutSlots, PutRecord, DropChunk, PutDone}
use Rattle.client_journal.specs.Standing.{devs, AreUp, AreSynced, AreSound, IsReady, DevsLeave, MayDoAll, chunk_opens, chunk_puts, chunk_bytes, slot_opens, slot_puts, slot_bytes, journal_opens, journal_puts}
use Rattle.client_journal.specs.Standing.{journal_bytes, chunk_opened, slot_opened, journal_opened}
use Rattle.client_journal.proofs.Works.{all_same}

-- ---- an opened device stays opened

chunk_more : (P Q : Type 0) → (P → Q) → (ws : List Write) → chunk_opened P ws → chunk_opened Q ws
chunk_more P Q to [] h = to h
chunk_more P Q to (OpenJournal ∷ ws) h = chunk_more P Q to ws h
chunk_more P Q to (OpenSlots ∷ ws) h = chunk_more P Q to ws h
chunk_more P Q to (OpenChunks ∷ ws) h = tt
chunk_more P Q to (PutIntend intend ∷ ws) h = chunk_more P Q to ws h
chunk_more P Q to (PutChunk name bytes ∷ ws) h = to h
chunk_more P Q to (PutCommit commit ∷ ws) h = chunk_more P Q to ws h
chunk_more P Q to (PutSlots row ∷ ws) h = chunk_more P Q to ws h
chunk_more P Q to (PutRecord table ∷ ws) h = chunk_more P Q to ws h
chunk_more P Q to (DropChunk name ∷ ws) h = to h
chunk_more P Q to (PutDone ∷ ws) h = chunk_more P Q to ws h

slot_more : (P Q : Type 0) → (P → Q) → (ws : List Write) → slot_opened P ws → slot_opened Q ws
slot_more P Q to [] h = to h
slot_more P Q to (OpenJournal ∷ ws) h = slot_more P Q to ws h
slot_more P Q to (OpenSlots ∷ ws) h = tt
slot_more P Q to (OpenChunks ∷ ws) h = slot_more P Q to ws h
slot_more P Q to (PutIntend intend ∷ ws) h = slot_more P Q to ws h
slot_more P Q to (PutChunk name bytes ∷ ws) h = slot_more P Q to ws h
slot_more P Q to (PutCommit commit ∷ ws) h = slot_more P Q to ws h
slot_more P Q to (PutSlots row ∷ ws) h = to h
slot_more P Q to (PutRecord table ∷ ws) h = to h
slot_more P Q to (DropChunk name ∷ ws) h = slot_more P Q to ws h
slot_more P Q to (PutDone ∷ ws) h = slot_more P Q to ws h

journal_more : (P Q : Type 0) → (P → Q) → (ws : List Write) → journal_opened P ws → journal_opened Q ws
journal_more P Q to [] h = to h
journal_more P Q to (OpenJournal ∷ ws) h = tt
journal_more P Q to (OpenSlots ∷ ws) h = journal_more P Q to ws h
journal_more P Q to (OpenChunks ∷ ws) h = journal_more P Q to ws h
journal_more P Q to (PutIntend intend ∷ ws) h = to h
journal_more P Q to (PutChunk name bytes ∷ ws) h = journal_more P Q to ws h
journal_more P Q to (PutCommit commit ∷ ws) h = to h
journal_more P Q to (PutSlots row ∷ ws) h = journal_more P Q to ws h
journal_more P Q to (PutRecord table ∷ ws) h = journal_more P Q to ws h
journal_more P Q to (DropChunk name ∷ ws) h = journal_more P Q to ws h
journal_more P Q to (PutDone ∷ ws) h = to h

-- ---- ready for the same writes

module _ {D : Type 0} (state : D → DiskState) (old : Journal D) (ws : List Write) (r : IsReady state old ws) where
  pub chunk_still_ready : (dev : ChunkDev D) → chunks.Stays state old.chunks dev → IsReady state (record old { chunks = dev }) ws
  chunk_still_ready dev k =
      let same : devs state (record old { chunks = dev }) ≡ devs state old = ap (λ (y : List (ChunkName × List ℕ)). record { chunks = y; held = slots.held state old.slots; journal = journals.held state old.journal }) (ap chunks_of k.same) in
      record {
        may = subst (λ (e : ClientDevs). MayDoAll e ws) (sym same) r.may;
        chunk_looked = k.looked r.chunk_looked;
        chunk_sound = k.sound r.chunk_sound;
        chunk_is_opened = chunk_more (chunks.IsOpened state old.chunks) (chunks.IsOpened state dev) k.opened ws r.chunk_is_opened;
        chunk_room = k.room (chunk_opens ws) (chunk_puts ws) (chunk_bytes ws) r.chunk_room;
        slot_looked = r.slot_looked;
        slot_sound = r.slot_sound;
        slot_is_opened = r.slot_is_opened;
        slot_room = r.slot_room;
        journal_looked = r.journal_looked;
        journal_sound = r.journal_sound;
        journal_is_opened = r.journal_is_opened;
        journal_room = r.journal_room;
      }

  pub slot_still_ready : (dev : SlotDev D) → slots.Stays state old.slots dev → IsReady state (record old { slots = dev }) ws
  slot_still_ready dev k =
      let same : devs state (record old { slots = dev }) ≡ devs state old = ap (λ (y : SlotData). record { chunks = chunks.chunks state old.chunks; held = y; journal = journals.held state old.journal }) (ap data_of k.same) in
      record {
        may = subst (λ (e : ClientDevs). MayDoAll e ws) (sym same) r.may;
        slot_looked = k.looked r.slot_looked;
        slot_sound = k.sound r.slot_sound;
        slot_is_opened = slot_more (slots.IsOpened state old.slots) (slots.IsOpened state dev) k.opened ws r.slot_is_opened;
        slot_room = k.room (slot_opens ws) (slot_puts ws) (slot_bytes ws) r.slot_room;
        chunk_looked = r.chunk_looked;
        chunk_sound = r.chunk_sound;
        chunk_is_opened = r.chunk_is_opened;
        chunk_room = r.chunk_room;
        journal_looked = r.journal_looked;
        journal_sound = r.journal_sound;
        journal_is_opened = r.journal_is_opened;
        journal_room = r.journal_room;
      }

  pub journal_still_ready : (dev : PlanLog D) → journals.Stays state old.journal dev → IsReady state (record old { journal = dev }) ws
  journal_still_ready dev k =
      let same : devs state (record old { journal = dev }) ≡ devs state old = ap (λ (y : Planned). record { chunks = chunks.chunks state old.chunks; held = slots.held state old.slots; journal = y }) (ap journal_of k.same) in
      record {
        may = subst (λ (e : ClientDevs). MayDoAll e ws) (sym same) r.may;
        journal_looked = k.looked r.journal_looked;
        journal_sound = k.sound r.journal_sound;
        journal_is_opened = journal_more (journals.IsOpened state old.journal) (journals.IsOpened state dev) k.opened ws r.journal_is_opened;
        journal_room = k.room (journal_opens ws) (journal_puts ws) (journal_bytes ws) r.journal_room;
        chunk_looked = r.chunk_looked;
        chunk_sound = r.chunk_sound;
        chunk_is_opened = r.chunk_is_opened;
        chunk_room = r.chunk_room;
        slot_looked = r.slot_looked;
        slot_sound = r.slot_sound;
        slot_is_opened = r.slot_is_opened;
        slot_room = r.slot_room;
      }

-- ---- a crash leaves the same

module _ {D : Type 0} (state : D → DiskState) (images : D → ℕ → List ℕ → Type 0) (only_now : (disk : D) (image : List ℕ) → images disk (state disk).moment image → IsImage (state disk).pending image) where
  synced_leaves : (vault : Vault D) → IsUp vault → IsSynced state vault → IsSound state vault → vaults.Leaves state images vault vault (λ list. list ≡ payloads state vault)
  synced_leaves vault up synced sound =
      let file = (state (vaults.disk_of vault)).seen in
      let P : List ℕ → Type 0 = StandsForOne (λ list. list ≡ payloads state vault) in
      let here : P file = (payloads state vault, sound, refl) in
      started state images (vaults.disk_of vault) P (λ image left. subst P (sym (settled_only file image (subst (λ q. IsImage q image) (synced up) (only_now (vaults.disk_of vault) image left)))) here)

  module _ (old : Journal D) (up : AreUp old) (synced : AreSynced state old) (sound : AreSound state old) where
    chunk_leaves : vaults.Leaves state images (chunks.vault_of old.chunks) (chunks.vault_of old.chunks) (λ l. chunks_of l ≡ chunks.chunks state old.chunks)
    chunk_leaves = runs_weaker state images (chunks.vault_of old.chunks) (chunks.vault_of old.chunks) (λ l. l ≡ payloads state (chunks.vault_of old.chunks)) (λ l. chunks_of l ≡ chunks.chunks state old.chunks) (synced_leaves (chunks.vault_of old.chunks) up.chunks synced.chunks sound.chunks) (λ l is. ap chunks_of is)

    slot_leaves : vaults.Leaves state images (slots.vault_of old.slots) (slots.vault_of old.slots) (λ l. data_of l ≡ slots.held state old.slots)
    slot_leaves = runs_weaker state images (slots.vault_of old.slots) (slots.vault_of old.slots) (λ l. l ≡ payloads state (slots.vault_of old.slots)) (λ l. data_of l ≡ slots.held state old.slots) (synced_leaves (slots.vault_of old.slots) up.slots synced.slots sound.slots) (λ l is. ap data_of is)

    journal_leaves : vaults.Leaves state images (journals.vault_of old.journal) (journals.vault_of old.journal) (λ l. journal_of l ≡ journals.held state old.journal)
    journal_leaves = runs_weaker state images (journals.vault_of old.journal) (journals.vault_of old.journal) (λ l. l ≡ payloads state (journals.vault_of old.journal)) (λ l. journal_of l ≡ journals.held state old.journal) (synced_leaves (journals.vault_of old.journal) up.journal synced.journal sound.journal) (λ l is. ap journal_of is)

    pub chunk_still_leaves : (dev : ChunkDev D) → vaults.Leaves state images (chunks.vault_of old.chunks) (chunks.vault_of dev) (λ l. chunks_of l ≡ chunks.chunks state old.chunks) → DevsLeave state images old (record old { chunks = dev }) (λ d. d ≡ devs state old)
    chunk_still_leaves dev k = let new : Journal D = record old { chunks = dev } in all_same state images only_now old new k slot_leaves journal_leaves

    pub slot_still_leaves : (dev : SlotDev D) → vaults.Leaves state images (slots.vault_of old.slots) (slots.vault_of dev) (λ l. data_of l ≡ slots.held state old.slots) → DevsLeave state images old (record old { slots = dev }) (λ d. d ≡ devs state old)
    slot_still_leaves dev k = let new : Journal D = record old { slots = dev } in all_same state images only_now old new chunk_leaves k journal_leaves

    pub journal_still_leaves : (dev : PlanLog D) → vaults.Leaves state images (journals.vault_of old.journal) (journals.vault_of dev) (λ l. journal_of l ≡ journals.held state old.journal) → DevsLeave state images old (record old { journal = dev }) (λ d. d ≡ devs state old)
    journal_still_leaves dev k = let new : Journal D = record old { journal = dev } in all_same state images only_now old new chunk_leaves slot_leaves k

    pub none_still_leaves : DevsLeave state images old old (λ d. d ≡ devs state old)
    none_still_leaves = all_same state images only_now old old chunk_leaves slot_leaves journal_leaves
