-- What one write does to the three devices, from what it does to its own.
use Rattle.std.proofs.Common.{◌≡◌, inl, inr, ⊎_elim, ℕ, ◌+◌, ◌<◌, ◌≤◌, true, List, [], ◌∷◌, length, Result, Ok, Err, refl, sym, ◌∙◌, ap, subst, arith}
use Rattle.std.specs.Prelude.{IsErrOf}
use Rattle.std.specs.BTreeMap.{insert_entry}
use Rattle.disk_trait.specs.Image.{IsImage, settled}
use Rattle.disk_trait.proofs.Images.{settled_only}
use Rattle.disk_trait.proofs.Moments.{started}
use Rattle.vault.specs.File.{StandsForOne}
use Rattle.vault.proofs.Lists.{stands_at}
use Rattle.disk_trait.specs.Calls.{DiskState}
use Rattle.vault.specs.declared.fault.VaultFault.{VaultFault}
use Rattle.vault.specs.declared.fault.VaultFault.TheVariants as causes
use Rattle.vault.specs.declared.vault.Vault.{Vault}
use Rattle.vault.specs.Standing.{payloads, faults, stops, disk_of, IsUp, IsDown, IsSound, IsSynced, IsBlank, StopsWithin}
use Rattle.vault.specs.Standing as vaults
use Rattle.vault.specs.Calls.{IsEither, Refuses, RefusesOnly}
use Rattle.vault.proofs.Uppers.{opened_sound, less_room, runs_weaker}
use Rattle.vault.proofs.Stayings.{looked_leaves}
use Rattle.stab_base.specs.declared.chunk_name.ChunkName.{ChunkName}
use Rattle.held_value.specs.declared.local_name.LocalName.{LocalName}
use Rattle.spare_map.specs.Late.{without}
use Rattle.chunk_store.specs.declared.device.ChunkDev.{ChunkDev}
use Rattle.chunk_store.specs.declared.fault.ChunkFault.{ChunkFault}
use Rattle.chunk_store.specs.Fault.{fault_of as chunk_fault}
use Rattle.chunk_store.specs.Payload.{name_cmp, chunks_of}
use Rattle.chunk_store.specs.Standing as chunks
use Rattle.slot_store.specs.declared.device.SlotDev.{SlotDev}
use Rattle.slot_store.specs.declared.fault.SlotFault.{SlotFault}
use Rattle.slot_store.specs.declared.held.RowSlots.{RowSlots}
use Rattle.slot_store.specs.Fault.{fault_of as slot_fault}
use Rattle.slot_store.specs.Spelling.{row_payload, record_payload}
use Rattle.slot_store.specs.declared.held.TableRecord.{TableRecord}
use Rattle.slot_store.specs.Data.{SlotData, with_slots, with_record, data_of, nothing_held}
use Rattle.slot_store.specs.Standing as slots
use Rattle.plan_log.specs.declared.device.PlanLog.{PlanLog}
use Rattle.plan_log.specs.declared.fault.PlanFault.{PlanFault}
use Rattle.plan_log.specs.Fault.{fault_of as journal_fault}
use Rattle.plan_log.specs.declared.plan.Intend.{Intend}
use Rattle.plan_log.specs.declared.plan.Commit.{Commit}
use Rattle.plan_log.specs.Spelling.{commit_payload}
use Rattle.plan_log.specs.Journal.{Journal as Planned, journal_of, nothing_planned, with_intend, with_commit, with_done}
use Rattle.plan_log.specs.Standing as journals
use Rattle.client_journal.specs.declared.devs.Journal.{Journal}
use Rattle.client_journal.specs.declared.fused.Device.{Device}
use Rattle.client_journal.specs.declared.fused.Device.TheVariants as devices
use Rattle.client_journal.specs.Fault.{disk_or}
use Rattle.client_journal.specs.declared.fault.JournalFault.{JournalFault}
use Rattle.client_journal.specs.declared.fault.JournalFault.TheVariants.{Disk, Down}
use Rattle.client_journal.specs.Devs.{ClientDevs, Write, OpenJournal, OpenSlots, OpenChunks, PutIntend, PutChunk, PutCommit, PutSlots, PutRecord, DropChunk, PutDone, changed_by, IsBeforeOrAfter, chunk_of}
use Rattle.client_journal.specs.Fused.{vault_at, device_of}
use Rattle.client_journal.specs.Standing.{devs, all_stops, AreUp, IsOneDown, chunk_opens, chunk_puts, chunk_bytes, slot_opens, slot_puts, slot_bytes, journal_opens, journal_puts, journal_bytes, chunk_opened, slot_opened}
use Rattle.client_journal.specs.Standing.{journal_opened, MayDoAll, IsReady, DevsLeave, Works, AreSound, AreSynced, AreBlank, nothing}

-- a device that is up and takes no memory fails by its disk alone
must_be_disk : {D X T E : Type 0} (state : D → DiskState) (fault : VaultFault → E) (old new : Vault D) (before after : X) (x : E) → Refuses {T = T} state fault old new before after (Err x) → RefusesOnly {T = T} fault (Err x) → (IsErrOf {T = T} (Err x) (fault causes.Memory) → ⊥) → IsUp old
    → IsDown new × (faults state old < faults state new)
must_be_disk state fault old new before after x refuses only no_memory up = pick only.0 only.1
  where
    pick : (c : VaultFault) → x ≡ fault c → IsDown new × (faults state old < faults state new)
    pick causes.Disk same = (refuses.disk (ap (λ e. Err e) same), refuses.cause.0 same)
    pick causes.Down same = let is_down : IsDown old = refuses.down.0 (ap (λ e. Err e) same) in absurd cc
    pick causes.Memory same = absurd (no_memory (ap (λ e. Err e) same))

-- what is opened needs no opening
pub all_chunk : (opened : Type 0) (ws : List Write) → opened → chunk_opened opened ws
all_chunk opened [] h = h
all_chunk opened (OpenJournal ∷ ws) h = all_chunk opened ws h
all_chunk opened (OpenSlots ∷ ws) h = all_chunk opened ws h
all_chunk opened (OpenChunks ∷ ws) h = tt
all_chunk opened (PutIntend intend ∷ ws) h = all_chunk opened ws h
all_chunk opened (PutChunk name bytes ∷ ws) h = h
all_chunk opened (PutCommit commit ∷ ws) h = all_chunk opened ws h
all_chunk opened (PutSlots row ∷ ws) h = all_chunk opened ws h
all_chunk opened (PutRecord table ∷ ws) h = all_chunk opened ws h
all_chunk opened (DropChunk name ∷ ws) h = h
all_chunk opened (PutDone ∷ ws) h = all_chunk opened ws h

-- what is opened needs no opening
pub all_slot : (opened : Type 0) (ws : List Write) → opened → slot_opened opened ws
all_slot opened [] h = h
all_slot opened (OpenJournal ∷ ws) h = all_slot opened ws h
all_slot opened (OpenSlots ∷ ws) h = tt
all_slot opened (OpenChunks ∷ ws) h = all_slot opened ws h
all_slot opened (PutIntend intend ∷ ws) h = all_slot opened ws h
all_slot opened (PutChunk name bytes ∷ ws) h = all_slot opened ws h
all_slot opened (PutCommit commit ∷ ws) h = all_slot opened ws h
all_slot opened (PutSlots row ∷ ws) h = h
all_slot opened (PutRecord table ∷ ws) h = h
all_slot opened (DropChunk name ∷ ws) h = all_slot opened ws h
all_slot opened (PutDone ∷ ws) h = all_slot opened ws h

-- what is opened needs no opening
pub all_journal : (opened : Type 0) (ws : List Write) → opened → journal_opened opened ws
all_journal opened [] h = h
all_journal opened (OpenJournal ∷ ws) h = tt
all_journal opened (OpenSlots ∷ ws) h = all_journal opened ws h
all_journal opened (OpenChunks ∷ ws) h = all_journal opened ws h
all_journal opened (PutIntend intend ∷ ws) h = h
all_journal opened (PutChunk name bytes ∷ ws) h = all_journal opened ws h
all_journal opened (PutCommit commit ∷ ws) h = h
all_journal opened (PutSlots row ∷ ws) h = all_journal opened ws h
all_journal opened (PutRecord table ∷ ws) h = all_journal opened ws h
all_journal opened (DropChunk name ∷ ws) h = all_journal opened ws h
all_journal opened (PutDone ∷ ws) h = h

module _ {D : Type 0} (state : D → DiskState) (images : D → ℕ → List ℕ → Type 0) (only_now : (disk : D) (image : List ℕ) → images disk (state disk).moment image → IsImage (state disk).pending image) where
  leave : (old new : Journal D) (P : List (ChunkName × List ℕ) → Type 0) (Q : SlotData → Type 0) (S : Planned → Type 0) (R : ClientDevs → Type 0)
      → vaults.Leaves state images (chunks.vault_of old.chunks) (chunks.vault_of new.chunks) (λ l. P (chunks_of l))
      → vaults.Leaves state images (slots.vault_of old.slots) (slots.vault_of new.slots) (λ l. Q (data_of l))
      → vaults.Leaves state images (journals.vault_of old.journal) (journals.vault_of new.journal) (λ l. S (journal_of l))
      → ((c : List (ChunkName × List ℕ)) (h : SlotData) (p : Planned) → P c → Q h → S p → R (record { chunks = c; held = h; journal = p })) → DevsLeave state images old new R
  leave old new P Q S R a b c to = record {
    each = λ x y z ix iy iz.
        let x' = a.each x ix in
        let y' = b.each y iy in
        let z' = c.each z iz in
        (x'.0, y'.0, z'.0, x'.1, y'.1, z'.1, to (chunks_of x'.0) (data_of y'.0) (journal_of z'.0) x'.2 y'.2 z'.2);
    later = record { chunks = a.later; slots = b.later; journal = c.later };
  }

  pub still_chunk : (dev : ChunkDev D) → vaults.IsLookedAt state (chunks.vault_of dev) → IsSound state (chunks.vault_of dev)
      → vaults.Leaves state images (chunks.vault_of dev) (chunks.vault_of dev) (λ l. chunks_of l ≡ chunks.chunks state dev)
  still_chunk dev looked sound = runs_weaker state images (chunks.vault_of dev) (chunks.vault_of dev) (λ l. l ≡ payloads state (chunks.vault_of dev)) (λ l. chunks_of l ≡ chunks.chunks state dev) (looked_leaves state images only_now (chunks.vault_of dev) looked sound) (λ l is. ap chunks_of is)

  pub still_slot : (dev : SlotDev D) → vaults.IsLookedAt state (slots.vault_of dev) → IsSound state (slots.vault_of dev)
      → vaults.Leaves state images (slots.vault_of dev) (slots.vault_of dev) (λ l. data_of l ≡ slots.held state dev)
  still_slot dev looked sound = runs_weaker state images (slots.vault_of dev) (slots.vault_of dev) (λ l. l ≡ payloads state (slots.vault_of dev)) (λ l. data_of l ≡ slots.held state dev) (looked_leaves state images only_now (slots.vault_of dev) looked sound) (λ l is. ap data_of is)

  pub still_journal : (dev : PlanLog D) → vaults.IsLookedAt state (journals.vault_of dev) → IsSound state (journals.vault_of dev)
      → vaults.Leaves state images (journals.vault_of dev) (journals.vault_of dev) (λ l. journal_of l ≡ journals.held state dev)
  still_journal dev looked sound = runs_weaker state images (journals.vault_of dev) (journals.vault_of dev) (λ l. l ≡ payloads state (journals.vault_of dev)) (λ l. journal_of l ≡ journals.held state dev) (looked_leaves state images only_now (journals.vault_of dev) looked sound) (λ l is. ap journal_of is)

  pub all_same : (old new : Journal D) → vaults.Leaves state images (chunks.vault_of old.chunks) (chunks.vault_of new.chunks) (λ l. chunks_of l ≡ chunks.chunks state old.chunks)
      → vaults.Leaves state images (slots.vault_of old.slots) (slots.vault_of new.slots) (λ l. data_of l ≡ slots.held state old.slots)
      → vaults.Leaves state images (journals.vault_of old.journal) (journals.vault_of new.journal) (λ l. journal_of l ≡ journals.held state old.journal)
      → DevsLeave state images old new (λ d. d ≡ devs state old)
  all_same old new a b c = leave old new (λ here. here ≡ chunks.chunks state old.chunks) (λ here. here ≡ slots.held state old.slots) (λ here. here ≡ journals.held state old.journal) (λ d. d ≡ devs state old) a b c (λ x y z px py pz. cc)

  -- a write of the chunks: what stands where it is undone, and what a fuse that lets four calls pass stops
  module _ (old : Journal D) (dev : ChunkDev D) where
    chunk_late : {T E : Type 0} (r : Result T E) → vaults.Burns state 4 (chunks.vault_of old.chunks) (chunks.vault_of dev) r → (state (disk_of (chunks.vault_of old.chunks))).is_armed ≡ true → 4 ≤ (state (disk_of (chunks.vault_of old.chunks))).passes
        → all_stops state (record old { chunks = dev }) ≡ all_stops state old
    chunk_late r b armed passes = ap (λ (n : ℕ). n + (stops state (slots.vault_of old.slots) + stops state (journals.vault_of old.journal))) (b.passed armed passes)

    chunk_undone : (ws : List Write) → IsReady state old ws → vaults.Leaves state images (chunks.vault_of old.chunks) (chunks.vault_of dev) (λ l. chunks_of l ≡ chunks.chunks state old.chunks) → DevsLeave state images old (record old { chunks = dev }) (λ d. d ≡ devs state old)
    chunk_undone ws ready k = let new : Journal D = record old { chunks = dev } in all_same old new k (still_slot old.slots ready.slot_looked.vault ready.slot_sound) (still_journal old.journal ready.journal_looked.vault ready.journal_sound)

  -- a write of the slots
  module _ (old : Journal D) (dev : SlotDev D) where
    slot_late : {T E : Type 0} (r : Result T E) → vaults.Burns state 4 (slots.vault_of old.slots) (slots.vault_of dev) r → (state (disk_of (slots.vault_of old.slots))).is_armed ≡ true → 4 ≤ (state (disk_of (slots.vault_of old.slots))).passes
        → all_stops state (record old { slots = dev }) ≡ all_stops state old
    slot_late r b armed passes = ap (λ (n : ℕ). stops state (chunks.vault_of old.chunks) + (n + stops state (journals.vault_of old.journal))) (b.passed armed passes)

    slot_undone : (ws : List Write) → IsReady state old ws → vaults.Leaves state images (slots.vault_of old.slots) (slots.vault_of dev) (λ l. data_of l ≡ slots.held state old.slots) → DevsLeave state images old (record old { slots = dev }) (λ d. d ≡ devs state old)
    slot_undone ws ready k = let new : Journal D = record old { slots = dev } in all_same old new (still_chunk old.chunks ready.chunk_looked.vault ready.chunk_sound) k (still_journal old.journal ready.journal_looked.vault ready.journal_sound)

  -- a write of the journal
  module _ (old : Journal D) (dev : PlanLog D) where
    journal_late : {T E : Type 0} (r : Result T E) → vaults.Burns state 4 (journals.vault_of old.journal) (journals.vault_of dev) r → (state (disk_of (journals.vault_of old.journal))).is_armed ≡ true → 4 ≤ (state (disk_of (journals.vault_of old.journal))).passes
        → all_stops state (record old { journal = dev }) ≡ all_stops state old
    journal_late r b armed passes = ap (λ (n : ℕ). stops state (chunks.vault_of old.chunks) + (stops state (slots.vault_of old.slots) + n)) (b.passed armed passes)

    journal_undone : (ws : List Write) → IsReady state old ws → vaults.Leaves state images (journals.vault_of old.journal) (journals.vault_of dev) (λ l. journal_of l ≡ journals.held state old.journal) → DevsLeave state images old (record old { journal = dev }) (λ d. d ≡ devs state old)
    journal_undone ws ready k = let new : Journal D = record old { journal = dev } in all_same old new (still_chunk old.chunks ready.chunk_looked.vault ready.chunk_sound) (still_slot old.slots ready.slot_looked.vault ready.slot_sound) k

  module _ (old : Journal D) (dev : PlanLog D) (ws : List Write) (up : AreUp old) (ready : IsReady state old (OpenJournal ∷ ws)) where
    open_journal_moment : (r : Result (Unit {0}) PlanFault) → journals.OpensWrite state images old.journal dev r → DevsLeave state images old (record old { journal = dev }) (IsBeforeOrAfter (devs state old) OpenJournal)
    open_journal_moment r k = let new : Journal D = record old { journal = dev } in leave old new (λ here. here ≡ chunks.chunks state old.chunks) (λ here. here ≡ slots.held state old.slots) (λ here. here ≡ journals.held state old.journal) (IsBeforeOrAfter (devs state old) OpenJournal) (still_chunk old.chunks ready.chunk_looked.vault ready.chunk_sound) (still_slot old.slots ready.slot_looked.vault ready.slot_sound) (k.any_moment up.journal ready.journal_sound) one
      where
        one : (c : List (ChunkName × List ℕ)) (h : SlotData) (p : Planned) → (c ≡ chunks.chunks state old.chunks) → (h ≡ slots.held state old.slots) → (p ≡ journals.held state old.journal) → IsBeforeOrAfter (devs state old) OpenJournal (record { chunks = c; held = h; journal = p })
        one c h p pc ph pp = inl cc

    pub open_journal_works : (r : Result (Unit {0}) PlanFault) → journals.OpensWrite state images old.journal dev r → Works state images OpenJournal ws old (record old { journal = dev }) (disk_or r)
    open_journal_works (Ok x) k =
        let same : devs state (record old { journal = dev }) ≡ changed_by (devs state old) OpenJournal = ap (λ (y : Planned). record { chunks = chunks.chunks state old.chunks; held = slots.held state old.slots; journal = y }) k.same in
        record {
          devs_are = same;
          ready = record {
            may = subst (λ (e : ClientDevs). MayDoAll e ws) (sym same) ready.may.1;
            journal_looked = record { vault = k.opened.vault.looked; memory = k.opened.memory };
            journal_sound = opened_sound state (journals.vault_of dev) k.opened.vault;
            journal_is_opened = all_journal (journals.IsOpened state dev) ws k.opened;
            journal_room = k.room (journal_opens ws) (journal_puts ws) (journal_bytes ws) ready.journal_room;
            chunk_looked = ready.chunk_looked;
            chunk_sound = ready.chunk_sound;
            chunk_is_opened = ready.chunk_is_opened;
            chunk_room = ready.chunk_room;
            slot_looked = ready.slot_looked;
            slot_sound = ready.slot_sound;
            slot_is_opened = ready.slot_is_opened;
            slot_room = ready.slot_room;
          };
          up = record { chunks = up.chunks; slots = up.slots; journal = k.opened.vault.looked.up };
          counted = omega (arith, k.refuses.cause);
          any_moment = open_journal_moment (Ok x) k;
          early = λ _. journal_undone old dev (OpenJournal ∷ ws) ready (k.any_moment up.journal ready.journal_sound);
          stopped = λ within. (k.fuse up.journal).stopped within.0 within.1;
          late = journal_late old dev {T = Unit {0}} {E = PlanFault} (Ok x) (k.fuse up.journal);
          disk = λ e is. absurd cc;
        }
    open_journal_works (Err x) k =
        let failed = must_be_disk {T = Unit {0}} state journal_fault (journals.vault_of old.journal) (journals.vault_of dev) old.journal dev x k.refuses k.only k.no_memory up.journal in
        record {
          devs_are = tt;
          ready = tt;
          up = tt;
          counted = tt;
          any_moment = open_journal_moment (Err x) k;
          early = λ _. journal_undone old dev (OpenJournal ∷ ws) ready (k.any_moment up.journal ready.journal_sound);
          stopped = λ _. tt;
          late = journal_late old dev {T = Unit {0}} {E = PlanFault} (Err x) (k.fuse up.journal);
          disk = λ e is. (cc, omega (arith, failed.1), inr (inr failed.0));
        }

  module _ (old : Journal D) (dev : SlotDev D) (ws : List Write) (up : AreUp old) (ready : IsReady state old (OpenSlots ∷ ws)) where
    open_slots_moment : (r : Result (Unit {0}) SlotFault) → slots.OpensWrite state images old.slots dev r → DevsLeave state images old (record old { slots = dev }) (IsBeforeOrAfter (devs state old) OpenSlots)
    open_slots_moment r k = let new : Journal D = record old { slots = dev } in leave old new (λ here. here ≡ chunks.chunks state old.chunks) (λ here. here ≡ slots.held state old.slots) (λ here. here ≡ journals.held state old.journal) (IsBeforeOrAfter (devs state old) OpenSlots) (still_chunk old.chunks ready.chunk_looked.vault ready.chunk_sound) (k.any_moment up.slots ready.slot_sound) (still_journal old.journal ready.journal_looked.vault ready.journal_sound) one
      where
        one : (c : List (ChunkName × List ℕ)) (h : SlotData) (p : Planned) → (c ≡ chunks.chunks state old.chunks) → (h ≡ slots.held state old.slots) → (p ≡ journals.held state old.journal) → IsBeforeOrAfter (devs state old) OpenSlots (record { chunks = c; held = h; journal = p })
        one c h p pc ph pp = inl cc

    pub open_slots_works : (r : Result (Unit {0}) SlotFault) → slots.OpensWrite state images old.slots dev r → Works state images OpenSlots ws old (record old { slots = dev }) (disk_or r)
    open_slots_works (Ok x) k =
        let same : devs state (record old { slots = dev }) ≡ changed_by (devs state old) OpenSlots = ap (λ (y : SlotData). record { chunks = chunks.chunks state old.chunks; held = y; journal = journals.held state old.journal }) k.same in
        record {
          devs_are = same;
          ready = record {
            may = subst (λ (e : ClientDevs). MayDoAll e ws) (sym same) ready.may.1;
            slot_looked = record { vault = k.opened.vault.looked; memory = k.opened.memory };
            slot_sound = opened_sound state (slots.vault_of dev) k.opened.vault;
            slot_is_opened = all_slot (slots.IsOpened state dev) ws k.opened;
            slot_room = k.room (slot_opens ws) (slot_puts ws) (slot_bytes ws) ready.slot_room;
            chunk_looked = ready.chunk_looked;
            chunk_sound = ready.chunk_sound;
            chunk_is_opened = ready.chunk_is_opened;
            chunk_room = ready.chunk_room;
            journal_looked = ready.journal_looked;
            journal_sound = ready.journal_sound;
            journal_is_opened = ready.journal_is_opened;
            journal_room = ready.journal_room;
          };
          up = record { chunks = up.chunks; slots = k.opened.vault.looked.up; journal = up.journal };
          counted = omega (arith, k.refuses.cause);
          any_moment = open_slots_moment (Ok x) k;
          early = λ _. slot_undone old dev (OpenSlots ∷ ws) ready (k.any_moment up.slots ready.slot_sound);
          stopped = λ within. (k.fuse up.slots).stopped within.0 within.1;
          late = slot_late old dev {T = Unit {0}} {E = SlotFault} (Ok x) (k.fuse up.slots);
          disk = λ e is. absurd cc;
        }
    open_slots_works (Err x) k =
        let failed = must_be_disk {T = Unit {0}} state slot_fault (slots.vault_of old.slots) (slots.vault_of dev) old.slots dev x k.refuses k.only k.no_memory up.slots in
        record {
          devs_are = tt;
          ready = tt;
          up = tt;
          counted = tt;
          any_moment = open_slots_moment (Err x) k;
          early = λ _. slot_undone old dev (OpenSlots ∷ ws) ready (k.any_moment up.slots ready.slot_sound);
          stopped = λ _. tt;
          late = slot_late old dev {T = Unit {0}} {E = SlotFault} (Err x) (k.fuse up.slots);
          disk = λ e is. (cc, omega (arith, failed.1), inr (inl failed.0));
        }

  module _ (old : Journal D) (dev : ChunkDev D) (ws : List Write) (up : AreUp old) (ready : IsReady state old (OpenChunks ∷ ws)) where
    open_chunks_moment : (r : Result (Unit {0}) ChunkFault) → chunks.OpensWrite state images old.chunks dev r → DevsLeave state images old (record old { chunks = dev }) (IsBeforeOrAfter (devs state old) OpenChunks)
    open_chunks_moment r k = let new : Journal D = record old { chunks = dev } in leave old new (λ here. here ≡ chunks.chunks state old.chunks) (λ here. here ≡ slots.held state old.slots) (λ here. here ≡ journals.held state old.journal) (IsBeforeOrAfter (devs state old) OpenChunks) (k.any_moment up.chunks ready.chunk_sound) (still_slot old.slots ready.slot_looked.vault ready.slot_sound) (still_journal old.journal ready.journal_looked.vault ready.journal_sound) one
      where
        one : (c : List (ChunkName × List ℕ)) (h : SlotData) (p : Planned) → (c ≡ chunks.chunks state old.chunks) → (h ≡ slots.held state old.slots) → (p ≡ journals.held state old.journal) → IsBeforeOrAfter (devs state old) OpenChunks (record { chunks = c; held = h; journal = p })
        one c h p pc ph pp = inl cc

    pub open_chunks_works : (r : Result (Unit {0}) ChunkFault) → chunks.OpensWrite state images old.chunks dev r → Works state images OpenChunks ws old (record old { chunks = dev }) (disk_or r)
    open_chunks_works (Ok x) k =
        let same : devs state (record old { chunks = dev }) ≡ changed_by (devs state old) OpenChunks = ap (λ (y : List (ChunkName × List ℕ)). record { chunks = y; held = slots.held state old.slots; journal = journals.held state old.journal }) k.same in
        record {
          devs_are = same;
          ready = record {
            may = subst (λ (e : ClientDevs). MayDoAll e ws) (sym same) ready.may.1;
            chunk_looked = record { vault = k.opened.vault.looked; memory = k.opened.memory };
            chunk_sound = opened_sound state (chunks.vault_of dev) k.opened.vault;
            chunk_is_opened = all_chunk (chunks.IsOpened state dev) ws k.opened;
            chunk_room = k.room (chunk_opens ws) (chunk_puts ws) (chunk_bytes ws) ready.chunk_room;
            slot_looked = ready.slot_looked;
            slot_sound = ready.slot_sound;
            slot_is_opened = ready.slot_is_opened;
            slot_room = ready.slot_room;
            journal_looked = ready.journal_looked;
            journal_sound = ready.journal_sound;
            journal_is_opened = ready.journal_is_opened;
            journal_room = ready.journal_room;
          };
          up = record { chunks = k.opened.vault.looked.up; slots = up.slots; journal = up.journal };
          counted = omega (arith, k.refuses.cause);
          any_moment = open_chunks_moment (Ok x) k;
          early = λ _. chunk_undone old dev (OpenChunks ∷ ws) ready (k.any_moment up.chunks ready.chunk_sound);
          stopped = λ within. (k.fuse up.chunks).stopped within.0 within.1;
          late = chunk_late old dev {T = Unit {0}} {E = ChunkFault} (Ok x) (k.fuse up.chunks);
          disk = λ e is. absurd cc;
        }
    open_chunks_works (Err x) k =
        let failed = must_be_disk {T = Unit {0}} state chunk_fault (chunks.vault_of old.chunks) (chunks.vault_of dev) old.chunks dev x k.refuses k.only k.no_memory up.chunks in
        record {
          devs_are = tt;
          ready = tt;
          up = tt;
          counted = tt;
          any_moment = open_chunks_moment (Err x) k;
          early = λ _. chunk_undone old dev (OpenChunks ∷ ws) ready (k.any_moment up.chunks ready.chunk_sound);
          stopped = λ _. tt;
          late = chunk_late old dev {T = Unit {0}} {E = ChunkFault} (Err x) (k.fuse up.chunks);
          disk = λ e is. (cc, omega (arith, failed.1), inl failed.0);
        }

  module _ (old : Journal D) (dev : PlanLog D) (ws : List Write) (intend : Intend) (up : AreUp old) (ready : IsReady state old (PutIntend intend ∷ ws)) where
    intend_moment : (r : Result (Unit {0}) PlanFault) → journals.Puts state images 34 (with_intend (journals.held state old.journal) intend) old.journal dev r → DevsLeave state images old (record old { journal = dev }) (IsBeforeOrAfter (devs state old) (PutIntend intend))
    intend_moment r k = let new : Journal D = record old { journal = dev } in leave old new (λ here. here ≡ chunks.chunks state old.chunks) (λ here. here ≡ slots.held state old.slots) (IsEither (journals.held state old.journal) (with_intend (journals.held state old.journal) intend)) (IsBeforeOrAfter (devs state old) (PutIntend intend)) (still_chunk old.chunks ready.chunk_looked.vault ready.chunk_sound) (still_slot old.slots ready.slot_looked.vault ready.slot_sound) (k.any_moment up.journal) one
      where
        one : (c : List (ChunkName × List ℕ)) (h : SlotData) (p : Planned) → (c ≡ chunks.chunks state old.chunks) → (h ≡ slots.held state old.slots) → (IsEither (journals.held state old.journal) (with_intend (journals.held state old.journal) intend)) p → IsBeforeOrAfter (devs state old) (PutIntend intend) (record { chunks = c; held = h; journal = p })
        one c h p pc ph pp = ⊎_elim (λ same. inl cc) (λ same. inr cc) pp

    pub intend_works : (r : Result (Unit {0}) PlanFault) → journals.Puts state images 34 (with_intend (journals.held state old.journal) intend) old.journal dev r → Works state images (PutIntend intend) ws old (record old { journal = dev }) (disk_or r)
    intend_works (Ok x) k =
        let same : devs state (record old { journal = dev }) ≡ changed_by (devs state old) (PutIntend intend) = ap (λ (y : Planned). record { chunks = chunks.chunks state old.chunks; held = slots.held state old.slots; journal = y }) k.put in
        record {
          devs_are = same;
          ready = record {
            may = subst (λ (e : ClientDevs). MayDoAll e ws) (sym same) ready.may.1;
            journal_looked = record { vault = k.opened.vault.looked; memory = k.opened.memory };
            journal_sound = opened_sound state (journals.vault_of dev) k.opened.vault;
            journal_is_opened = all_journal (journals.IsOpened state dev) ws k.opened;
            journal_room = k.room (journal_opens ws) (journal_puts ws) (journal_bytes ws) ready.journal_room;
            chunk_looked = ready.chunk_looked;
            chunk_sound = ready.chunk_sound;
            chunk_is_opened = ready.chunk_is_opened;
            chunk_room = ready.chunk_room;
            slot_looked = ready.slot_looked;
            slot_sound = ready.slot_sound;
            slot_is_opened = ready.slot_is_opened;
            slot_room = ready.slot_room;
          };
          up = record { chunks = up.chunks; slots = up.slots; journal = k.opened.vault.looked.up };
          counted = omega (arith, k.refuses.cause);
          any_moment = intend_moment (Ok x) k;
          early = λ within. journal_undone old dev (PutIntend intend ∷ ws) ready (k.early up.journal within);
          stopped = λ within. (k.fuse up.journal).stopped within.0 within.1;
          late = journal_late old dev {T = Unit {0}} {E = PlanFault} (Ok x) (k.fuse up.journal);
          disk = λ e is. absurd cc;
        }
    intend_works (Err x) k =
        let failed = must_be_disk {T = Unit {0}} state journal_fault (journals.vault_of old.journal) (journals.vault_of dev) old.journal dev x k.refuses k.only k.no_memory up.journal in
        record {
          devs_are = tt;
          ready = tt;
          up = tt;
          counted = tt;
          any_moment = intend_moment (Err x) k;
          early = λ within. journal_undone old dev (PutIntend intend ∷ ws) ready (k.early up.journal within);
          stopped = λ _. tt;
          late = journal_late old dev {T = Unit {0}} {E = PlanFault} (Err x) (k.fuse up.journal);
          disk = λ e is. (cc, omega (arith, failed.1), inr (inr failed.0));
        }

  module _ (old : Journal D) (dev : ChunkDev D) (ws : List Write) (name : LocalName) (bytes : List ℕ) (up : AreUp old) (ready : IsReady state old (PutChunk name bytes ∷ ws)) where
    put_chunk_moment : (r : Result (Unit {0}) ChunkFault) → chunks.Puts state images (13 + length bytes) (insert_entry name_cmp (chunks.chunks state old.chunks) (chunk_of name) bytes) old.chunks dev r → DevsLeave state images old (record old { chunks = dev }) (IsBeforeOrAfter (devs state old) (PutChunk name bytes))
    put_chunk_moment r k = let new : Journal D = record old { chunks = dev } in leave old new (IsEither (chunks.chunks state old.chunks) (insert_entry name_cmp (chunks.chunks state old.chunks) (chunk_of name) bytes)) (λ here. here ≡ slots.held state old.slots) (λ here. here ≡ journals.held state old.journal) (IsBeforeOrAfter (devs state old) (PutChunk name bytes)) (k.any_moment up.chunks) (still_slot old.slots ready.slot_looked.vault ready.slot_sound) (still_journal old.journal ready.journal_looked.vault ready.journal_sound) one
      where
        one : (c : List (ChunkName × List ℕ)) (h : SlotData) (p : Planned) → (IsEither (chunks.chunks state old.chunks) (insert_entry name_cmp (chunks.chunks state old.chunks) (chunk_of name) bytes)) c → (h ≡ slots.held state old.slots) → (p ≡ journals.held state old.journal) → IsBeforeOrAfter (devs state old) (PutChunk name bytes) (record { chunks = c; held = h; journal = p })
        one c h p pc ph pp = ⊎_elim (λ same. inl cc) (λ same. inr cc) pc

    pub put_chunk_works : (r : Result (Unit {0}) ChunkFault) → chunks.Puts state images (13 + length bytes) (insert_entry name_cmp (chunks.chunks state old.chunks) (chunk_of name) bytes) old.chunks dev r → Works state images (PutChunk name bytes) ws old (record old { chunks = dev }) (disk_or r)
    put_chunk_works (Ok x) k =
        let same : devs state (record old { chunks = dev }) ≡ changed_by (devs state old) (PutChunk name bytes) = ap (λ (y : List (ChunkName × List ℕ)). record { chunks = y; held = slots.held state old.slots; journal = journals.held state old.journal }) k.put in
        record {
          devs_are = same;
          ready = record {
            may = subst (λ (e : ClientDevs). MayDoAll e ws) (sym same) ready.may.1;
            chunk_looked = record { vault = k.opened.vault.looked; memory = k.opened.memory };
            chunk_sound = opened_sound state (chunks.vault_of dev) k.opened.vault;
            chunk_is_opened = all_chunk (chunks.IsOpened state dev) ws k.opened;
            chunk_room = k.room (chunk_opens ws) (chunk_puts ws) (chunk_bytes ws) ready.chunk_room;
            slot_looked = ready.slot_looked;
            slot_sound = ready.slot_sound;
            slot_is_opened = ready.slot_is_opened;
            slot_room = ready.slot_room;
            journal_looked = ready.journal_looked;
            journal_sound = ready.journal_sound;
            journal_is_opened = ready.journal_is_opened;
            journal_room = ready.journal_room;
          };
          up = record { chunks = k.opened.vault.looked.up; slots = up.slots; journal = up.journal };
          counted = omega (arith, k.refuses.cause);
          any_moment = put_chunk_moment (Ok x) k;
          early = λ within. chunk_undone old dev (PutChunk name bytes ∷ ws) ready (k.early up.chunks within);
          stopped = λ within. (k.fuse up.chunks).stopped within.0 within.1;
          late = chunk_late old dev {T = Unit {0}} {E = ChunkFault} (Ok x) (k.fuse up.chunks);
          disk = λ e is. absurd cc;
        }
    put_chunk_works (Err x) k =
        let failed = must_be_disk {T = Unit {0}} state chunk_fault (chunks.vault_of old.chunks) (chunks.vault_of dev) old.chunks dev x k.refuses k.only k.no_memory up.chunks in
        record {
          devs_are = tt;
          ready = tt;
          up = tt;
          counted = tt;
          any_moment = put_chunk_moment (Err x) k;
          early = λ within. chunk_undone old dev (PutChunk name bytes ∷ ws) ready (k.early up.chunks within);
          stopped = λ _. tt;
          late = chunk_late old dev {T = Unit {0}} {E = ChunkFault} (Err x) (k.fuse up.chunks);
          disk = λ e is. (cc, omega (arith, failed.1), inl failed.0);
        }

  module _ (old : Journal D) (dev : PlanLog D) (ws : List Write) (commit : Commit) (up : AreUp old) (ready : IsReady state old (PutCommit commit ∷ ws)) where
    commit_moment : (r : Result (Unit {0}) PlanFault) → journals.Puts state images (length (commit_payload commit)) (with_commit (journals.held state old.journal) commit) old.journal dev r → DevsLeave state images old (record old { journal = dev }) (IsBeforeOrAfter (devs state old) (PutCommit commit))
    commit_moment r k = let new : Journal D = record old { journal = dev } in leave old new (λ here. here ≡ chunks.chunks state old.chunks) (λ here. here ≡ slots.held state old.slots) (IsEither (journals.held state old.journal) (with_commit (journals.held state old.journal) commit)) (IsBeforeOrAfter (devs state old) (PutCommit commit)) (still_chunk old.chunks ready.chunk_looked.vault ready.chunk_sound) (still_slot old.slots ready.slot_looked.vault ready.slot_sound) (k.any_moment up.journal) one
      where
        one : (c : List (ChunkName × List ℕ)) (h : SlotData) (p : Planned) → (c ≡ chunks.chunks state old.chunks) → (h ≡ slots.held state old.slots) → (IsEither (journals.held state old.journal) (with_commit (journals.held state old.journal) commit)) p → IsBeforeOrAfter (devs state old) (PutCommit commit) (record { chunks = c; held = h; journal = p })
        one c h p pc ph pp = ⊎_elim (λ same. inl cc) (λ same. inr cc) pp

    pub commit_works : (r : Result (Unit {0}) PlanFault) → journals.Puts state images (length (commit_payload commit)) (with_commit (journals.held state old.journal) commit) old.journal dev r → Works state images (PutCommit commit) ws old (record old { journal = dev }) (disk_or r)
    commit_works (Ok x) k =
        let same : devs state (record old { journal = dev }) ≡ changed_by (devs state old) (PutCommit commit) = ap (λ (y : Planned). record { chunks = chunks.chunks state old.chunks; held = slots.held state old.slots; journal = y }) k.put in
        record {
          devs_are = same;
          ready = record {
            may = subst (λ (e : ClientDevs). MayDoAll e ws) (sym same) ready.may.1;
            journal_looked = record { vault = k.opened.vault.looked; memory = k.opened.memory };
            journal_sound = opened_sound state (journals.vault_of dev) k.opened.vault;
            journal_is_opened = all_journal (journals.IsOpened state dev) ws k.opened;
            journal_room = k.room (journal_opens ws) (journal_puts ws) (journal_bytes ws) ready.journal_room;
            chunk_looked = ready.chunk_looked;
            chunk_sound = ready.chunk_sound;
            chunk_is_opened = ready.chunk_is_opened;
            chunk_room = ready.chunk_room;
            slot_looked = ready.slot_looked;
            slot_sound = ready.slot_sound;
            slot_is_opened = ready.slot_is_opened;
            slot_room = ready.slot_room;
          };
          up = record { chunks = up.chunks; slots = up.slots; journal = k.opened.vault.looked.up };
          counted = omega (arith, k.refuses.cause);
          any_moment = commit_moment (Ok x) k;
          early = λ within. journal_undone old dev (PutCommit commit ∷ ws) ready (k.early up.journal within);
          stopped = λ within. (k.fuse up.journal).stopped within.0 within.1;
          late = journal_late old dev {T = Unit {0}} {E = PlanFault} (Ok x) (k.fuse up.journal);
          disk = λ e is. absurd cc;
        }
    commit_works (Err x) k =
        let failed = must_be_disk {T = Unit {0}} state journal_fault (journals.vault_of old.journal) (journals.vault_of dev) old.journal dev x k.refuses k.only k.no_memory up.journal in
        record {
          devs_are = tt;
          ready = tt;
          up = tt;
          counted = tt;
          any_moment = commit_moment (Err x) k;
          early = λ within. journal_undone old dev (PutCommit commit ∷ ws) ready (k.early up.journal within);
          stopped = λ _. tt;
          late = journal_late old dev {T = Unit {0}} {E = PlanFault} (Err x) (k.fuse up.journal);
          disk = λ e is. (cc, omega (arith, failed.1), inr (inr failed.0));
        }

  module _ (old : Journal D) (dev : SlotDev D) (ws : List Write) (row : RowSlots) (up : AreUp old) (ready : IsReady state old (PutSlots row ∷ ws)) where
    put_slots_moment : (r : Result (Unit {0}) SlotFault) → slots.Puts state images (length (row_payload row)) (with_slots (slots.held state old.slots) row) old.slots dev r → DevsLeave state images old (record old { slots = dev }) (IsBeforeOrAfter (devs state old) (PutSlots row))
    put_slots_moment r k = let new : Journal D = record old { slots = dev } in leave old new (λ here. here ≡ chunks.chunks state old.chunks) (IsEither (slots.held state old.slots) (with_slots (slots.held state old.slots) row)) (λ here. here ≡ journals.held state old.journal) (IsBeforeOrAfter (devs state old) (PutSlots row)) (still_chunk old.chunks ready.chunk_looked.vault ready.chunk_sound) (k.any_moment up.slots) (still_journal old.journal ready.journal_looked.vault ready.journal_sound) one
      where
        one : (c : List (ChunkName × List ℕ)) (h : SlotData) (p : Planned) → (c ≡ chunks.chunks state old.chunks) → (IsEither (slots.held state old.slots) (with_slots (slots.held state old.slots) row)) h → (p ≡ journals.held state old.journal) → IsBeforeOrAfter (devs state old) (PutSlots row) (record { chunks = c; held = h; journal = p })
        one c h p pc ph pp = ⊎_elim (λ same. inl cc) (λ same. inr cc) ph

    pub put_slots_works : (r : Result (Unit {0}) SlotFault) → slots.Puts state images (length (row_payload row)) (with_slots (slots.held state old.slots) row) old.slots dev r → Works state images (PutSlots row) ws old (record old { slots = dev }) (disk_or r)
    put_slots_works (Ok x) k =
        let same : devs state (record old { slots = dev }) ≡ changed_by (devs state old) (PutSlots row) = ap (λ (y : SlotData). record { chunks = chunks.chunks state old.chunks; held = y; journal = journals.held state old.journal }) k.put in
        record {
          devs_are = same;
          ready = record {
            may = subst (λ (e : ClientDevs). MayDoAll e ws) (sym same) ready.may.1;
            slot_looked = record { vault = k.opened.vault.looked; memory = k.opened.memory };
            slot_sound = opened_sound state (slots.vault_of dev) k.opened.vault;
            slot_is_opened = all_slot (slots.IsOpened state dev) ws k.opened;
            slot_room = k.room (slot_opens ws) (slot_puts ws) (slot_bytes ws) ready.slot_room;
            chunk_looked = ready.chunk_looked;
            chunk_sound = ready.chunk_sound;
            chunk_is_opened = ready.chunk_is_opened;
            chunk_room = ready.chunk_room;
            journal_looked = ready.journal_looked;
            journal_sound = ready.journal_sound;
            journal_is_opened = ready.journal_is_opened;
            journal_room = ready.journal_room;
          };
          up = record { chunks = up.chunks; slots = k.opened.vault.looked.up; journal = up.journal };
          counted = omega (arith, k.refuses.cause);
          any_moment = put_slots_moment (Ok x) k;
          early = λ within. slot_undone old dev (PutSlots row ∷ ws) ready (k.early up.slots within);
          stopped = λ within. (k.fuse up.slots).stopped within.0 within.1;
          late = slot_late old dev {T = Unit {0}} {E = SlotFault} (Ok x) (k.fuse up.slots);
          disk = λ e is. absurd cc;
        }
    put_slots_works (Err x) k =
        let failed = must_be_disk {T = Unit {0}} state slot_fault (slots.vault_of old.slots) (slots.vault_of dev) old.slots dev x k.refuses k.only k.no_memory up.slots in
        record {
          devs_are = tt;
          ready = tt;
          up = tt;
          counted = tt;
          any_moment = put_slots_moment (Err x) k;
          early = λ within. slot_undone old dev (PutSlots row ∷ ws) ready (k.early up.slots within);
          stopped = λ _. tt;
          late = slot_late old dev {T = Unit {0}} {E = SlotFault} (Err x) (k.fuse up.slots);
          disk = λ e is. (cc, omega (arith, failed.1), inr (inl failed.0));
        }

  module _ (old : Journal D) (dev : SlotDev D) (ws : List Write) (table : TableRecord) (up : AreUp old) (ready : IsReady state old (PutRecord table ∷ ws)) where
    put_record_moment : (r : Result (Unit {0}) SlotFault) → slots.Puts state images (length (record_payload table)) (with_record (slots.held state old.slots) table) old.slots dev r → DevsLeave state images old (record old { slots = dev }) (IsBeforeOrAfter (devs state old) (PutRecord table))
    put_record_moment r k = let new : Journal D = record old { slots = dev } in leave old new (λ here. here ≡ chunks.chunks state old.chunks) (IsEither (slots.held state old.slots) (with_record (slots.held state old.slots) table)) (λ here. here ≡ journals.held state old.journal) (IsBeforeOrAfter (devs state old) (PutRecord table)) (still_chunk old.chunks ready.chunk_looked.vault ready.chunk_sound) (k.any_moment up.slots) (still_journal old.journal ready.journal_looked.vault ready.journal_sound) one
      where
        one : (c : List (ChunkName × List ℕ)) (h : SlotData) (p : Planned) → (c ≡ chunks.chunks state old.chunks) → (IsEither (slots.held state old.slots) (with_record (slots.held state old.slots) table)) h → (p ≡ journals.held state old.journal) → IsBeforeOrAfter (devs state old) (PutRecord table) (record { chunks = c; held = h; journal = p })
        one c h p pc ph pp = ⊎_elim (λ same. inl cc) (λ same. inr cc) ph

    pub put_record_works : (r : Result (Unit {0}) SlotFault) → slots.Puts state images (length (record_payload table)) (with_record (slots.held state old.slots) table) old.slots dev r → Works state images (PutRecord table) ws old (record old { slots = dev }) (disk_or r)
    put_record_works (Ok x) k =
        let same : devs state (record old { slots = dev }) ≡ changed_by (devs state old) (PutRecord table) = ap (λ (y : SlotData). record { chunks = chunks.chunks state old.chunks; held = y; journal = journals.held state old.journal }) k.put in
        record {
          devs_are = same;
          ready = record {
            may = subst (λ (e : ClientDevs). MayDoAll e ws) (sym same) ready.may.1;
            slot_looked = record { vault = k.opened.vault.looked; memory = k.opened.memory };
            slot_sound = opened_sound state (slots.vault_of dev) k.opened.vault;
            slot_is_opened = all_slot (slots.IsOpened state dev) ws k.opened;
            slot_room = k.room (slot_opens ws) (slot_puts ws) (slot_bytes ws) ready.slot_room;
            chunk_looked = ready.chunk_looked;
            chunk_sound = ready.chunk_sound;
            chunk_is_opened = ready.chunk_is_opened;
            chunk_room = ready.chunk_room;
            journal_looked = ready.journal_looked;
            journal_sound = ready.journal_sound;
            journal_is_opened = ready.journal_is_opened;
            journal_room = ready.journal_room;
          };
          up = record { chunks = up.chunks; slots = k.opened.vault.looked.up; journal = up.journal };
          counted = omega (arith, k.refuses.cause);
          any_moment = put_record_moment (Ok x) k;
          early = λ within. slot_undone old dev (PutRecord table ∷ ws) ready (k.early up.slots within);
          stopped = λ within. (k.fuse up.slots).stopped within.0 within.1;
          late = slot_late old dev {T = Unit {0}} {E = SlotFault} (Ok x) (k.fuse up.slots);
          disk = λ e is. absurd cc;
        }
    put_record_works (Err x) k =
        let failed = must_be_disk {T = Unit {0}} state slot_fault (slots.vault_of old.slots) (slots.vault_of dev) old.slots dev x k.refuses k.only k.no_memory up.slots in
        record {
          devs_are = tt;
          ready = tt;
          up = tt;
          counted = tt;
          any_moment = put_record_moment (Err x) k;
          early = λ within. slot_undone old dev (PutRecord table ∷ ws) ready (k.early up.slots within);
          stopped = λ _. tt;
          late = slot_late old dev {T = Unit {0}} {E = SlotFault} (Err x) (k.fuse up.slots);
          disk = λ e is. (cc, omega (arith, failed.1), inr (inl failed.0));
        }

  module _ (old : Journal D) (dev : ChunkDev D) (ws : List Write) (name : LocalName) (up : AreUp old) (ready : IsReady state old (DropChunk name ∷ ws)) where
    drop_chunk_moment : (r : Result (Unit {0}) ChunkFault) → chunks.Puts state images 13 (without name_cmp (chunks.chunks state old.chunks) (chunk_of name)) old.chunks dev r → DevsLeave state images old (record old { chunks = dev }) (IsBeforeOrAfter (devs state old) (DropChunk name))
    drop_chunk_moment r k = let new : Journal D = record old { chunks = dev } in leave old new (IsEither (chunks.chunks state old.chunks) (without name_cmp (chunks.chunks state old.chunks) (chunk_of name))) (λ here. here ≡ slots.held state old.slots) (λ here. here ≡ journals.held state old.journal) (IsBeforeOrAfter (devs state old) (DropChunk name)) (k.any_moment up.chunks) (still_slot old.slots ready.slot_looked.vault ready.slot_sound) (still_journal old.journal ready.journal_looked.vault ready.journal_sound) one
      where
        one : (c : List (ChunkName × List ℕ)) (h : SlotData) (p : Planned) → (IsEither (chunks.chunks state old.chunks) (without name_cmp (chunks.chunks state old.chunks) (chunk_of name))) c → (h ≡ slots.held state old.slots) → (p ≡ journals.held state old.journal) → IsBeforeOrAfter (devs state old) (DropChunk name) (record { chunks = c; held = h; journal = p })
        one c h p pc ph pp = ⊎_elim (λ same. inl cc) (λ same. inr cc) pc

    pub drop_chunk_works : (r : Result (Unit {0}) ChunkFault) → chunks.Puts state images 13 (without name_cmp (chunks.chunks state old.chunks) (chunk_of name)) old.chunks dev r → Works state images (DropChunk name) ws old (record old { chunks = dev }) (disk_or r)
    drop_chunk_works (Ok x) k =
        let same : devs state (record old { chunks = dev }) ≡ changed_by (devs state old) (DropChunk name) = ap (λ (y : List (ChunkName × List ℕ)). record { chunks = y; held = slots.held state old.slots; journal = journals.held state old.journal }) k.put in
        record {
          devs_are = same;
          ready = record {
            may = subst (λ (e : ClientDevs). MayDoAll e ws) (sym same) ready.may.1;
            chunk_looked = record { vault = k.opened.vault.looked; memory = k.opened.memory };
            chunk_sound = opened_sound state (chunks.vault_of dev) k.opened.vault;
            chunk_is_opened = all_chunk (chunks.IsOpened state dev) ws k.opened;
            chunk_room = k.room (chunk_opens ws) (chunk_puts ws) (chunk_bytes ws) ready.chunk_room;
            slot_looked = ready.slot_looked;
            slot_sound = ready.slot_sound;
            slot_is_opened = ready.slot_is_opened;
            slot_room = ready.slot_room;
            journal_looked = ready.journal_looked;
            journal_sound = ready.journal_sound;
            journal_is_opened = ready.journal_is_opened;
            journal_room = ready.journal_room;
          };
          up = record { chunks = k.opened.vault.looked.up; slots = up.slots; journal = up.journal };
          counted = omega (arith, k.refuses.cause);
          any_moment = drop_chunk_moment (Ok x) k;
          early = λ within. chunk_undone old dev (DropChunk name ∷ ws) ready (k.early up.chunks within);
          stopped = λ within. (k.fuse up.chunks).stopped within.0 within.1;
          late = chunk_late old dev {T = Unit {0}} {E = ChunkFault} (Ok x) (k.fuse up.chunks);
          disk = λ e is. absurd cc;
        }
    drop_chunk_works (Err x) k =
        let failed = must_be_disk {T = Unit {0}} state chunk_fault (chunks.vault_of old.chunks) (chunks.vault_of dev) old.chunks dev x k.refuses k.only k.no_memory up.chunks in
        record {
          devs_are = tt;
          ready = tt;
          up = tt;
          counted = tt;
          any_moment = drop_chunk_moment (Err x) k;
          early = λ within. chunk_undone old dev (DropChunk name ∷ ws) ready (k.early up.chunks within);
          stopped = λ _. tt;
          late = chunk_late old dev {T = Unit {0}} {E = ChunkFault} (Err x) (k.fuse up.chunks);
          disk = λ e is. (cc, omega (arith, failed.1), inl failed.0);
        }

  module _ (old : Journal D) (dev : PlanLog D) (ws : List Write) (up : AreUp old) (ready : IsReady state old (PutDone ∷ ws)) where
    done_moment : (r : Result (Unit {0}) PlanFault) → journals.Puts state images 9 (with_done (journals.held state old.journal) (journals.held state old.journal).greatest) old.journal dev r → DevsLeave state images old (record old { journal = dev }) (IsBeforeOrAfter (devs state old) PutDone)
    done_moment r k = let new : Journal D = record old { journal = dev } in leave old new (λ here. here ≡ chunks.chunks state old.chunks) (λ here. here ≡ slots.held state old.slots) (IsEither (journals.held state old.journal) (with_done (journals.held state old.journal) (journals.held state old.journal).greatest)) (IsBeforeOrAfter (devs state old) PutDone) (still_chunk old.chunks ready.chunk_looked.vault ready.chunk_sound) (still_slot old.slots ready.slot_looked.vault ready.slot_sound) (k.any_moment up.journal) one
      where
        one : (c : List (ChunkName × List ℕ)) (h : SlotData) (p : Planned) → (c ≡ chunks.chunks state old.chunks) → (h ≡ slots.held state old.slots) → (IsEither (journals.held state old.journal) (with_done (journals.held state old.journal) (journals.held state old.journal).greatest)) p → IsBeforeOrAfter (devs state old) PutDone (record { chunks = c; held = h; journal = p })
        one c h p pc ph pp = ⊎_elim (λ same. inl cc) (λ same. inr cc) pp

    pub done_works : (r : Result (Unit {0}) PlanFault) → journals.Puts state images 9 (with_done (journals.held state old.journal) (journals.held state old.journal).greatest) old.journal dev r → Works state images PutDone ws old (record old { journal = dev }) (disk_or r)
    done_works (Ok x) k =
        let same : devs state (record old { journal = dev }) ≡ changed_by (devs state old) PutDone = ap (λ (y : Planned). record { chunks = chunks.chunks state old.chunks; held = slots.held state old.slots; journal = y }) k.put in
        record {
          devs_are = same;
          ready = record {
            may = subst (λ (e : ClientDevs). MayDoAll e ws) (sym same) ready.may.1;
            journal_looked = record { vault = k.opened.vault.looked; memory = k.opened.memory };
            journal_sound = opened_sound state (journals.vault_of dev) k.opened.vault;
            journal_is_opened = all_journal (journals.IsOpened state dev) ws k.opened;
            journal_room = k.room (journal_opens ws) (journal_puts ws) (journal_bytes ws) ready.journal_room;
            chunk_looked = ready.chunk_looked;
            chunk_sound = ready.chunk_sound;
            chunk_is_opened = ready.chunk_is_opened;
            chunk_room = ready.chunk_room;
            slot_looked = ready.slot_looked;
            slot_sound = ready.slot_sound;
            slot_is_opened = ready.slot_is_opened;
            slot_room = ready.slot_room;
          };
          up = record { chunks = up.chunks; slots = up.slots; journal = k.opened.vault.looked.up };
          counted = omega (arith, k.refuses.cause);
          any_moment = done_moment (Ok x) k;
          early = λ within. journal_undone old dev (PutDone ∷ ws) ready (k.early up.journal within);
          stopped = λ within. (k.fuse up.journal).stopped within.0 within.1;
          late = journal_late old dev {T = Unit {0}} {E = PlanFault} (Ok x) (k.fuse up.journal);
          disk = λ e is. absurd cc;
        }
    done_works (Err x) k =
        let failed = must_be_disk {T = Unit {0}} state journal_fault (journals.vault_of old.journal) (journals.vault_of dev) old.journal dev x k.refuses k.only k.no_memory up.journal in
        record {
          devs_are = tt;
          ready = tt;
          up = tt;
          counted = tt;
          any_moment = done_moment (Err x) k;
          early = λ within. journal_undone old dev (PutDone ∷ ws) ready (k.early up.journal within);
          stopped = λ _. tt;
          late = journal_late old dev {T = Unit {0}} {E = PlanFault} (Err x) (k.fuse up.journal);
          disk = λ e is. (cc, omega (arith, failed.1), inr (inr failed.0));
        }

-- the same, where the write's name is answered
pub works_named : {D S : Type 0} (state : D → DiskState) (images : D → ℕ → List ℕ → Type 0) (w : Write) (ws : List Write) (old new : Journal D) (s : S) → Works {T = Unit {0}} state images w ws old new (Ok tt) → Works {T = S} state images w ws old new (Ok s)
works_named state images w ws old new s k = record { devs_are = k.devs_are; ready = k.ready; up = k.up; counted = k.counted; any_moment = k.any_moment; early = k.early; stopped = k.stopped; late = k.late; disk = λ e is. absurd cc }

pub works_failed : {D S : Type 0} (state : D → DiskState) (images : D → ℕ → List ℕ → Type 0) (w : Write) (ws : List Write) (old new : Journal D) (x : JournalFault) → Works {T = Unit {0}} state images w ws old new (Err x) → Works {T = S} state images w ws old new (Err x)
works_failed state images w ws old new x k = record { devs_are = tt; ready = tt; up = tt; counted = tt; any_moment = k.any_moment; early = k.early; stopped = λ _. tt; late = k.late; disk = λ e is. let same : x ≡ e = cc in k.disk e (ap (λ (y : JournalFault). Err y) same) }

-- what has failed wasn't down before
pub not_down : {D : Type 0} (state : D → DiskState) (images : D → ℕ → List ℕ → Type 0) (w : Write) (ws : List Write) (old new : Journal D) (x : JournalFault) → Works {T = Unit {0}} state images w ws old new (Err x) → x ≡ Down → ⊥
not_down state images w ws old new x k is = let disk : x ≡ Disk = (k.disk x refl).0 in absurd cc

pub up_or_down : {D : Type 0} (self : Journal D) → AreUp self → IsOneDown self → ⊥
up_or_down self up down =
    let a = up.chunks in
    let b = up.slots in
    let c = up.journal in
    ⊎_elim (λ x. absurd cc) (λ y. ⊎_elim (λ x. absurd cc) (λ x. absurd cc) y) down

-- what is said of the devices doesn't speak of the writes to come
module _ {D : Type 0} (state : D → DiskState) (images : D → ℕ → List ℕ → Type 0) (old mid : Journal D) (chunk_same : mid.chunks ≡ old.chunks) (row_same : mid.slots ≡ old.slots) (log_same : mid.journal ≡ old.journal) where
  pub same_ready : (ws : List Write) → IsReady state old ws → IsReady state mid ws
  same_ready ws r = record {
    may = rw (chunk_same, row_same, log_same) r.may;
    chunk_looked = rw chunk_same r.chunk_looked;
    chunk_sound = rw chunk_same r.chunk_sound;
    chunk_is_opened = rw chunk_same r.chunk_is_opened;
    chunk_room = rw chunk_same r.chunk_room;
    slot_looked = rw row_same r.slot_looked;
    slot_sound = rw row_same r.slot_sound;
    slot_is_opened = rw row_same r.slot_is_opened;
    slot_room = rw row_same r.slot_room;
    journal_looked = rw log_same r.journal_looked;
    journal_sound = rw log_same r.journal_sound;
    journal_is_opened = rw log_same r.journal_is_opened;
    journal_room = rw log_same r.journal_room;
  }

  same_vault : (d : Device) → vault_at mid d ≡ vault_at old d
  same_vault devices.Chunks = ap chunks.vault_of chunk_same
  same_vault devices.Slots = ap slots.vault_of row_same
  same_vault devices.Plans = ap journals.vault_of log_same

  pub same_works : {T : Type 0} (w : Write) (ws : List Write) (new : Journal D) (r : Result T JournalFault) → Works state images w ws mid new r → Works state images w ws old new r
  same_works w ws new r k = record {
    devs_are = rw (← chunk_same, ← row_same, ← log_same) k.devs_are;
    ready = k.ready;
    up = k.up;
    counted = rw (← chunk_same, ← row_same, ← log_same) k.counted;
    any_moment = record { each = rw (← chunk_same, ← row_same, ← log_same) k.any_moment.each; later = record { chunks = rw (← chunk_same) k.any_moment.later.chunks; slots = rw (← row_same) k.any_moment.later.slots; journal = rw (← log_same) k.any_moment.later.journal } };
    early = λ within.
        let run = k.early (subst (λ (v : Vault D). StopsWithin state v 2) (sym (same_vault (device_of w))) within) in
        record { each = rw (← chunk_same, ← row_same, ← log_same) run.each; later = record { chunks = rw (← chunk_same) run.later.chunks; slots = rw (← row_same) run.later.slots; journal = rw (← log_same) run.later.journal } };
    stopped = λ within. k.stopped (subst (λ (v : Vault D). StopsWithin state v 4) (sym (same_vault (device_of w))) within);
    late = λ armed passes.
        let same : all_stops state new ≡ all_stops state mid = k.late (subst (λ (v : Vault D). (state (disk_of v)).is_armed ≡ true) (sym (same_vault (device_of w))) armed) (subst (λ (v : Vault D). 4 ≤ (state (disk_of v)).passes) (sym (same_vault (device_of w))) passes) in
        rw (← chunk_same, ← row_same, ← log_same) same;
    disk = rw (← chunk_same, ← row_same, ← log_same) k.disk;
  }

-- ---- a look

module _ {D : Type 0} (state : D → DiskState) (images : D → ℕ → List ℕ → Type 0) (only_now : (disk : D) (image : List ℕ) → images disk (state disk).moment image → IsImage (state disk).pending image) where
  -- while nothing is done, a crash of what is synced and sound leaves it
  synced_leaves : (vault : Vault D) → (state (disk_of vault)).pending ≡ settled (state (disk_of vault)).seen → IsSound state vault
      → vaults.Leaves state images vault vault (λ list. list ≡ payloads state vault)
  synced_leaves vault synced sound =
      let file = (state (disk_of vault)).seen in
      let P : List ℕ → Type 0 = StandsForOne (λ list. list ≡ payloads state vault) in
      let here : P file = (payloads state vault, sound, refl) in
      started state images (disk_of vault) P (λ image left. subst P (sym (settled_only file image (subst (λ q. IsImage q image) synced (only_now (disk_of vault) image left)))) here)

  pub synced_slots : (dev : SlotDev D) → IsUp (slots.vault_of dev) → IsSynced state (slots.vault_of dev) → IsSound state (slots.vault_of dev)
      → vaults.Leaves state images (slots.vault_of dev) (slots.vault_of dev) (λ l. data_of l ≡ slots.held state dev)
  synced_slots dev up synced sound = runs_weaker state images (slots.vault_of dev) (slots.vault_of dev) (λ l. l ≡ payloads state (slots.vault_of dev)) (λ l. data_of l ≡ slots.held state dev) (synced_leaves (slots.vault_of dev) (synced up) sound) (λ l is. ap data_of is)

  pub synced_journal : (dev : PlanLog D) → IsUp (journals.vault_of dev) → IsSynced state (journals.vault_of dev) → IsSound state (journals.vault_of dev)
      → vaults.Leaves state images (journals.vault_of dev) (journals.vault_of dev) (λ l. journal_of l ≡ journals.held state dev)
  synced_journal dev up synced sound = runs_weaker state images (journals.vault_of dev) (journals.vault_of dev) (λ l. l ≡ payloads state (journals.vault_of dev)) (λ l. journal_of l ≡ journals.held state dev) (synced_leaves (journals.vault_of dev) (synced up) sound) (λ l is. ap journal_of is)

  -- where the look at the chunks alone was tried
  pub one_looked : (old : Journal D) (cs : ChunkDev D) → AreUp old → AreSynced state old → AreSound state old → vaults.Leaves state images (chunks.vault_of old.chunks) (chunks.vault_of cs) (λ l. chunks_of l ≡ chunks.chunks state old.chunks) → DevsLeave state images old (record old { chunks = cs }) (λ d. d ≡ devs state old)
  one_looked old cs up synced sound a = let new : Journal D = record old { chunks = cs } in all_same state images only_now old new a (synced_slots old.slots up.slots synced.slots sound.slots) (synced_journal old.journal up.journal synced.journal sound.journal)

  -- where that at the slots was tried too
  pub two_looked : (old : Journal D) (cs : ChunkDev D) (rs : SlotDev D) → AreUp old → AreSynced state old → AreSound state old
      → vaults.Leaves state images (chunks.vault_of old.chunks) (chunks.vault_of cs) (λ l. chunks_of l ≡ chunks.chunks state old.chunks)
      → vaults.Leaves state images (slots.vault_of old.slots) (slots.vault_of rs) (λ l. data_of l ≡ slots.held state old.slots)
      → DevsLeave state images old (record old { chunks = cs; slots = rs }) (λ d. d ≡ devs state old)
  two_looked old cs rs up synced sound a b = let new : Journal D = record old { chunks = cs; slots = rs } in all_same state images only_now old new a b (synced_journal old.journal up.journal synced.journal sound.journal)

  -- while nothing is done, a crash of devices at rest leaves what they hold
  pub rests_leave : (old : Journal D) (ws : List Write) → IsReady state old ws → DevsLeave state images old old (λ d. d ≡ devs state old)
  rests_leave old ws r =
      all_same state images only_now old old
      (still_chunk state images only_now old.chunks r.chunk_looked.vault r.chunk_sound)
      (still_slot state images only_now old.slots r.slot_looked.vault r.slot_sound)
      (still_journal state images only_now old.journal r.journal_looked.vault r.journal_sound)

  -- ---- a format

  abbrev made : List (ChunkName × List ℕ) → SlotData → Planned → ClientDevs
  made c h p = record { chunks = c; held = h; journal = p }

  short_stands : (image : List ℕ) → length image ≤ 1 → StandsForOne (λ list. list ≡ []) image
  short_stands image short = ([], stands_at image 0 [] (record { size = refl; front = refl; more = λ lt. absurd (omega arith); short = tt }) (λ _. omega arith), refl)

  -- while nothing is done, a crash of a blank file leaves no payload
  blank_leaves : (vault : Vault D) → IsBlank state vault → vaults.Leaves state images vault vault (λ list. list ≡ [])
  blank_leaves vault blank =
      let file = (state (disk_of vault)).seen in
      started state images (disk_of vault) (StandsForOne (λ list. list ≡ []))
      (λ image left.
      let same = settled_only file image (subst (λ q. IsImage q image) blank.synced (only_now (disk_of vault) image left)) in
      short_stands image (rw same blank.short))

  no_rows : data_of [] ≡ nothing_held
  unfolding data_of
  no_rows = refl

  no_chunks : chunks_of [] ≡ []
  unfolding chunks_of
  no_chunks = refl

  no_entry : journal_of [] ≡ nothing_planned
  unfolding journal_of
  no_entry = refl

  pub all_blank : (old new : Journal D) → vaults.Leaves state images (chunks.vault_of old.chunks) (chunks.vault_of new.chunks) (λ l. chunks_of l ≡ chunks_of [])
      → vaults.Leaves state images (slots.vault_of old.slots) (slots.vault_of new.slots) (λ l. data_of l ≡ data_of [])
      → vaults.Leaves state images (journals.vault_of old.journal) (journals.vault_of new.journal) (λ l. journal_of l ≡ journal_of [])
      → DevsLeave state images old new (λ d. d ≡ nothing)
  all_blank old new a b c =
      leave state images only_now old new (λ here. here ≡ chunks_of []) (λ here. here ≡ data_of []) (λ here. here ≡ journal_of []) (λ d. d ≡ nothing) a b c
      (λ x y z px py pz. let p : x ≡ [] = px ∙ no_chunks in let q : y ≡ nothing_held = py ∙ no_rows in let r : z ≡ nothing_planned = pz ∙ no_entry in cc)

  blank_rows : (dev : SlotDev D) → IsBlank state (slots.vault_of dev) → vaults.Leaves state images (slots.vault_of dev) (slots.vault_of dev) (λ l. data_of l ≡ data_of [])
  blank_rows dev blank = runs_weaker state images (slots.vault_of dev) (slots.vault_of dev) (λ l. l ≡ []) (λ l. data_of l ≡ data_of []) (blank_leaves (slots.vault_of dev) blank) (λ l is. ap data_of is)

  blank_log : (dev : PlanLog D) → IsBlank state (journals.vault_of dev) → vaults.Leaves state images (journals.vault_of dev) (journals.vault_of dev) (λ l. journal_of l ≡ journal_of [])
  blank_log dev blank = runs_weaker state images (journals.vault_of dev) (journals.vault_of dev) (λ l. l ≡ []) (λ l. journal_of l ≡ journal_of []) (blank_leaves (journals.vault_of dev) blank) (λ l is. ap journal_of is)

  pub one_blank : (old new : Journal D) → new.slots ≡ old.slots → new.journal ≡ old.journal → AreBlank state old
      → vaults.Leaves state images (chunks.vault_of old.chunks) (chunks.vault_of new.chunks) (λ l. chunks_of l ≡ chunks_of []) → DevsLeave state images old new (λ d. d ≡ nothing)
  one_blank old new rs ls blank a = all_blank old new a (rw rs (blank_rows old.slots blank.slots)) (rw ls (blank_log old.journal blank.journal))

  pub two_blank : (old new : Journal D) → new.journal ≡ old.journal → AreBlank state old
      → vaults.Leaves state images (chunks.vault_of old.chunks) (chunks.vault_of new.chunks) (λ l. chunks_of l ≡ chunks_of [])
      → vaults.Leaves state images (slots.vault_of old.slots) (slots.vault_of new.slots) (λ l. data_of l ≡ data_of [])
      → DevsLeave state images old new (λ d. d ≡ nothing)
  two_blank old new ls blank a b = all_blank old new a b (rw ls (blank_log old.journal blank.journal))

  pub all_empty : (c : List (ChunkName × List ℕ)) (h : SlotData) (p : Planned) → c ≡ chunks_of [] → h ≡ data_of [] → p ≡ journal_of [] → made c h p ≡ nothing
  all_empty c h p px py pz = let a : c ≡ [] = px ∙ no_chunks in let b : h ≡ nothing_held = py ∙ no_rows in let e : p ≡ nothing_planned = pz ∙ no_entry in cc

  -- opened devices with room for an opening each are at rest
  pub at_rest : (client : Journal D) → chunks.IsOpened state client.chunks → slots.IsOpened state client.slots → journals.IsOpened state client.journal → chunks.HasRoom state client.chunks 1 0 0
      → slots.HasRoom state client.slots 1 0 0 → journals.HasRoom state client.journal 1 0 0 → IsReady state client []
  at_rest client a b c x y z = record {
    may = tt;
    chunk_looked = record { vault = a.vault.looked; memory = a.memory };
    chunk_sound = opened_sound state (chunks.vault_of client.chunks) a.vault;
    chunk_is_opened = a;
    chunk_room = record { vault = less_room state (chunks.vault_of client.chunks) 1 0 0 0 0 0 (omega arith) (omega arith) (omega arith) x.vault; memory = x.memory; payload = x.payload };
    slot_looked = record { vault = b.vault.looked; memory = b.memory };
    slot_sound = opened_sound state (slots.vault_of client.slots) b.vault;
    slot_is_opened = b;
    slot_room = record { vault = less_room state (slots.vault_of client.slots) 1 0 0 0 0 0 (omega arith) (omega arith) (omega arith) y.vault; memory = y.memory; payload = y.payload };
    journal_looked = record { vault = c.vault.looked; memory = c.memory };
    journal_sound = opened_sound state (journals.vault_of client.journal) c.vault;
    journal_is_opened = c;
    journal_room = record { vault = less_room state (journals.vault_of client.journal) 1 0 0 0 0 0 (omega arith) (omega arith) (omega arith) z.vault; memory = z.memory; payload = z.payload };
  }
