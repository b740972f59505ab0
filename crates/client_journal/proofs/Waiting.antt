-- Calls that write nothing: one device, and one call after the other.
use Rattle.std.proofs.Common.{◌≡◌, inl, inr, ◌⊎◌, ℕ, ◌<◌, List, [], Result, Ok, Err, refl, ◌∙◌, ap, arith}
use Rattle.std.specs.Prelude.{IfErr, OnOk}
use Rattle.disk_trait.specs.Image.{IsImage}
use Rattle.disk_trait.specs.Calls.{DiskState}
use Rattle.vault.specs.declared.fault.VaultFault.{VaultFault}
use Rattle.vault.specs.declared.fault.VaultFault.TheVariants as causes
use Rattle.vault.specs.Standing.{faults, IsDown}
use Rattle.vault.proofs.Uppers.{runs_then}
use Rattle.stab_base.specs.declared.chunk_name.ChunkName.{ChunkName}
use Rattle.chunk_store.specs.declared.device.ChunkDev.{ChunkDev}
use Rattle.chunk_store.specs.declared.fault.ChunkFault.{ChunkFault}
use Rattle.chunk_store.specs.declared.fault.ChunkFault.TheVariants as chunk_faults
use Rattle.chunk_store.specs.Fault.{fault_of as chunk_fault}
use Rattle.chunk_store.specs.Payload.{chunks_of}
use Rattle.chunk_store.specs.Standing as chunks
use Rattle.slot_store.specs.declared.device.SlotDev.{SlotDev}
use Rattle.slot_store.specs.declared.fault.SlotFault.{SlotFault}
use Rattle.slot_store.specs.declared.fault.SlotFault.TheVariants as slot_faults
use Rattle.slot_store.specs.Fault.{fault_of as slot_fault}
use Rattle.slot_store.specs.Data.{SlotData, data_of}
use Rattle.slot_store.specs.Standing as slots
use Rattle.plan_log.specs.declared.device.PlanLog.{PlanLog}
use Rattle.plan_log.specs.declared.fault.PlanFault.{PlanFault}
use Rattle.plan_log.specs.declared.fault.PlanFault.TheVariants as journal_faults
use Rattle.plan_log.specs.Journal.{Journal as Planned}
use Rattle.plan_log.specs.Journal.{journal_of}
use Rattle.plan_log.specs.Standing as journals
use Rattle.client_journal.specs.declared.devs.Journal.{Journal}
use Rattle.client_journal.specs.declared.fault.JournalFault.{JournalFault}
use Rattle.client_journal.specs.declared.fault.JournalFault.TheVariants.{Disk, Memory}
use Rattle.client_journal.specs.Fault.{caused, chunk_cause, slot_cause, journal_cause}
use Rattle.client_journal.specs.Devs.{ClientDevs}
use Rattle.client_journal.specs.Standing.{devs, AreUp, IsReady}
use Rattle.client_journal.specs.TakesOn.{IsNotDisk, Waits}
use Rattle.client_journal.specs.Unset.{KeepsUnset}
use Rattle.client_journal.proofs.Works.{still_chunk, still_slot, still_journal}
use Rattle.client_journal.proofs.Fusing.{keeps_then, keeps_same, chunk_same, slot_same, journal_same}

abbrev OnlyThese : {T : Type 0} → Result T JournalFault → Type 0
OnlyThese result = IfErr result (λ e. (e ≡ Disk) ⊎ (e ≡ Memory))

module _ {D : Type 0} (state : D → DiskState) (images : D → ℕ → List ℕ → Type 0) (only_now : (disk : D) (image : List ℕ) → images disk (state disk).moment image → IsImage (state disk).pending image) (old : Journal D) (up : AreUp old) (rests : IsReady state old []) where
  -- nothing was done
  pub none_waits : {T : Type 0} (r : Result T JournalFault) → IsNotDisk r → OnlyThese r → Waits state images old old r
  none_waits r not_disk only = record {
    agenda = refl;
    same = λ n. refl;
    up = λ n. up;
    rests = λ n. rests;
    counted = λ n. refl;
    disk = λ is. absurd (not_disk is);
    only = only;
    chunks = still_chunk state images only_now old.chunks rests.chunk_looked.vault rests.chunk_sound;
    slots = still_slot state images only_now old.slots rests.slot_looked.vault rests.slot_sound;
    journal = still_journal state images only_now old.journal rests.journal_looked.vault rests.journal_sound;
    fuse = keeps_same state old old refl refl refl;
  }

  module _ (dev : ChunkDev D) (leaves : chunks.Leaves state images old.chunks dev (λ here. here ≡ chunks.chunks state old.chunks)) (fuse : KeepsUnset state old (record old { chunks = dev })) where
    chunk_stays : {T : Type 0} (r : Result T JournalFault) → chunks.Stays state old.chunks dev → faults state (chunks.vault_of dev) ≡ faults state (chunks.vault_of old.chunks) → IsNotDisk r
        → OnlyThese r
        → Waits state images old (record old { chunks = dev }) r
    chunk_stays r stays counted not_disk only = record {
      agenda = refl;
      same = λ n. ap (λ (y : List (ChunkName × List ℕ)). record { chunks = y; held = slots.held state old.slots; journal = journals.held state old.journal }) (ap chunks_of stays.same);
      up = λ n. record { chunks = stays.down ∙ up.chunks; slots = up.slots; journal = up.journal };
      rests = λ n. record {
        may = tt;
        chunk_looked = stays.looked rests.chunk_looked;
        chunk_sound = stays.sound rests.chunk_sound;
        chunk_is_opened = stays.opened rests.chunk_is_opened;
        chunk_room = stays.room 0 0 0 rests.chunk_room;
        slot_looked = rests.slot_looked;
        slot_sound = rests.slot_sound;
        slot_is_opened = rests.slot_is_opened;
        slot_room = rests.slot_room;
        journal_looked = rests.journal_looked;
        journal_sound = rests.journal_sound;
        journal_is_opened = rests.journal_is_opened;
        journal_room = rests.journal_room;
      };
      counted = λ n. omega (arith, counted);
      disk = λ is. absurd (not_disk is);
      only = only;
      chunks = leaves;
      slots = still_slot state images only_now old.slots rests.slot_looked.vault rests.slot_sound;
      journal = still_journal state images only_now old.journal rests.journal_looked.vault rests.journal_sound;
      fuse = fuse;
    }

    chunk_fails : {T : Type 0} → IsDown (chunks.vault_of dev) → faults state (chunks.vault_of old.chunks) < faults state (chunks.vault_of dev) → Waits {T = T} state images old (record old { chunks = dev }) (Err Disk)
    chunk_fails down more = record {
      agenda = refl;
      same = λ n. absurd (n refl);
      up = λ n. absurd (n refl);
      rests = λ n. absurd (n refl);
      counted = λ n. absurd (n refl);
      disk = λ is. (omega (arith, more), inl down);
      only = inl refl;
      chunks = leaves;
      slots = still_slot state images only_now old.slots rests.slot_looked.vault rests.slot_sound;
      journal = still_journal state images only_now old.journal rests.journal_looked.vault rests.journal_sound;
      fuse = fuse;
    }

  module _ (dev : ChunkDev D) (puts bytes : ℕ) where
    pub chunk_reserved : (r : Result (Unit {0}) ChunkFault) → chunks.Reserves state images puts bytes old.chunks dev r → Waits state images old (record old { chunks = dev }) (caused chunk_cause r)
    chunk_reserved (Ok x) k = chunk_stays dev (k.any_moment up.chunks rests.chunk_sound) (chunk_same state old dev k.fuse) (Ok x) k.stays k.refuses.cause (λ is. cc) tt
    chunk_reserved (Err chunk_faults.Disk) k = chunk_fails dev (k.any_moment up.chunks rests.chunk_sound) (chunk_same state old dev k.fuse) (k.refuses.disk refl) (k.refuses.cause.0 refl)
    chunk_reserved (Err chunk_faults.Memory) k = chunk_stays dev (k.any_moment up.chunks rests.chunk_sound) (chunk_same state old dev k.fuse) (Err Memory) (k.memory refl) (k.refuses.cause.1 (λ is. cc)) (λ is. cc) (inr refl)
    chunk_reserved (Err chunk_faults.Down) k = let down : IsDown (chunks.vault_of old.chunks) = k.refuses.down.0 refl in let is = up.chunks in absurd cc
    chunk_reserved (Err chunk_faults.Absent) k = absurd (not_its k.only.0 k.only.1)
      where
        not_its : (c : VaultFault) → chunk_faults.Absent ≡ chunk_fault c → ⊥
        not_its causes.Disk is = cc
        not_its causes.Down is = cc
        not_its causes.Memory is = cc

    pub chunk_has_room : (r : Result (Unit {0}) ChunkFault) → chunks.Reserves state images puts bytes old.chunks dev r → OnOk (caused chunk_cause r) (chunks.HasRoom state dev 1 puts bytes)
    chunk_has_room (Ok x) k = k.room
    chunk_has_room (Err e) k = tt

  module _ (dev : SlotDev D) (leaves : slots.Leaves state images old.slots dev (λ here. here ≡ slots.held state old.slots)) (fuse : KeepsUnset state old (record old { slots = dev })) where
    slot_stays : {T : Type 0} (r : Result T JournalFault) → slots.Stays state old.slots dev → faults state (slots.vault_of dev) ≡ faults state (slots.vault_of old.slots) → IsNotDisk r → OnlyThese r
        → Waits state images old (record old { slots = dev }) r
    slot_stays r stays counted not_disk only = record {
      agenda = refl;
      same = λ n. ap (λ (y : SlotData). record { chunks = chunks.chunks state old.chunks; held = y; journal = journals.held state old.journal }) (ap data_of stays.same);
      up = λ n. record { chunks = up.chunks; slots = stays.down ∙ up.slots; journal = up.journal };
      rests = λ n. record {
        may = tt;
        chunk_looked = rests.chunk_looked;
        chunk_sound = rests.chunk_sound;
        chunk_is_opened = rests.chunk_is_opened;
        chunk_room = rests.chunk_room;
        slot_looked = stays.looked rests.slot_looked;
        slot_sound = stays.sound rests.slot_sound;
        slot_is_opened = stays.opened rests.slot_is_opened;
        slot_room = stays.room 0 0 0 rests.slot_room;
        journal_looked = rests.journal_looked;
        journal_sound = rests.journal_sound;
        journal_is_opened = rests.journal_is_opened;
        journal_room = rests.journal_room;
      };
      counted = λ n. omega (arith, counted);
      disk = λ is. absurd (not_disk is);
      only = only;
      chunks = still_chunk state images only_now old.chunks rests.chunk_looked.vault rests.chunk_sound;
      slots = leaves;
      journal = still_journal state images only_now old.journal rests.journal_looked.vault rests.journal_sound;
      fuse = fuse;
    }

    slot_fails : {T : Type 0} → IsDown (slots.vault_of dev) → faults state (slots.vault_of old.slots) < faults state (slots.vault_of dev) → Waits {T = T} state images old (record old { slots = dev }) (Err Disk)
    slot_fails down more = record {
      agenda = refl;
      same = λ n. absurd (n refl);
      up = λ n. absurd (n refl);
      rests = λ n. absurd (n refl);
      counted = λ n. absurd (n refl);
      disk = λ is. (omega (arith, more), inr (inl down));
      only = inl refl;
      chunks = still_chunk state images only_now old.chunks rests.chunk_looked.vault rests.chunk_sound;
      slots = leaves;
      journal = still_journal state images only_now old.journal rests.journal_looked.vault rests.journal_sound;
      fuse = fuse;
    }

  module _ (dev : SlotDev D) (puts bytes : ℕ) where
    pub slot_reserved : (r : Result (Unit {0}) SlotFault) → slots.Reserves state images puts bytes old.slots dev r → Waits state images old (record old { slots = dev }) (caused slot_cause r)
    slot_reserved (Ok x) k = slot_stays dev (k.any_moment up.slots rests.slot_sound) (slot_same state old dev k.fuse) (Ok x) k.stays k.refuses.cause (λ is. cc) tt
    slot_reserved (Err slot_faults.Disk) k = slot_fails dev (k.any_moment up.slots rests.slot_sound) (slot_same state old dev k.fuse) (k.refuses.disk refl) (k.refuses.cause.0 refl)
    slot_reserved (Err slot_faults.Memory) k = slot_stays dev (k.any_moment up.slots rests.slot_sound) (slot_same state old dev k.fuse) (Err Memory) (k.memory refl) (k.refuses.cause.1 (λ is. cc)) (λ is. cc) (inr refl)
    slot_reserved (Err slot_faults.Down) k = let down : IsDown (slots.vault_of old.slots) = k.refuses.down.0 refl in let is = up.slots in absurd cc
    slot_reserved (Err slot_faults.NoRow) k = absurd (not_its k.only.0 k.only.1)
      where
        not_its : (c : VaultFault) → slot_faults.NoRow ≡ slot_fault c → ⊥
        not_its causes.Disk is = cc
        not_its causes.Down is = cc
        not_its causes.Memory is = cc

    pub slot_has_room : (r : Result (Unit {0}) SlotFault) → slots.Reserves state images puts bytes old.slots dev r → OnOk (caused slot_cause r) (slots.HasRoom state dev 1 puts bytes)
    slot_has_room (Ok x) k = k.room
    slot_has_room (Err e) k = tt

  module _ (dev : PlanLog D) (leaves : journals.Leaves state images old.journal dev (λ here. here ≡ journals.held state old.journal)) (fuse : KeepsUnset state old (record old { journal = dev })) where
    journal_stays : {T : Type 0} (r : Result T JournalFault) → journals.Stays state old.journal dev → faults state (journals.vault_of dev) ≡ faults state (journals.vault_of old.journal) → IsNotDisk r → OnlyThese r
        → Waits state images old (record old { journal = dev }) r
    journal_stays r stays counted not_disk only = record {
      agenda = refl;
      same = λ n. ap (λ (y : Planned). record { chunks = chunks.chunks state old.chunks; held = slots.held state old.slots; journal = y }) (ap journal_of stays.same);
      up = λ n. record { chunks = up.chunks; slots = up.slots; journal = stays.down ∙ up.journal };
      rests = λ n. record {
        may = tt;
        chunk_looked = rests.chunk_looked;
        chunk_sound = rests.chunk_sound;
        chunk_is_opened = rests.chunk_is_opened;
        chunk_room = rests.chunk_room;
        slot_looked = rests.slot_looked;
        slot_sound = rests.slot_sound;
        slot_is_opened = rests.slot_is_opened;
        slot_room = rests.slot_room;
        journal_looked = stays.looked rests.journal_looked;
        journal_sound = stays.sound rests.journal_sound;
        journal_is_opened = stays.opened rests.journal_is_opened;
        journal_room = stays.room 0 0 0 rests.journal_room;
      };
      counted = λ n. omega (arith, counted);
      disk = λ is. absurd (not_disk is);
      only = only;
      chunks = still_chunk state images only_now old.chunks rests.chunk_looked.vault rests.chunk_sound;
      slots = still_slot state images only_now old.slots rests.slot_looked.vault rests.slot_sound;
      journal = leaves;
      fuse = fuse;
    }

    journal_fails : {T : Type 0} → IsDown (journals.vault_of dev) → faults state (journals.vault_of old.journal) < faults state (journals.vault_of dev) → Waits {T = T} state images old (record old { journal = dev }) (Err Disk)
    journal_fails down more = record {
      agenda = refl;
      same = λ n. absurd (n refl);
      up = λ n. absurd (n refl);
      rests = λ n. absurd (n refl);
      counted = λ n. absurd (n refl);
      disk = λ is. (omega (arith, more), inr (inr down));
      only = inl refl;
      chunks = still_chunk state images only_now old.chunks rests.chunk_looked.vault rests.chunk_sound;
      slots = still_slot state images only_now old.slots rests.slot_looked.vault rests.slot_sound;
      journal = leaves;
      fuse = fuse;
    }

  module _ (dev : PlanLog D) (puts bytes : ℕ) where
    pub journal_reserved : (r : Result (Unit {0}) PlanFault) → journals.Reserves state images puts bytes old.journal dev r → Waits state images old (record old { journal = dev }) (caused journal_cause r)
    journal_reserved (Ok x) k = journal_stays dev (k.any_moment up.journal rests.journal_sound) (journal_same state old dev k.fuse) (Ok x) k.stays k.refuses.cause (λ is. cc) tt
    journal_reserved (Err journal_faults.Disk) k = journal_fails dev (k.any_moment up.journal rests.journal_sound) (journal_same state old dev k.fuse) (k.refuses.disk refl) (k.refuses.cause.0 refl)
    journal_reserved (Err journal_faults.Memory) k = journal_stays dev (k.any_moment up.journal rests.journal_sound) (journal_same state old dev k.fuse) (Err Memory) (k.memory refl) (k.refuses.cause.1 (λ is. cc)) (λ is. cc) (inr refl)
    journal_reserved (Err journal_faults.Down) k = let down : IsDown (journals.vault_of old.journal) = k.refuses.down.0 refl in let is = up.journal in absurd cc

    pub journal_has_room : (r : Result (Unit {0}) PlanFault) → journals.Reserves state images puts bytes old.journal dev r → OnOk (caused journal_cause r) (journals.HasRoom state dev 1 puts bytes)
    journal_has_room (Ok x) k = k.room
    journal_has_room (Err e) k = tt

-- one call, and then another
module _ {D T S : Type 0} (state : D → DiskState) (images : D → ℕ → List ℕ → Type 0) (old mid new : Journal D) (first : Result T JournalFault) (not_disk : IsNotDisk first) (a : Waits state images old mid first) (r : Result S JournalFault) (b : Waits state images mid new r) where
  before : devs state mid ≡ devs state old
  before = a.same not_disk

  pub waits_then : Waits state images old new r
  waits_then = record {
    agenda = b.agenda ∙ a.agenda;
    same = λ n. b.same n ∙ before;
    up = b.up;
    rests = b.rests;
    counted = λ n. b.counted n ∙ a.counted not_disk;
    disk = λ is. let d = b.disk is in (omega (arith, d.0, a.counted not_disk), d.1);
    only = b.only;
    chunks = runs_then state images (chunks.vault_of old.chunks) (chunks.vault_of mid.chunks) (chunks.vault_of new.chunks) (λ l. chunks_of l ≡ chunks.chunks state old.chunks) (λ l. chunks_of l ≡ chunks.chunks state mid.chunks) (λ l. chunks_of l ≡ chunks.chunks state old.chunks)
        a.chunks b.chunks (λ l is. is) (λ l is. is ∙ ap (λ (d : ClientDevs). d.chunks) before);
    slots = runs_then state images (slots.vault_of old.slots) (slots.vault_of mid.slots) (slots.vault_of new.slots) (λ l. data_of l ≡ slots.held state old.slots) (λ l. data_of l ≡ slots.held state mid.slots) (λ l. data_of l ≡ slots.held state old.slots)
        a.slots b.slots (λ l is. is) (λ l is. is ∙ ap (λ (d : ClientDevs). d.held) before);
    journal = runs_then state images (journals.vault_of old.journal) (journals.vault_of mid.journal) (journals.vault_of new.journal) (λ l. journal_of l ≡ journals.held state old.journal) (λ l. journal_of l ≡ journals.held state mid.journal) (λ l. journal_of l ≡ journals.held state old.journal)
        a.journal b.journal (λ l is. is) (λ l is. is ∙ ap (λ (d : ClientDevs). d.journal) before);
    fuse = keeps_then state old mid new a.fuse b.fuse;
  }

-- the same under another answer, which isn't that of a disk
pub waits_other : {D T S : Type 0} (state : D → DiskState) (images : D → ℕ → List ℕ → Type 0) (old new : Journal D) (first : Result S JournalFault) → IsNotDisk first
    → Waits state images old new first → (r : Result T JournalFault) → IsNotDisk r
    → IfErr r (λ e. (e ≡ Disk) ⊎ (e ≡ Memory)) → Waits state images old new r
waits_other state images old new first was_not w r not_disk only = record {
  agenda = w.agenda;
  same = λ n. w.same was_not;
  up = λ n. w.up was_not;
  rests = λ n. w.rests was_not;
  counted = λ n. w.counted was_not;
  disk = λ is. absurd (not_disk is);
  only = only;
  chunks = w.chunks;
  slots = w.slots;
  journal = w.journal;
  fuse = w.fuse;
}

-- the same fault in another answer
pub waits_err : {D T S : Type 0} (state : D → DiskState) (images : D → ℕ → List ℕ → Type 0) (old new : Journal D) (e : JournalFault) → Waits {T = S} state images old new (Err e) → Waits {T = T} state images old new (Err e)
waits_err {D} {T} {S} state images old new e w = record {
  agenda = w.agenda;
  same = λ n. w.same (not_it n);
  up = λ n. w.up (not_it n);
  rests = λ n. w.rests (not_it n);
  counted = λ n. w.counted (not_it n);
  disk = λ is. w.disk (let same : e ≡ Disk = cc in ap (λ (x : JournalFault). Err x) same);
  only = w.only;
  chunks = w.chunks;
  slots = w.slots;
  journal = w.journal;
  fuse = w.fuse;
}
  where
    not_it : IsNotDisk {T = T} (Err e) → IsNotDisk {T = S} (Err e)
    not_it n is = n (let same : e ≡ Disk = cc in ap (λ (x : JournalFault). Err x) same)
