-- Calls of a start that write nothing: one device, and one call after the other.
use Rattle.std.proofs.Common.{◌≡◌, inl, inr, ⊎_elim, ◌⊎◌, ℕ, ◌+◌, ◌<◌, List, [], Option, Some, None, Result, Ok, Err, refl, sym, ◌∙◌, ap, subst, arith}
use Rattle.std.specs.Prelude.{◌≤◌, length, IsErrOf, IfOk, IfErr, OnOk}
use Rattle.vault.specs.Limit.{payload_most}
use Rattle.disk_trait.specs.Image.{IsImage}
use Rattle.disk_trait.specs.Calls.{DiskState}
use Rattle.vault.specs.declared.fault.VaultFault.{VaultFault}
use Rattle.vault.specs.declared.fault.VaultFault.TheVariants as causes
use Rattle.vault.specs.declared.vault.Vault.{Vault}
use Rattle.vault.specs.Standing.{payloads, faults, IsUp, IsDown}
use Rattle.vault.specs.Standing as vaults
use Rattle.vault.proofs.Uppers.{runs_then}
use Rattle.stab_base.specs.declared.chunk_name.ChunkName.{ChunkName}
use Rattle.chunk_store.specs.declared.device.ChunkDev.{ChunkDev}
use Rattle.chunk_store.specs.declared.fault.ChunkFault.{ChunkFault}
use Rattle.chunk_store.specs.declared.fault.ChunkFault.TheVariants as chunk_faults
use Rattle.chunk_store.specs.Fault.{fault_of as chunk_fault}
use Rattle.chunk_store.specs.Payload.{chunks_of}
use Rattle.chunk_store.specs.Standing as chunks
use Rattle.slot_store.specs.declared.device.SlotDev.{SlotDev}
use Rattle.slot_store.specs.declared.fault.SlotFault.{SlotFault}
use Rattle.slot_store.specs.declared.fault.SlotFault.TheVariants as slot_faults
use Rattle.slot_store.specs.Fault.{fault_of as slot_fault}
use Rattle.slot_store.specs.Data.{SlotData, data_of}
use Rattle.slot_store.specs.Standing as slots
use Rattle.plan_log.specs.declared.device.PlanLog.{PlanLog}
use Rattle.plan_log.specs.declared.fault.PlanFault.{PlanFault}
use Rattle.plan_log.specs.declared.fault.PlanFault.TheVariants as journal_faults
use Rattle.plan_log.specs.Fault.{fault_of as journal_fault}
use Rattle.plan_log.specs.Journal.{Journal as Planned}
use Rattle.plan_log.specs.Journal.{journal_of}
use Rattle.plan_log.specs.Standing as journals
use Rattle.client_journal.specs.declared.devs.Journal.{Journal}
use Rattle.client_journal.specs.declared.fault.JournalFault.{JournalFault}
use Rattle.client_journal.specs.declared.fault.JournalFault.TheVariants.{Disk, Memory}
use Rattle.client_journal.specs.Fault.{caused, chunk_cause, slot_cause, journal_cause}
use Rattle.client_journal.specs.Devs.{ClientDevs}
use Rattle.client_journal.specs.Standing.{devs, AreUp, IsReady}
use Rattle.client_journal.specs.TakesOn.{IsNotDisk}
use Rattle.client_journal.specs.Recover.{IsStarting, Starts}
use Rattle.client_journal.specs.Unset.{KeepsUnset}
use Rattle.client_journal.proofs.Works.{still_chunk, still_slot, still_journal}
use Rattle.client_journal.proofs.Fusing.{keeps_then, keeps_vaults, keeps_same, chunk_same, slot_same, journal_same}

abbrev OnlyThese : {T : Type 0} → Result T JournalFault → Type 0
OnlyThese result = IfErr result (λ e. (e ≡ Disk) ⊎ (e ≡ Memory))

module _ {D : Type 0} (state : D → DiskState) (images : D → ℕ → List ℕ → Type 0) (only_now : (disk : D) (image : List ℕ) → images disk (state disk).moment image → IsImage (state disk).pending image) (old : Journal D) (s : IsStarting state old) where
  -- nothing was done
  pub none_starts : {T : Type 0} (r : Result T JournalFault) → IsNotDisk r → OnlyThese r → Starts state images old old r
  none_starts r not_disk only = record {
    agenda = refl;
    same = λ n. refl;
    starting = λ n. s;
    counted = λ n. refl;
    disk = λ is. absurd (not_disk is);
    only = only;
    chunks = still_chunk state images only_now old.chunks s.looked.chunks.vault s.sound.chunks;
    slots = still_slot state images only_now old.slots s.looked.slots.vault s.sound.slots;
    journal = still_journal state images only_now old.journal s.looked.journal.vault s.sound.journal;
    fuse = keeps_same state old old refl refl refl;
  }

  module _ (dev : ChunkDev D) (leaves : chunks.Leaves state images old.chunks dev (λ here. here ≡ chunks.chunks state old.chunks)) (fuse : KeepsUnset state old (record old { chunks = dev })) where
    chunk_stays : {T : Type 0} (r : Result T JournalFault) → chunks.Stays state old.chunks dev → faults state (chunks.vault_of dev) ≡ faults state (chunks.vault_of old.chunks) → IsNotDisk r
        → OnlyThese r
        → Starts state images old (record old { chunks = dev }) r
    chunk_stays r stays counted not_disk only = record {
      agenda = refl;
      same = λ n. ap (λ (y : List (ChunkName × List ℕ)). record { chunks = y; held = slots.held state old.slots; journal = journals.held state old.journal }) (ap chunks_of stays.same);
      starting = λ n. record {
        looked = record { chunks = stays.looked s.looked.chunks; slots = s.looked.slots; journal = s.looked.journal };
        sound = record { chunks = stays.sound s.sound.chunks; slots = s.sound.slots; journal = s.sound.journal };
        openings = record { chunks = stays.room 1 0 0 s.openings.chunks; slots = s.openings.slots; journal = s.openings.journal };
        idle = s.idle;
      };
      counted = λ n. omega (arith, counted);
      disk = λ is. absurd (not_disk is);
      only = only;
      chunks = leaves;
      slots = still_slot state images only_now old.slots s.looked.slots.vault s.sound.slots;
      journal = still_journal state images only_now old.journal s.looked.journal.vault s.sound.journal;
      fuse = fuse;
    }

    chunk_fails : {T : Type 0} → IsDown (chunks.vault_of dev) → faults state (chunks.vault_of old.chunks) < faults state (chunks.vault_of dev) → Starts {T = T} state images old (record old { chunks = dev }) (Err Disk)
    chunk_fails down more = record {
      agenda = refl;
      same = λ n. absurd (n refl);
      starting = λ n. absurd (n refl);
      counted = λ n. absurd (n refl);
      disk = λ is. (omega (arith, more), inl down);
      only = inl refl;
      chunks = leaves;
      slots = still_slot state images only_now old.slots s.looked.slots.vault s.sound.slots;
      journal = still_journal state images only_now old.journal s.looked.journal.vault s.sound.journal;
      fuse = fuse;
    }

  module _ (dev : ChunkDev D) (puts bytes : ℕ) where
    pub chunk_start_reserved : (r : Result (Unit {0}) ChunkFault) → chunks.Reserves state images puts bytes old.chunks dev r → Starts state images old (record old { chunks = dev }) (caused chunk_cause r)
    chunk_start_reserved (Ok x) k = chunk_stays dev (k.any_moment s.looked.chunks.vault.up s.sound.chunks) (chunk_same state old dev k.fuse) (Ok x) k.stays k.refuses.cause (λ is. cc) tt
    chunk_start_reserved (Err chunk_faults.Disk) k = chunk_fails dev (k.any_moment s.looked.chunks.vault.up s.sound.chunks) (chunk_same state old dev k.fuse) (k.refuses.disk refl) (k.refuses.cause.0 refl)
    chunk_start_reserved (Err chunk_faults.Memory) k = chunk_stays dev (k.any_moment s.looked.chunks.vault.up s.sound.chunks) (chunk_same state old dev k.fuse) (Err Memory) (k.memory refl) (k.refuses.cause.1 (λ is. cc)) (λ is. cc) (inr refl)
    chunk_start_reserved (Err chunk_faults.Down) k = let down : IsDown (chunks.vault_of old.chunks) = k.refuses.down.0 refl in let is = s.looked.chunks.vault.up in absurd cc
    chunk_start_reserved (Err chunk_faults.Absent) k = absurd (not_its k.only.0 k.only.1)
      where
        not_its : (c : VaultFault) → chunk_faults.Absent ≡ chunk_fault c → ⊥
        not_its causes.Disk is = cc
        not_its causes.Down is = cc
        not_its causes.Memory is = cc

    pub chunk_start_room : (r : Result (Unit {0}) ChunkFault) → chunks.Reserves state images puts bytes old.chunks dev r → OnOk (caused chunk_cause r) (chunks.HasRoom state dev 1 puts bytes)
    chunk_start_room (Ok x) k = k.room
    chunk_start_room (Err e) k = tt

  module _ (dev : SlotDev D) (leaves : slots.Leaves state images old.slots dev (λ here. here ≡ slots.held state old.slots)) (fuse : KeepsUnset state old (record old { slots = dev })) where
    slot_stays : {T : Type 0} (r : Result T JournalFault) → slots.Stays state old.slots dev → faults state (slots.vault_of dev) ≡ faults state (slots.vault_of old.slots) → IsNotDisk r → OnlyThese r
        → Starts state images old (record old { slots = dev }) r
    slot_stays r stays counted not_disk only = record {
      agenda = refl;
      same = λ n. ap (λ (y : SlotData). record { chunks = chunks.chunks state old.chunks; held = y; journal = journals.held state old.journal }) (ap data_of stays.same);
      starting = λ n. record {
        looked = record { chunks = s.looked.chunks; slots = stays.looked s.looked.slots; journal = s.looked.journal };
        sound = record { chunks = s.sound.chunks; slots = stays.sound s.sound.slots; journal = s.sound.journal };
        openings = record { chunks = s.openings.chunks; slots = stays.room 1 0 0 s.openings.slots; journal = s.openings.journal };
        idle = s.idle;
      };
      counted = λ n. omega (arith, counted);
      disk = λ is. absurd (not_disk is);
      only = only;
      chunks = still_chunk state images only_now old.chunks s.looked.chunks.vault s.sound.chunks;
      slots = leaves;
      journal = still_journal state images only_now old.journal s.looked.journal.vault s.sound.journal;
      fuse = fuse;
    }

    slot_fails : {T : Type 0} → IsDown (slots.vault_of dev) → faults state (slots.vault_of old.slots) < faults state (slots.vault_of dev) → Starts {T = T} state images old (record old { slots = dev }) (Err Disk)
    slot_fails down more = record {
      agenda = refl;
      same = λ n. absurd (n refl);
      starting = λ n. absurd (n refl);
      counted = λ n. absurd (n refl);
      disk = λ is. (omega (arith, more), inr (inl down));
      only = inl refl;
      chunks = still_chunk state images only_now old.chunks s.looked.chunks.vault s.sound.chunks;
      slots = leaves;
      journal = still_journal state images only_now old.journal s.looked.journal.vault s.sound.journal;
      fuse = fuse;
    }

  module _ (dev : SlotDev D) (puts bytes : ℕ) where
    pub slot_start_reserved : (r : Result (Unit {0}) SlotFault) → slots.Reserves state images puts bytes old.slots dev r → Starts state images old (record old { slots = dev }) (caused slot_cause r)
    slot_start_reserved (Ok x) k = slot_stays dev (k.any_moment s.looked.slots.vault.up s.sound.slots) (slot_same state old dev k.fuse) (Ok x) k.stays k.refuses.cause (λ is. cc) tt
    slot_start_reserved (Err slot_faults.Disk) k = slot_fails dev (k.any_moment s.looked.slots.vault.up s.sound.slots) (slot_same state old dev k.fuse) (k.refuses.disk refl) (k.refuses.cause.0 refl)
    slot_start_reserved (Err slot_faults.Memory) k = slot_stays dev (k.any_moment s.looked.slots.vault.up s.sound.slots) (slot_same state old dev k.fuse) (Err Memory) (k.memory refl) (k.refuses.cause.1 (λ is. cc)) (λ is. cc) (inr refl)
    slot_start_reserved (Err slot_faults.Down) k = let down : IsDown (slots.vault_of old.slots) = k.refuses.down.0 refl in let is = s.looked.slots.vault.up in absurd cc
    slot_start_reserved (Err slot_faults.NoRow) k = absurd (not_its k.only.0 k.only.1)
      where
        not_its : (c : VaultFault) → slot_faults.NoRow ≡ slot_fault c → ⊥
        not_its causes.Disk is = cc
        not_its causes.Down is = cc
        not_its causes.Memory is = cc

    pub slot_start_room : (r : Result (Unit {0}) SlotFault) → slots.Reserves state images puts bytes old.slots dev r → OnOk (caused slot_cause r) (slots.HasRoom state dev 1 puts bytes)
    slot_start_room (Ok x) k = k.room
    slot_start_room (Err e) k = tt

  module _ (dev : PlanLog D) (leaves : journals.Leaves state images old.journal dev (λ here. here ≡ journals.held state old.journal)) (fuse : KeepsUnset state old (record old { journal = dev })) where
    journal_stays : {T : Type 0} (r : Result T JournalFault) → journals.Stays state old.journal dev → faults state (journals.vault_of dev) ≡ faults state (journals.vault_of old.journal) → IsNotDisk r → OnlyThese r
        → Starts state images old (record old { journal = dev }) r
    journal_stays r stays counted not_disk only = record {
      agenda = refl;
      same = λ n. ap (λ (y : Planned). record { chunks = chunks.chunks state old.chunks; held = slots.held state old.slots; journal = y }) (ap journal_of stays.same);
      starting = λ n. record {
        looked = record { chunks = s.looked.chunks; slots = s.looked.slots; journal = stays.looked s.looked.journal };
        sound = record { chunks = s.sound.chunks; slots = s.sound.slots; journal = stays.sound s.sound.journal };
        openings = record { chunks = s.openings.chunks; slots = s.openings.slots; journal = stays.room 1 0 0 s.openings.journal };
        idle = s.idle;
      };
      counted = λ n. omega (arith, counted);
      disk = λ is. absurd (not_disk is);
      only = only;
      chunks = still_chunk state images only_now old.chunks s.looked.chunks.vault s.sound.chunks;
      slots = still_slot state images only_now old.slots s.looked.slots.vault s.sound.slots;
      journal = leaves;
      fuse = fuse;
    }

    journal_fails : {T : Type 0} → IsDown (journals.vault_of dev) → faults state (journals.vault_of old.journal) < faults state (journals.vault_of dev) → Starts {T = T} state images old (record old { journal = dev }) (Err Disk)
    journal_fails down more = record {
      agenda = refl;
      same = λ n. absurd (n refl);
      starting = λ n. absurd (n refl);
      counted = λ n. absurd (n refl);
      disk = λ is. (omega (arith, more), inr (inr down));
      only = inl refl;
      chunks = still_chunk state images only_now old.chunks s.looked.chunks.vault s.sound.chunks;
      slots = still_slot state images only_now old.slots s.looked.slots.vault s.sound.slots;
      journal = leaves;
      fuse = fuse;
    }

  module _ (dev : PlanLog D) (puts bytes : ℕ) where
    pub journal_start_reserved : (r : Result (Unit {0}) PlanFault) → journals.Reserves state images puts bytes old.journal dev r → Starts state images old (record old { journal = dev }) (caused journal_cause r)
    journal_start_reserved (Ok x) k = journal_stays dev (k.any_moment s.looked.journal.vault.up s.sound.journal) (journal_same state old dev k.fuse) (Ok x) k.stays k.refuses.cause (λ is. cc) tt
    journal_start_reserved (Err journal_faults.Disk) k = journal_fails dev (k.any_moment s.looked.journal.vault.up s.sound.journal) (journal_same state old dev k.fuse) (k.refuses.disk refl) (k.refuses.cause.0 refl)
    journal_start_reserved (Err journal_faults.Memory) k = journal_stays dev (k.any_moment s.looked.journal.vault.up s.sound.journal) (journal_same state old dev k.fuse) (Err Memory) (k.memory refl) (k.refuses.cause.1 (λ is. cc)) (λ is. cc) (inr refl)
    journal_start_reserved (Err journal_faults.Down) k = let down : IsDown (journals.vault_of old.journal) = k.refuses.down.0 refl in let is = s.looked.journal.vault.up in absurd cc

    pub journal_start_room : (r : Result (Unit {0}) PlanFault) → journals.Reserves state images puts bytes old.journal dev r → OnOk (caused journal_cause r) (journals.HasRoom state dev 1 puts bytes)
    journal_start_room (Ok x) k = k.room
    journal_start_room (Err e) k = tt

  module _ {T : Type 0} (dev : PlanLog D) where
    pub journal_read : (r : Result T PlanFault) → journals.Gets state images old.journal dev r → Starts state images old (record old { journal = dev }) (caused journal_cause r)
    journal_read (Ok x) k = journal_stays dev (k.any_moment s.looked.journal.vault.up s.sound.journal) (journal_same state old dev k.fuse) (Ok x) k.stays k.refuses.cause (λ is. cc) tt
    journal_read (Err journal_faults.Disk) k = journal_fails dev (k.any_moment s.looked.journal.vault.up s.sound.journal) (journal_same state old dev k.fuse) (k.refuses.disk refl) (k.refuses.cause.0 refl)
    journal_read (Err journal_faults.Memory) k = journal_stays dev (k.any_moment s.looked.journal.vault.up s.sound.journal) (journal_same state old dev k.fuse) (Err Memory) (k.memory refl) (k.refuses.cause.1 (λ is. cc)) (λ is. cc) (inr refl)
    journal_read (Err journal_faults.Down) k = let down : IsDown (journals.vault_of old.journal) = k.refuses.down.0 refl in let is = s.looked.journal.vault.up in absurd cc

  -- the names below a count were read
  pub chunks_told : {T : Type 0} (dev : ChunkDev D) → chunks.Stays state old.chunks dev → chunks.vault_of dev ≡ chunks.vault_of old.chunks → (r : Result T JournalFault) → IsNotDisk r → OnlyThese r
      → Starts state images old (record old { chunks = dev }) r
  chunks_told dev stays same r not_disk only =
      chunk_stays dev
      (subst (λ (v : Vault D). vaults.Leaves state images (chunks.vault_of old.chunks) v (λ l. chunks_of l ≡ chunks.chunks state old.chunks)) (sym same) (still_chunk state images only_now old.chunks s.looked.chunks.vault s.sound.chunks))
      (keeps_vaults state old (record old { chunks = dev }) same refl refl) r stays (ap (λ (v : Vault D). faults state v) same) not_disk only

-- one call, and then another
module _ {D T S : Type 0} (state : D → DiskState) (images : D → ℕ → List ℕ → Type 0) (old mid new : Journal D) (first : Result T JournalFault) (not_disk : IsNotDisk first) (a : Starts state images old mid first) (r : Result S JournalFault) (b : Starts state images mid new r) where
  before : devs state mid ≡ devs state old
  before = a.same not_disk

  pub starts_then : Starts state images old new r
  starts_then = record {
    agenda = b.agenda ∙ a.agenda;
    same = λ n. b.same n ∙ before;
    starting = b.starting;
    counted = λ n. b.counted n ∙ a.counted not_disk;
    disk = λ is. let d = b.disk is in (omega (arith, d.0, a.counted not_disk), d.1);
    only = b.only;
    chunks = runs_then state images (chunks.vault_of old.chunks) (chunks.vault_of mid.chunks) (chunks.vault_of new.chunks) (λ l. chunks_of l ≡ chunks.chunks state old.chunks) (λ l. chunks_of l ≡ chunks.chunks state mid.chunks) (λ l. chunks_of l ≡ chunks.chunks state old.chunks)
        a.chunks b.chunks (λ l is. is) (λ l is. is ∙ ap (λ (d : ClientDevs). d.chunks) before);
    slots = runs_then state images (slots.vault_of old.slots) (slots.vault_of mid.slots) (slots.vault_of new.slots) (λ l. data_of l ≡ slots.held state old.slots) (λ l. data_of l ≡ slots.held state mid.slots) (λ l. data_of l ≡ slots.held state old.slots)
        a.slots b.slots (λ l is. is) (λ l is. is ∙ ap (λ (d : ClientDevs). d.held) before);
    journal = runs_then state images (journals.vault_of old.journal) (journals.vault_of mid.journal) (journals.vault_of new.journal) (λ l. journal_of l ≡ journals.held state old.journal) (λ l. journal_of l ≡ journals.held state mid.journal) (λ l. journal_of l ≡ journals.held state old.journal)
        a.journal b.journal (λ l is. is) (λ l is. is ∙ ap (λ (d : ClientDevs). d.journal) before);
    fuse = keeps_then state old mid new a.fuse b.fuse;
  }

-- the same under another answer, which isn't that of a disk
pub starts_other : {D T S : Type 0} (state : D → DiskState) (images : D → ℕ → List ℕ → Type 0) (old new : Journal D) (first : Result S JournalFault) → IsNotDisk first
    → Starts state images old new first → (r : Result T JournalFault) → IsNotDisk r
    → IfErr r (λ e. (e ≡ Disk) ⊎ (e ≡ Memory)) → Starts state images old new r
starts_other state images old new first was_not w r not_disk only = record {
  agenda = w.agenda;
  same = λ n. w.same was_not;
  starting = λ n. w.starting was_not;
  counted = λ n. w.counted was_not;
  disk = λ is. absurd (not_disk is);
  only = only;
  chunks = w.chunks;
  slots = w.slots;
  journal = w.journal;
  fuse = w.fuse;
}

-- the same fault in another answer
pub starts_err : {D T S : Type 0} (state : D → DiskState) (images : D → ℕ → List ℕ → Type 0) (old new : Journal D) (e : JournalFault) → Starts {T = S} state images old new (Err e) → Starts {T = T} state images old new (Err e)
starts_err {D} {T} {S} state images old new e w = record {
  agenda = w.agenda;
  same = λ n. w.same (not_it n);
  starting = λ n. w.starting (not_it n);
  counted = λ n. w.counted (not_it n);
  disk = λ is. w.disk (let same : e ≡ Disk = cc in ap (λ (x : JournalFault). Err x) same);
  only = w.only;
  chunks = w.chunks;
  slots = w.slots;
  journal = w.journal;
  fuse = w.fuse;
}
  where
    not_it : IsNotDisk {T = T} (Err e) → IsNotDisk {T = S} (Err e)
    not_it n is = n (let same : e ≡ Disk = cc in ap (λ (x : JournalFault). Err x) same)
