-- What a call promises that writes nothing and may be made whatever is still to be done.
use Rattle.std.proofs.Common.{◌≡◌, inl, inr, ⊎_elim, ◌⊎◌, ℕ, ◌+◌, ◌<◌, List, [], Option, Some, None, Result, Ok, Err, refl, sym, ◌∙◌, ap, subst, arith}
use Rattle.std.specs.Prelude.{IsErrOf, IfErr}
use Rattle.disk_trait.specs.Image.{IsImage}
use Rattle.disk_trait.specs.Calls.{DiskState}
use Rattle.vault.specs.declared.fault.VaultFault.{VaultFault}
use Rattle.vault.specs.declared.vault.Vault.{Vault}
use Rattle.vault.specs.declared.folded.Folded.{Folded}
use Rattle.vault.specs.Folded.{Stays}
use Rattle.vault.specs.Standing.{payloads, faults, IsUp, IsDown, IsSound}
use Rattle.vault.specs.Standing as vaults
use Rattle.vault.proofs.Uppers.{runs_then}
use Rattle.stab_base.specs.declared.chunk_name.ChunkName.{ChunkName}
use Rattle.chunk_store.specs.declared.device.ChunkDev.{ChunkDev}
use Rattle.chunk_store.specs.declared.fault.ChunkFault.{ChunkFault}
use Rattle.chunk_store.specs.declared.fault.ChunkFault.TheVariants as chunk_faults
use Rattle.chunk_store.specs.Payload.{chunks_of}
use Rattle.chunk_store.specs.Standing as chunks
use Rattle.slot_store.specs.declared.device.SlotDev.{SlotDev}
use Rattle.slot_store.specs.declared.fault.SlotFault.{SlotFault}
use Rattle.slot_store.specs.declared.fault.SlotFault.TheVariants as slot_faults
use Rattle.slot_store.specs.declared.held.RowSlots.{RowSlots}
use Rattle.slot_store.specs.Data.{SlotData, data_of}
use Rattle.slot_store.specs.Standing as slots
use Rattle.plan_log.specs.declared.device.PlanLog.{PlanLog}
use Rattle.plan_log.specs.declared.fault.PlanFault.{PlanFault}
use Rattle.plan_log.specs.declared.fault.PlanFault.TheVariants as journal_faults
use Rattle.plan_log.specs.Journal.{journal_of}
use Rattle.plan_log.specs.Journal.{Journal as Planned}
use Rattle.plan_log.specs.Standing as journals
use Rattle.client_journal.specs.declared.devs.Journal.{Journal}
use Rattle.client_journal.specs.declared.fault.JournalFault.{JournalFault}
use Rattle.client_journal.specs.declared.fault.JournalFault.TheVariants.{Disk, Down, Memory}
use Rattle.client_journal.specs.Fault.{caused, journal_cause, slot_cause, slots_found, chunk_found}
use Rattle.client_journal.specs.Devs.{ClientDevs}
use Rattle.client_journal.specs.Standing.{devs, writes_of, all_faults, AreUp, IsOneDown, AreLookedAt, AreSound, DevsLeave}
use Rattle.client_journal.specs.TakesOn.{IsNotDisk}
use Rattle.client_journal.specs.Asking.{AllStay, AllLeave, Reads, Asks}
use Rattle.client_journal.specs.Unset.{KeepsUnset}
use Rattle.client_journal.proofs.Works.{still_chunk, still_slot, still_journal, all_same, up_or_down}
use Rattle.client_journal.proofs.Fusing.{keeps_then, keeps_vaults, keeps_same, chunk_same, slot_same, journal_same}

abbrev OnlyThese : {T : Type 0} → Result T JournalFault → Type 0
OnlyThese result = IfErr result (λ e. (e ≡ Disk) ⊎ (e ≡ Memory))

-- ---- folded vaults

module _ {D F : Type 0} (state : D → DiskState) (fits : F → List (List ℕ) → Type 0) (has_spare : F → ℕ → ℕ → Type 0) where
  itself : (f : Folded D F) → Stays state fits has_spare f f
  itself f = record { same = refl; down = refl; synced = λ h. h; looked = λ h. h; opened = λ h. h; sound = λ h. h; room = λ o a b h. h }

  both_stay : (old mid new : Folded D F) → Stays state fits has_spare old mid → Stays state fits has_spare mid new → Stays state fits has_spare old new
  both_stay old mid new a b = record {
    same = b.same ∙ a.same;
    down = b.down ∙ a.down;
    synced = λ h. b.synced (a.synced h);
    looked = λ h. b.looked (a.looked h);
    opened = λ h. b.opened (a.opened h);
    sound = λ h. b.sound (a.sound h);
    room = λ o n m h. b.room o n m (a.room o n m h);
  }

-- ---- what stays

module _ {D : Type 0} (state : D → DiskState) (old new : Journal D) (s : AllStay state old new) where
  pub stay_devs : devs state new ≡ devs state old
  stay_devs =
      let c : chunks.chunks state new.chunks ≡ chunks.chunks state old.chunks = ap chunks_of s.chunks.same in
      let h : slots.held state new.slots ≡ slots.held state old.slots = ap data_of s.slots.same in
      let l : journals.held state new.journal ≡ journals.held state old.journal = ap journal_of s.journal.same in
      cc

  pub stay_up : AreUp old → AreUp new
  stay_up up = record { chunks = s.chunks.down ∙ up.chunks; slots = s.slots.down ∙ up.slots; journal = s.journal.down ∙ up.journal }

  pub stay_looked : AreLookedAt state old → AreLookedAt state new
  stay_looked l = record { chunks = s.chunks.looked l.chunks; slots = s.slots.looked l.slots; journal = s.journal.looked l.journal }

  stay_sound : AreSound state old → AreSound state new
  stay_sound k = record { chunks = s.chunks.sound k.chunks; slots = s.slots.sound k.slots; journal = s.journal.sound k.journal }

pub stay_all : {D : Type 0} (state : D → DiskState) (old : Journal D) → AllStay state old old
stay_all state old = record { chunks = itself state _ _ old.chunks.inner; slots = itself state _ _ old.slots.inner; journal = itself state _ _ old.journal.inner }

-- ---- one call

module _ {D : Type 0} (state : D → DiskState) (images : D → ℕ → List ℕ → Type 0) (only_now : (disk : D) (image : List ℕ) → images disk (state disk).moment image → IsImage (state disk).pending image) (old : Journal D) where
  -- a device is down
  pub asks_down : {T : Type 0} → IsOneDown old → Asks {T = T} state images old old (Err Down)
  asks_down down = record {
    stay = λ n. stay_all state old;
    same = λ n. refl;
    counted = λ n. refl;
    disk = λ is. absurd cc;
    down = (λ is. down, λ is. refl);
    unchanged = λ is. refl;
    only = inr (inl refl);
    any_moment = λ up. absurd (up_or_down old up down);
    leave = λ up. absurd (up_or_down old up down);
    agenda = refl;
    fuse = keeps_same state old old refl refl refl;
  }

  module _ (up : AreUp old) (looked : AreLookedAt state old) where
    not_down : {T : Type 0} (r : Result T JournalFault) → OnlyThese r → IsErrOf r Down → ⊥
    not_down (Ok x) only is = cc
    not_down (Err e) only is = let same : e ≡ Down = cc in ⊎_elim (λ x. cc) (λ x. cc) only

    wider : {T : Type 0} (r : Result T JournalFault) → OnlyThese r → IfErr r (λ e. (e ≡ Disk) ⊎ ((e ≡ Down) ⊎ (e ≡ Memory)))
    wider (Ok x) only = tt
    wider (Err e) only = ⊎_elim (λ x. inl x) (λ x. inr (inr x)) only

    pub asks_reads : {T : Type 0} (new : Journal D) (r : Result T JournalFault) → Reads state images old new r → Asks state images old new r
    asks_reads new r k = record {
      stay = k.stay;
      same = λ n. stay_devs state old new (k.stay n);
      counted = k.counted;
      disk = k.disk;
      down = (λ is. absurd (not_down r k.only is), λ down. absurd (up_or_down old up down));
      unchanged = λ is. absurd (not_down r k.only is);
      only = wider r k.only;
      any_moment = λ up sound. all_same state images only_now old new (k.chunks sound) (k.slots sound) (k.journal sound);
      leave = λ up sound. record { chunks = k.chunks sound; slots = k.slots sound; journal = k.journal sound };
      agenda = k.agenda;
      fuse = k.fuse;
    }

    leaves_chunks : AreSound state old → chunks.Leaves state images old.chunks old.chunks (λ here. here ≡ chunks.chunks state old.chunks)
    leaves_chunks s = still_chunk state images only_now old.chunks looked.chunks.vault s.chunks

    leaves_slots : AreSound state old → slots.Leaves state images old.slots old.slots (λ here. here ≡ slots.held state old.slots)
    leaves_slots s = still_slot state images only_now old.slots looked.slots.vault s.slots

    leaves_journal : AreSound state old → journals.Leaves state images old.journal old.journal (λ here. here ≡ journals.held state old.journal)
    leaves_journal s = still_journal state images only_now old.journal looked.journal.vault s.journal

    -- nothing was done
    pub reads_none : {T : Type 0} (r : Result T JournalFault) → IsNotDisk r → OnlyThese r → Reads state images old old r
    reads_none r not_disk only = record {
      stay = λ n. stay_all state old;
      counted = λ n. refl;
      disk = λ is. absurd (not_disk is);
      only = only;
      chunks = leaves_chunks;
      slots = leaves_slots;
      journal = leaves_journal;
      agenda = refl;
      fuse = keeps_same state old old refl refl refl;
    }

    pub asks_none : {T : Type 0} (r : Result T JournalFault) → IsNotDisk r → OnlyThese r → Asks state images old old r
    asks_none r not_disk only = asks_reads old r (reads_none r not_disk only)

    -- the device of the chunks alone was asked
    module _ {T : Type 0} (dev : ChunkDev D) (leaves : AreSound state old → chunks.Leaves state images old.chunks dev (λ here. here ≡ chunks.chunks state old.chunks)) (fuse : KeepsUnset state old (record old { chunks = dev })) where
      chunk_stays : (r : Result T JournalFault) → chunks.Stays state old.chunks dev → faults state (chunks.vault_of dev) ≡ faults state (chunks.vault_of old.chunks) → IsNotDisk r → OnlyThese r → Reads state images old (record old { chunks = dev }) r
      chunk_stays r stays counted not_disk only = record {
        stay = λ n. record { chunks = stays; slots = itself state _ _ old.slots.inner; journal = itself state _ _ old.journal.inner };
        counted = λ n. omega (arith, counted);
        disk = λ is. absurd (not_disk is);
        only = only;
        chunks = leaves;
        slots = leaves_slots;
        journal = leaves_journal;
        agenda = refl;
        fuse = fuse;
      }

      chunk_fails : IsDown (chunks.vault_of dev) → faults state (chunks.vault_of old.chunks) < faults state (chunks.vault_of dev) → Reads {T = T} state images old (record old { chunks = dev }) (Err Disk)
      chunk_fails down more = record {
        stay = λ n. absurd (n refl);
        counted = λ n. absurd (n refl);
        disk = λ is. (omega (arith, more), inl down);
        only = inl refl;
        chunks = leaves;
        slots = leaves_slots;
        journal = leaves_journal;
        agenda = refl;
        fuse = fuse;
      }

    -- a chunk was looked for
    pub chunk_read : (dev : ChunkDev D) (r : Result (List ℕ) ChunkFault) → chunks.Gets state images old.chunks dev r → (IsErrOf r chunk_faults.Absent → dev ≡ old.chunks)
        → Reads state images old (record old { chunks = dev }) (chunk_found r)
    chunk_read dev (Ok x) k same = chunk_stays dev (λ s. k.any_moment up.chunks s.chunks) (chunk_same state old dev k.fuse) (Ok (Some x)) k.stays k.refuses.cause (λ is. cc) tt
    chunk_read dev (Err chunk_faults.Absent) k same =
        let none : Option (List ℕ) = None in
        subst (λ (d : ChunkDev D). Reads state images old (record old { chunks = d }) (Ok none)) (sym (same refl)) (reads_none {T = Option (List ℕ)} (Ok None) (λ is. cc) tt)
    chunk_read dev (Err chunk_faults.Disk) k same = chunk_fails dev (λ s. k.any_moment up.chunks s.chunks) (chunk_same state old dev k.fuse) (k.refuses.disk refl) (k.refuses.cause.0 refl)
    chunk_read dev (Err chunk_faults.Memory) k same = chunk_stays dev (λ s. k.any_moment up.chunks s.chunks) (chunk_same state old dev k.fuse) (Err Memory) (k.memory refl) (k.refuses.cause.1 (λ is. cc)) (λ is. cc) (inr refl)
    chunk_read dev (Err chunk_faults.Down) k same = let down : IsDown (chunks.vault_of old.chunks) = k.refuses.down.0 refl in let is = up.chunks in absurd cc

    -- the device of the slots alone was asked
    module _ {T : Type 0} (dev : SlotDev D) (leaves : AreSound state old → slots.Leaves state images old.slots dev (λ here. here ≡ slots.held state old.slots)) (fuse : KeepsUnset state old (record old { slots = dev })) where
      slot_stays : (r : Result T JournalFault) → slots.Stays state old.slots dev → faults state (slots.vault_of dev) ≡ faults state (slots.vault_of old.slots) → IsNotDisk r → OnlyThese r → Reads state images old (record old { slots = dev }) r
      slot_stays r stays counted not_disk only = record {
        stay = λ n. record { chunks = itself state _ _ old.chunks.inner; slots = stays; journal = itself state _ _ old.journal.inner };
        counted = λ n. omega (arith, counted);
        disk = λ is. absurd (not_disk is);
        only = only;
        chunks = leaves_chunks;
        slots = leaves;
        journal = leaves_journal;
        agenda = refl;
        fuse = fuse;
      }

      slot_fails : IsDown (slots.vault_of dev) → faults state (slots.vault_of old.slots) < faults state (slots.vault_of dev) → Reads {T = T} state images old (record old { slots = dev }) (Err Disk)
      slot_fails down more = record {
        stay = λ n. absurd (n refl);
        counted = λ n. absurd (n refl);
        disk = λ is. (omega (arith, more), inr (inl down));
        only = inl refl;
        chunks = leaves_chunks;
        slots = leaves;
        journal = leaves_journal;
        agenda = refl;
        fuse = fuse;
      }

    -- a row's slots were looked for
    pub slots_read : (dev : SlotDev D) (r : Result RowSlots SlotFault) → slots.Gets state images old.slots dev r → (IsErrOf r slot_faults.NoRow → dev ≡ old.slots)
        → Reads state images old (record old { slots = dev }) (slots_found r)
    slots_read dev (Ok x) k same = slot_stays dev (λ s. k.any_moment up.slots s.slots) (slot_same state old dev k.fuse) (Ok (Some x)) k.stays k.refuses.cause (λ is. cc) tt
    slots_read dev (Err slot_faults.NoRow) k same =
        let none : Option RowSlots = None in
        subst (λ (d : SlotDev D). Reads state images old (record old { slots = d }) (Ok none)) (sym (same refl)) (reads_none {T = Option RowSlots} (Ok None) (λ is. cc) tt)
    slots_read dev (Err slot_faults.Disk) k same = slot_fails dev (λ s. k.any_moment up.slots s.slots) (slot_same state old dev k.fuse) (k.refuses.disk refl) (k.refuses.cause.0 refl)
    slots_read dev (Err slot_faults.Memory) k same = slot_stays dev (λ s. k.any_moment up.slots s.slots) (slot_same state old dev k.fuse) (Err Memory) (k.memory refl) (k.refuses.cause.1 (λ is. cc)) (λ is. cc) (inr refl)
    slots_read dev (Err slot_faults.Down) k same = let down : IsDown (slots.vault_of old.slots) = k.refuses.down.0 refl in let is = up.slots in absurd cc

    -- the rows that are kept in memory were listed
    module _ {T : Type 0} (dev : SlotDev D) (stays : slots.Stays state old.slots dev) (vault : slots.vault_of dev ≡ slots.vault_of old.slots) where
      listed : (r : Result T JournalFault) → IsNotDisk r → OnlyThese r → Reads state images old (record old { slots = dev }) r
      listed r not_disk only =
          slot_stays dev
          (λ s. subst (λ (v : Vault D). vaults.Leaves state images (slots.vault_of old.slots) v (λ l. data_of l ≡ slots.held state old.slots)) (sym vault) (leaves_slots s))
          (keeps_vaults state old (record old { slots = dev }) refl vault refl) r stays (ap (λ (v : Vault D). faults state v) vault) not_disk only

      pub slots_listed : (r : Result T SlotFault) → (IsErrOf r slot_faults.NoRow → ⊥) → (IsErrOf r slot_faults.Disk → ⊥) → (IsErrOf r slot_faults.Down → IsDown (slots.vault_of old.slots)) → Reads state images old (record old { slots = dev }) (caused slot_cause r)
      slots_listed (Ok x) no_row no_disk down = listed (Ok x) (λ is. cc) tt
      slots_listed (Err slot_faults.NoRow) no_row no_disk down = absurd (no_row refl)
      slots_listed (Err slot_faults.Disk) no_row no_disk down = absurd (no_disk refl)
      slots_listed (Err slot_faults.Down) no_row no_disk down = let is : IsDown (slots.vault_of old.slots) = down refl in let not = up.slots in absurd cc
      slots_listed (Err slot_faults.Memory) no_row no_disk down = listed (Err Memory) (λ is. cc) (inr refl)

    -- the journal alone was asked
    module _ {T : Type 0} (dev : PlanLog D) (leaves : AreSound state old → journals.Leaves state images old.journal dev (λ here. here ≡ journals.held state old.journal)) (fuse : KeepsUnset state old (record old { journal = dev })) where
      journal_stays : (r : Result T JournalFault) → journals.Stays state old.journal dev → faults state (journals.vault_of dev) ≡ faults state (journals.vault_of old.journal) → IsNotDisk r → OnlyThese r → Reads state images old (record old { journal = dev }) r
      journal_stays r stays counted not_disk only = record {
        stay = λ n. record { chunks = itself state _ _ old.chunks.inner; slots = itself state _ _ old.slots.inner; journal = stays };
        counted = λ n. omega (arith, counted);
        disk = λ is. absurd (not_disk is);
        only = only;
        chunks = leaves_chunks;
        slots = leaves_slots;
        journal = leaves;
        agenda = refl;
        fuse = fuse;
      }

      journal_fails : IsDown (journals.vault_of dev) → faults state (journals.vault_of old.journal) < faults state (journals.vault_of dev) → Reads {T = T} state images old (record old { journal = dev }) (Err Disk)
      journal_fails down more = record {
        stay = λ n. absurd (n refl);
        counted = λ n. absurd (n refl);
        disk = λ is. (omega (arith, more), inr (inr down));
        only = inl refl;
        chunks = leaves_chunks;
        slots = leaves_slots;
        journal = leaves;
        agenda = refl;
        fuse = fuse;
      }

    -- the commit at work was read
    pub commit_read : {T : Type 0} (dev : PlanLog D) (r : Result T PlanFault) → journals.Gets state images old.journal dev r → Reads state images old (record old { journal = dev }) (caused journal_cause r)
    commit_read dev (Ok x) k = journal_stays dev (λ s. k.any_moment up.journal s.journal) (journal_same state old dev k.fuse) (Ok x) k.stays k.refuses.cause (λ is. cc) tt
    commit_read dev (Err journal_faults.Disk) k = journal_fails dev (λ s. k.any_moment up.journal s.journal) (journal_same state old dev k.fuse) (k.refuses.disk refl) (k.refuses.cause.0 refl)
    commit_read dev (Err journal_faults.Memory) k = journal_stays dev (λ s. k.any_moment up.journal s.journal) (journal_same state old dev k.fuse) (Err Memory) (k.memory refl) (k.refuses.cause.1 (λ is. cc)) (λ is. cc) (inr refl)
    commit_read dev (Err journal_faults.Down) k = let down : IsDown (journals.vault_of old.journal) = k.refuses.down.0 refl in let is = up.journal in absurd cc

-- ---- one call, and then another

module _ {D T S : Type 0} (state : D → DiskState) (images : D → ℕ → List ℕ → Type 0) (old mid new : Journal D) (x : T) (a : Reads state images old mid (Ok x)) (r : Result S JournalFault) (b : Reads state images mid new r) where
  first : AllStay state old mid
  first = a.stay (λ is. cc)

  pub reads_then : Reads state images old new r
  reads_then = record {
    stay = λ n.
        let c = b.stay n in
        record {
          chunks = both_stay state _ _ old.chunks.inner mid.chunks.inner new.chunks.inner first.chunks c.chunks;
          slots = both_stay state _ _ old.slots.inner mid.slots.inner new.slots.inner first.slots c.slots;
          journal = both_stay state _ _ old.journal.inner mid.journal.inner new.journal.inner first.journal c.journal;
        };
    counted = λ n. b.counted n ∙ a.counted (λ is. cc);
    disk = λ is. let d = b.disk is in (omega (arith, d.0, a.counted (λ is. cc)), d.1);
    only = b.only;
    chunks = λ s. runs_then state images (chunks.vault_of old.chunks) (chunks.vault_of mid.chunks) (chunks.vault_of new.chunks) (λ l. chunks_of l ≡ chunks.chunks state old.chunks) (λ l. chunks_of l ≡ chunks.chunks state mid.chunks) (λ l. chunks_of l ≡ chunks.chunks state old.chunks)
        (a.chunks s) (b.chunks (stay_sound state old mid first s)) (λ l is. is) (λ l is. is ∙ ap chunks_of first.chunks.same);
    slots = λ s. runs_then state images (slots.vault_of old.slots) (slots.vault_of mid.slots) (slots.vault_of new.slots) (λ l. data_of l ≡ slots.held state old.slots) (λ l. data_of l ≡ slots.held state mid.slots) (λ l. data_of l ≡ slots.held state old.slots)
        (a.slots s) (b.slots (stay_sound state old mid first s)) (λ l is. is) (λ l is. is ∙ ap data_of first.slots.same);
    journal = λ s. runs_then state images (journals.vault_of old.journal) (journals.vault_of mid.journal) (journals.vault_of new.journal) (λ l. journal_of l ≡ journals.held state old.journal) (λ l. journal_of l ≡ journals.held state mid.journal) (λ l. journal_of l ≡ journals.held state old.journal)
        (a.journal s) (b.journal (stay_sound state old mid first s)) (λ l is. is) (λ l is. is ∙ ap journal_of first.journal.same);
    agenda = b.agenda ∙ a.agenda;
    fuse = keeps_then state old mid new a.fuse b.fuse;
  }

-- the same under another answer, which isn't that of a disk
pub reads_other : {D T S : Type 0} (state : D → DiskState) (images : D → ℕ → List ℕ → Type 0) (old new : Journal D) (x : S) → Reads state images old new (Ok x) → (r : Result T JournalFault) → IsNotDisk r → OnlyThese r → Reads state images old new r
reads_other state images old new x w r not_disk only = record {
  stay = λ n. w.stay (λ is. cc);
  counted = λ n. w.counted (λ is. cc);
  disk = λ is. absurd (not_disk is);
  only = only;
  chunks = w.chunks;
  slots = w.slots;
  journal = w.journal;
  agenda = w.agenda;
  fuse = w.fuse;
}

-- the same fault in another answer
pub reads_err : {D T S : Type 0} (state : D → DiskState) (images : D → ℕ → List ℕ → Type 0) (old new : Journal D) (e : JournalFault) → Reads {T = S} state images old new (Err e) → Reads {T = T} state images old new (Err e)
reads_err {D} {T} {S} state images old new e w = record {
  stay = λ n. w.stay (not_it n);
  counted = λ n. w.counted (not_it n);
  disk = λ is. w.disk (let same : e ≡ Disk = cc in ap (λ (x : JournalFault). Err x) same);
  only = w.only;
  chunks = w.chunks;
  slots = w.slots;
  journal = w.journal;
  agenda = w.agenda;
  fuse = w.fuse;
}
  where
    not_it : IsNotDisk {T = T} (Err e) → IsNotDisk {T = S} (Err e)
    not_it n is = n (let same : e ≡ Disk = cc in ap (λ (x : JournalFault). Err x) same)

-- ---- one public call, and then another

module _ {D : Type 0} (state : D → DiskState) (images : D → ℕ → List ℕ → Type 0) (old mid new : Journal D) (s : AllStay state old mid) where
  leaves_then : AreSound state old → AllLeave state images old mid → AllLeave state images mid new → AllLeave state images old new
  leaves_then sound a b = record {
    chunks = runs_then state images (chunks.vault_of old.chunks) (chunks.vault_of mid.chunks) (chunks.vault_of new.chunks) (λ l. chunks_of l ≡ chunks.chunks state old.chunks) (λ l. chunks_of l ≡ chunks.chunks state mid.chunks) (λ l. chunks_of l ≡ chunks.chunks state old.chunks)
        a.chunks b.chunks (λ l is. is) (λ l is. is ∙ ap chunks_of s.chunks.same);
    slots = runs_then state images (slots.vault_of old.slots) (slots.vault_of mid.slots) (slots.vault_of new.slots) (λ l. data_of l ≡ slots.held state old.slots) (λ l. data_of l ≡ slots.held state mid.slots) (λ l. data_of l ≡ slots.held state old.slots)
        a.slots b.slots (λ l is. is) (λ l is. is ∙ ap data_of s.slots.same);
    journal = runs_then state images (journals.vault_of old.journal) (journals.vault_of mid.journal) (journals.vault_of new.journal) (λ l. journal_of l ≡ journals.held state old.journal) (λ l. journal_of l ≡ journals.held state mid.journal) (λ l. journal_of l ≡ journals.held state old.journal)
        a.journal b.journal (λ l is. is) (λ l is. is ∙ ap journal_of s.journal.same);
  }

  -- what was down stays so
  was_down : IsOneDown mid → IsOneDown old
  was_down = ⊎_elim (λ d. inl (sym s.chunks.down ∙ d)) (⊎_elim (λ d. inr (inl (sym s.slots.down ∙ d))) (λ d. inr (inr (sym s.journal.down ∙ d))))

module _ {D T S : Type 0} (state : D → DiskState) (images : D → ℕ → List ℕ → Type 0) (only_now : (disk : D) (image : List ℕ) → images disk (state disk).moment image → IsImage (state disk).pending image) (old mid new : Journal D) (x : T) (a : Asks state images old mid (Ok x)) (r : Result S JournalFault) (b : Asks state images mid new r) where
  stayed : AllStay state old mid
  stayed = a.stay (λ is. cc)

  not_down_first : IsOneDown mid → ⊥
  not_down_first down = let is = a.down.1 (was_down state images old mid new stayed down) in cc

  leave_both : AreUp old → AreSound state old → AllLeave state images old new
  leave_both up sound = leaves_then state images old mid new stayed sound (a.leave up sound) (b.leave (stay_up state old mid stayed up) (stay_sound state old mid stayed sound))

  pub asks_then : Asks state images old new r
  asks_then = record {
    stay = λ n.
        let c = b.stay n in
        record {
          chunks = both_stay state _ _ old.chunks.inner mid.chunks.inner new.chunks.inner stayed.chunks c.chunks;
          slots = both_stay state _ _ old.slots.inner mid.slots.inner new.slots.inner stayed.slots c.slots;
          journal = both_stay state _ _ old.journal.inner mid.journal.inner new.journal.inner stayed.journal c.journal;
        };
    same = λ n. b.same n ∙ a.same (λ is. cc);
    counted = λ n. b.counted n ∙ a.counted (λ is. cc);
    disk = λ is. let d = b.disk is in (omega (arith, d.0, a.counted (λ is. cc)), d.1);
    down = (λ is. absurd (not_down_first (b.down.0 is)), λ down. absurd (let is = a.down.1 down in cc));
    unchanged = λ is. absurd (not_down_first (b.down.0 is));
    only = b.only;
    any_moment = λ up sound. let l = leave_both up sound in all_same state images only_now old new l.chunks l.slots l.journal;
    leave = leave_both;
    agenda = b.agenda ∙ a.agenda;
    fuse = keeps_then state old mid new a.fuse b.fuse;
  }
