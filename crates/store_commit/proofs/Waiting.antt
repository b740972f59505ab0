-- Calls that write nothing: one device, and one call after the other.
use Rattle.std.proofs.Common.{◌≡◌, inl, inr, ⊎_elim, ◌⊎◌, ℕ, ◌+◌, ◌<◌, List, [], Option, Some, None, Result, Ok, Err, refl, sym, ◌∙◌, ap, subst, arith}
use Rattle.std.specs.Prelude.{◌≤◌, length, IsErrOf, IfOk, IfErr, OnOk}
use Rattle.vault.specs.Limit.{payload_most}
use Rattle.disk_trait.specs.Image.{IsImage}
use Rattle.disk_trait.specs.Calls.{DiskState}
use Rattle.vault.specs.declared.fault.VaultFault.{VaultFault}
use Rattle.vault.specs.declared.fault.VaultFault.TheVariants as causes
use Rattle.vault.specs.Standing.{payloads, faults, stops, IsUp, IsDown}
use Rattle.vault.specs.Standing as vaults
use Rattle.vault.proofs.Uppers.{runs_then}
use Rattle.stab_base.specs.declared.chunk_name.ChunkName.{ChunkName}
use Rattle.chunk_store.specs.declared.device.ChunkDev.{ChunkDev}
use Rattle.chunk_store.specs.declared.fault.ChunkFault.{ChunkFault}
use Rattle.chunk_store.specs.declared.fault.ChunkFault.TheVariants as chunk_faults
use Rattle.chunk_store.specs.Fault.{fault_of as chunk_fault}
use Rattle.chunk_store.specs.Payload.{chunks_of}
use Rattle.chunk_store.specs.Standing as chunks
use Rattle.row_store.specs.declared.device.RowDev.{RowDev}
use Rattle.row_store.specs.declared.fault.RowFault.{RowFault}
use Rattle.row_store.specs.declared.fault.RowFault.TheVariants as row_faults
use Rattle.row_store.specs.declared.stored.StoredRow.{StoredRow}
use Rattle.row_store.specs.Fault.{fault_of as row_fault}
use Rattle.row_store.specs.Data.{TableData, row_of, data_of}
use Rattle.row_store.specs.Spelling.{HasStoredSpelling, row_payload}
use Rattle.row_store.specs.Standing as rows
use Rattle.status_log.specs.declared.device.StatusLog.{StatusLog}
use Rattle.status_log.specs.declared.fault.LogFault.{LogFault}
use Rattle.status_log.specs.declared.fault.LogFault.TheVariants as log_faults
use Rattle.status_log.specs.Fault.{fault_of as log_fault}
use Rattle.status_log.specs.Entry.{Entry}
use Rattle.status_log.specs.Payload.{pending_of}
use Rattle.status_log.specs.Standing as logs
use Rattle.store_commit.specs.declared.devs.TableDevs.{TableDevs}
use Rattle.store_commit.specs.declared.fault.CommitFault.{CommitFault}
use Rattle.store_commit.specs.declared.fault.CommitFault.TheVariants.{Disk, Memory}
use Rattle.store_commit.specs.Fault.{caused, chunk_cause, row_cause, log_cause, found_of}
use Rattle.store_commit.specs.Devs.{Devs}
use Rattle.store_commit.specs.Standing.{devs, AreUp, IsReady}
use Rattle.store_commit.specs.TakesOn.{IsNotDisk, Waits, IsStanding}
use Rattle.store_commit.proofs.Works.{still_chunk, still_row, still_log}
use Rattle.store_commit.proofs.Fusing.{keeps_then, keeps_same, chunk_same, row_same, log_same}

abbrev OnlyThese : {T : Type 0} → Result T CommitFault → Type 0
OnlyThese result = IfErr result (λ e. (e ≡ Disk) ⊎ (e ≡ Memory))

module _ {D : Type 0} (state : D → DiskState) (images : D → ℕ → List ℕ → Type 0) (only_now : (disk : D) (image : List ℕ) → images disk (state disk).moment image → IsImage (state disk).pending image) (old : TableDevs D) (up : AreUp old) (rests : IsReady state old []) where
  -- nothing was done
  pub none_waits : {T : Type 0} (r : Result T CommitFault) → IsNotDisk r → OnlyThese r → Waits state images old old r
  none_waits r not_disk only = record {
    agenda = refl;
    same = λ n. refl;
    up = λ n. up;
    rests = λ n. rests;
    counted = λ n. refl;
    disk = λ is. absurd (not_disk is);
    only = only;
    chunks = still_chunk state images only_now old.chunks rests.chunk_looked.vault rests.chunk_sound;
    rows = still_row state images only_now old.rows rests.row_looked.vault rests.row_sound;
    log = still_log state images only_now old.log rests.log_looked.vault rests.log_sound;
    fuse = keeps_same state old old refl refl refl;
  }

  module _ (dev : ChunkDev D) (leaves : chunks.Leaves state images old.chunks dev (λ here. here ≡ chunks.chunks state old.chunks)) (fuse : vaults.SameFuse state (chunks.vault_of old.chunks) (chunks.vault_of dev)) where
    chunk_stays : {T : Type 0} (r : Result T CommitFault) → chunks.Stays state old.chunks dev → faults state (chunks.vault_of dev) ≡ faults state (chunks.vault_of old.chunks) → IsNotDisk r
        → OnlyThese r
        → Waits state images old (record old { chunks = dev }) r
    chunk_stays r stays counted not_disk only = record {
      agenda = refl;
      same = λ n. ap (λ (y : List (ChunkName × List ℕ)). record { chunks = y; held = rows.held state old.rows; pending = logs.entry_open state old.log }) (ap chunks_of stays.same);
      up = λ n. record { chunks = stays.down ∙ up.chunks; rows = up.rows; log = up.log };
      rests = λ n. record {
        may = tt;
        chunk_looked = stays.looked rests.chunk_looked;
        chunk_sound = stays.sound rests.chunk_sound;
        chunk_is_opened = stays.opened rests.chunk_is_opened;
        chunk_room = stays.room 0 0 0 rests.chunk_room;
        row_looked = rests.row_looked;
        row_sound = rests.row_sound;
        row_is_opened = rests.row_is_opened;
        row_room = rests.row_room;
        log_looked = rests.log_looked;
        log_sound = rests.log_sound;
        log_is_opened = rests.log_is_opened;
        log_room = rests.log_room;
      };
      counted = λ n. omega (arith, counted);
      disk = λ is. absurd (not_disk is);
      only = only;
      chunks = leaves;
      rows = still_row state images only_now old.rows rests.row_looked.vault rests.row_sound;
      log = still_log state images only_now old.log rests.log_looked.vault rests.log_sound;
      fuse = chunk_same state old dev fuse;
    }

    chunk_fails : {T : Type 0} → IsDown (chunks.vault_of dev) → faults state (chunks.vault_of old.chunks) < faults state (chunks.vault_of dev) → Waits {T = T} state images old (record old { chunks = dev }) (Err Disk)
    chunk_fails down more = record {
      agenda = refl;
      same = λ n. absurd (n refl);
      up = λ n. absurd (n refl);
      rests = λ n. absurd (n refl);
      counted = λ n. absurd (n refl);
      disk = λ is. (omega (arith, more), inl down);
      only = inl refl;
      chunks = leaves;
      rows = still_row state images only_now old.rows rests.row_looked.vault rests.row_sound;
      log = still_log state images only_now old.log rests.log_looked.vault rests.log_sound;
      fuse = chunk_same state old dev fuse;
    }

  module _ (dev : ChunkDev D) (puts bytes : ℕ) where
    pub chunk_reserved : (r : Result (Unit {0}) ChunkFault) → chunks.Reserves state images puts bytes old.chunks dev r → Waits state images old (record old { chunks = dev }) (caused chunk_cause r)
    chunk_reserved (Ok x) k = chunk_stays dev (k.any_moment up.chunks rests.chunk_sound) k.fuse (Ok x) k.stays k.refuses.cause (λ is. cc) tt
    chunk_reserved (Err chunk_faults.Disk) k = chunk_fails dev (k.any_moment up.chunks rests.chunk_sound) k.fuse (k.refuses.disk refl) (k.refuses.cause.0 refl)
    chunk_reserved (Err chunk_faults.Memory) k = chunk_stays dev (k.any_moment up.chunks rests.chunk_sound) k.fuse (Err Memory) (k.memory refl) (k.refuses.cause.1 (λ is. cc)) (λ is. cc) (inr refl)
    chunk_reserved (Err chunk_faults.Down) k = let down : IsDown (chunks.vault_of old.chunks) = k.refuses.down.0 refl in let is = up.chunks in absurd cc
    chunk_reserved (Err chunk_faults.Absent) k = absurd (not_its k.only.0 k.only.1)
      where
        not_its : (c : VaultFault) → chunk_faults.Absent ≡ chunk_fault c → ⊥
        not_its causes.Disk is = cc
        not_its causes.Down is = cc
        not_its causes.Memory is = cc

    pub chunk_has_room : (r : Result (Unit {0}) ChunkFault) → chunks.Reserves state images puts bytes old.chunks dev r → OnOk (caused chunk_cause r) (chunks.HasRoom state dev 1 puts bytes)
    chunk_has_room (Ok x) k = k.room
    chunk_has_room (Err e) k = tt

  module _ (dev : RowDev D) (leaves : rows.Leaves state images old.rows dev (λ here. here ≡ rows.held state old.rows)) (fuse : vaults.SameFuse state (rows.vault_of old.rows) (rows.vault_of dev)) where
    row_stays : {T : Type 0} (r : Result T CommitFault) → rows.Stays state old.rows dev → faults state (rows.vault_of dev) ≡ faults state (rows.vault_of old.rows) → IsNotDisk r → OnlyThese r
        → Waits state images old (record old { rows = dev }) r
    row_stays r stays counted not_disk only = record {
      agenda = refl;
      same = λ n. ap (λ (y : TableData). record { chunks = chunks.chunks state old.chunks; held = y; pending = logs.entry_open state old.log }) (ap data_of stays.same);
      up = λ n. record { chunks = up.chunks; rows = stays.down ∙ up.rows; log = up.log };
      rests = λ n. record {
        may = tt;
        chunk_looked = rests.chunk_looked;
        chunk_sound = rests.chunk_sound;
        chunk_is_opened = rests.chunk_is_opened;
        chunk_room = rests.chunk_room;
        row_looked = stays.looked rests.row_looked;
        row_sound = stays.sound rests.row_sound;
        row_is_opened = stays.opened rests.row_is_opened;
        row_room = stays.room 0 0 0 rests.row_room;
        log_looked = rests.log_looked;
        log_sound = rests.log_sound;
        log_is_opened = rests.log_is_opened;
        log_room = rests.log_room;
      };
      counted = λ n. omega (arith, counted);
      disk = λ is. absurd (not_disk is);
      only = only;
      chunks = still_chunk state images only_now old.chunks rests.chunk_looked.vault rests.chunk_sound;
      rows = leaves;
      log = still_log state images only_now old.log rests.log_looked.vault rests.log_sound;
      fuse = row_same state old dev fuse;
    }

    row_fails : {T : Type 0} → IsDown (rows.vault_of dev) → faults state (rows.vault_of old.rows) < faults state (rows.vault_of dev) → Waits {T = T} state images old (record old { rows = dev }) (Err Disk)
    row_fails down more = record {
      agenda = refl;
      same = λ n. absurd (n refl);
      up = λ n. absurd (n refl);
      rests = λ n. absurd (n refl);
      counted = λ n. absurd (n refl);
      disk = λ is. (omega (arith, more), inr (inl down));
      only = inl refl;
      chunks = still_chunk state images only_now old.chunks rests.chunk_looked.vault rests.chunk_sound;
      rows = leaves;
      log = still_log state images only_now old.log rests.log_looked.vault rests.log_sound;
      fuse = row_same state old dev fuse;
    }

  module _ (dev : RowDev D) (puts bytes : ℕ) where
    pub row_reserved : (r : Result (Unit {0}) RowFault) → rows.Reserves state images puts bytes old.rows dev r → Waits state images old (record old { rows = dev }) (caused row_cause r)
    row_reserved (Ok x) k = row_stays dev (k.any_moment up.rows rests.row_sound) k.fuse (Ok x) k.stays k.refuses.cause (λ is. cc) tt
    row_reserved (Err row_faults.Disk) k = row_fails dev (k.any_moment up.rows rests.row_sound) k.fuse (k.refuses.disk refl) (k.refuses.cause.0 refl)
    row_reserved (Err row_faults.Memory) k = row_stays dev (k.any_moment up.rows rests.row_sound) k.fuse (Err Memory) (k.memory refl) (k.refuses.cause.1 (λ is. cc)) (λ is. cc) (inr refl)
    row_reserved (Err row_faults.Down) k = let down : IsDown (rows.vault_of old.rows) = k.refuses.down.0 refl in let is = up.rows in absurd cc
    row_reserved (Err row_faults.NoRow) k = absurd (not_its k.only.0 k.only.1)
      where
        not_its : (c : VaultFault) → row_faults.NoRow ≡ row_fault c → ⊥
        not_its causes.Disk is = cc
        not_its causes.Down is = cc
        not_its causes.Memory is = cc

    pub row_has_room : (r : Result (Unit {0}) RowFault) → rows.Reserves state images puts bytes old.rows dev r → OnOk (caused row_cause r) (rows.HasRoom state dev 1 puts bytes)
    row_has_room (Ok x) k = k.room
    row_has_room (Err e) k = tt

  module _ (dev : RowDev D) where
    pub row_found : (r : Result StoredRow RowFault) → rows.Gets state images old.rows dev r → (IsErrOf r row_faults.NoRow → dev ≡ old.rows) → Waits state images old (record old { rows = dev }) (found_of r)
    row_found (Ok x) k same = row_stays dev (k.any_moment up.rows rests.row_sound) k.fuse (Ok (Some x)) k.stays k.refuses.cause (λ is. cc) tt
    row_found (Err row_faults.NoRow) k same = let none : Option StoredRow = None in subst (λ (y : RowDev D). Waits state images old (record old { rows = y }) (Ok none)) (sym (same refl)) (none_waits {T = Option StoredRow} (Ok None) (λ is. cc) tt)
    row_found (Err row_faults.Disk) k same = row_fails dev (k.any_moment up.rows rests.row_sound) k.fuse (k.refuses.disk refl) (k.refuses.cause.0 refl)
    row_found (Err row_faults.Memory) k same = row_stays dev (k.any_moment up.rows rests.row_sound) k.fuse (Err Memory) (k.memory refl) (k.refuses.cause.1 (λ is. cc)) (λ is. cc) (inr refl)
    row_found (Err row_faults.Down) k same = let down : IsDown (rows.vault_of old.rows) = k.refuses.down.0 refl in let is = up.rows in absurd cc

  -- no disk was read
  pub row_listed : {T : Type 0} (dev : RowDev D) (r : Result T CommitFault) → rows.Stays state old.rows dev → rows.vault_of dev ≡ rows.vault_of old.rows → IsNotDisk r → OnlyThese r → Waits state images old (record old { rows = dev }) r
  row_listed dev r stays vault not_disk only =
      row_stays dev
      (subst (λ v. vaults.Leaves state images (rows.vault_of old.rows) v (λ l. data_of l ≡ rows.held state old.rows)) (sym vault) (still_row state images only_now old.rows rests.row_looked.vault rests.row_sound))
      (record {
        stops = ap (λ v. stops state v) vault;
        is_armed = ap (λ v. (state (vaults.disk_of v)).is_armed) vault;
        passes = ap (λ v. (state (vaults.disk_of v)).passes) vault;
        pick = ap (λ v. (state (vaults.disk_of v)).pick) vault;
      })
      r stays (ap (λ v. faults state v) vault) not_disk only

  module _ (dev : StatusLog D) (leaves : logs.Leaves state images old.log dev (λ here. here ≡ logs.entry_open state old.log)) (fuse : vaults.SameFuse state (logs.vault_of old.log) (logs.vault_of dev)) where
    log_stays : {T : Type 0} (r : Result T CommitFault) → logs.Stays state old.log dev → faults state (logs.vault_of dev) ≡ faults state (logs.vault_of old.log) → IsNotDisk r → OnlyThese r
        → Waits state images old (record old { log = dev }) r
    log_stays r stays counted not_disk only = record {
      agenda = refl;
      same = λ n. ap (λ (y : Option Entry). record { chunks = chunks.chunks state old.chunks; held = rows.held state old.rows; pending = y }) (ap pending_of stays.same);
      up = λ n. record { chunks = up.chunks; rows = up.rows; log = stays.down ∙ up.log };
      rests = λ n. record {
        may = tt;
        chunk_looked = rests.chunk_looked;
        chunk_sound = rests.chunk_sound;
        chunk_is_opened = rests.chunk_is_opened;
        chunk_room = rests.chunk_room;
        row_looked = rests.row_looked;
        row_sound = rests.row_sound;
        row_is_opened = rests.row_is_opened;
        row_room = rests.row_room;
        log_looked = stays.looked rests.log_looked;
        log_sound = stays.sound rests.log_sound;
        log_is_opened = stays.opened rests.log_is_opened;
        log_room = stays.room 0 0 0 rests.log_room;
      };
      counted = λ n. omega (arith, counted);
      disk = λ is. absurd (not_disk is);
      only = only;
      chunks = still_chunk state images only_now old.chunks rests.chunk_looked.vault rests.chunk_sound;
      rows = still_row state images only_now old.rows rests.row_looked.vault rests.row_sound;
      log = leaves;
      fuse = log_same state old dev fuse;
    }

    log_fails : {T : Type 0} → IsDown (logs.vault_of dev) → faults state (logs.vault_of old.log) < faults state (logs.vault_of dev) → Waits {T = T} state images old (record old { log = dev }) (Err Disk)
    log_fails down more = record {
      agenda = refl;
      same = λ n. absurd (n refl);
      up = λ n. absurd (n refl);
      rests = λ n. absurd (n refl);
      counted = λ n. absurd (n refl);
      disk = λ is. (omega (arith, more), inr (inr down));
      only = inl refl;
      chunks = still_chunk state images only_now old.chunks rests.chunk_looked.vault rests.chunk_sound;
      rows = still_row state images only_now old.rows rests.row_looked.vault rests.row_sound;
      log = leaves;
      fuse = log_same state old dev fuse;
    }

  module _ (dev : StatusLog D) (puts bytes : ℕ) where
    pub log_reserved : (r : Result (Unit {0}) LogFault) → logs.Reserves state images puts bytes old.log dev r → Waits state images old (record old { log = dev }) (caused log_cause r)
    log_reserved (Ok x) k = log_stays dev (k.any_moment up.log rests.log_sound) k.fuse (Ok x) k.stays k.refuses.cause (λ is. cc) tt
    log_reserved (Err log_faults.Disk) k = log_fails dev (k.any_moment up.log rests.log_sound) k.fuse (k.refuses.disk refl) (k.refuses.cause.0 refl)
    log_reserved (Err log_faults.Memory) k = log_stays dev (k.any_moment up.log rests.log_sound) k.fuse (Err Memory) (k.memory refl) (k.refuses.cause.1 (λ is. cc)) (λ is. cc) (inr refl)
    log_reserved (Err log_faults.Down) k = let down : IsDown (logs.vault_of old.log) = k.refuses.down.0 refl in let is = up.log in absurd cc
    log_reserved (Err (log_faults.Pending version)) k = absurd (not_its k.only.0 k.only.1)
      where
        not_its : (c : VaultFault) → log_faults.Pending version ≡ log_fault c → ⊥
        not_its causes.Disk is = cc
        not_its causes.Down is = cc
        not_its causes.Memory is = cc

    pub log_has_room : (r : Result (Unit {0}) LogFault) → logs.Reserves state images puts bytes old.log dev r → OnOk (caused log_cause r) (logs.HasRoom state dev 1 puts bytes)
    log_has_room (Ok x) k = k.room
    log_has_room (Err e) k = tt

-- one call, and then another
module _ {D T S : Type 0} (state : D → DiskState) (images : D → ℕ → List ℕ → Type 0) (old mid new : TableDevs D) (first : Result T CommitFault) (not_disk : IsNotDisk first) (a : Waits state images old mid first) (r : Result S CommitFault) (b : Waits state images mid new r) where
  before : devs state mid ≡ devs state old
  before = a.same not_disk

  pub waits_then : Waits state images old new r
  waits_then = record {
    agenda = b.agenda ∙ a.agenda;
    same = λ n. b.same n ∙ before;
    up = b.up;
    rests = b.rests;
    counted = λ n. b.counted n ∙ a.counted not_disk;
    disk = λ is. let d = b.disk is in (omega (arith, d.0, a.counted not_disk), d.1);
    only = b.only;
    chunks = runs_then state images (chunks.vault_of old.chunks) (chunks.vault_of mid.chunks) (chunks.vault_of new.chunks) (λ l. chunks_of l ≡ chunks.chunks state old.chunks) (λ l. chunks_of l ≡ chunks.chunks state mid.chunks) (λ l. chunks_of l ≡ chunks.chunks state old.chunks)
        a.chunks b.chunks (λ l is. is) (λ l is. is ∙ ap (λ (d : Devs). d.chunks) before);
    rows = runs_then state images (rows.vault_of old.rows) (rows.vault_of mid.rows) (rows.vault_of new.rows) (λ l. data_of l ≡ rows.held state old.rows) (λ l. data_of l ≡ rows.held state mid.rows) (λ l. data_of l ≡ rows.held state old.rows)
        a.rows b.rows (λ l is. is) (λ l is. is ∙ ap (λ (d : Devs). d.held) before);
    log = runs_then state images (logs.vault_of old.log) (logs.vault_of mid.log) (logs.vault_of new.log) (λ l. pending_of l ≡ logs.entry_open state old.log) (λ l. pending_of l ≡ logs.entry_open state mid.log) (λ l. pending_of l ≡ logs.entry_open state old.log)
        a.log b.log (λ l is. is) (λ l is. is ∙ ap (λ (d : Devs). d.pending) before);
    fuse = keeps_then state old mid new a.fuse b.fuse;
  }

pub found_is : (held : TableData) (row : List ℕ) (r : Result StoredRow RowFault) → IfOk r (λ stored. row_of held row ≡ Some stored) → IfOk r HasStoredSpelling
    → IfOk r (λ stored. length (row_payload stored) ≤ payload_most) → (IsErrOf r row_faults.NoRow → row_of held row ≡ None) → IfOk (found_of r) (IsStanding held row)
found_is held row (Ok stored) is spelled short none = record { is = is; spelled = spelled; short = short }
found_is held row (Err row_faults.NoRow) is spelled short none = record { is = none refl; spelled = tt; short = tt }
found_is held row (Err row_faults.Disk) is spelled short none = tt
found_is held row (Err row_faults.Memory) is spelled short none = tt
found_is held row (Err row_faults.Down) is spelled short none = tt

-- the same under another answer, which isn't that of a disk
pub waits_other : {D T S : Type 0} (state : D → DiskState) (images : D → ℕ → List ℕ → Type 0) (old new : TableDevs D) (first : Result S CommitFault) → IsNotDisk first
    → Waits state images old new first → (r : Result T CommitFault) → IsNotDisk r
    → IfErr r (λ e. (e ≡ Disk) ⊎ (e ≡ Memory)) → Waits state images old new r
waits_other state images old new first was_not w r not_disk only = record {
  agenda = w.agenda;
  same = λ n. w.same was_not;
  up = λ n. w.up was_not;
  rests = λ n. w.rests was_not;
  counted = λ n. w.counted was_not;
  disk = λ is. absurd (not_disk is);
  only = only;
  chunks = w.chunks;
  rows = w.rows;
  log = w.log;
  fuse = w.fuse;
}

-- the same fault in another answer
pub waits_err : {D T S : Type 0} (state : D → DiskState) (images : D → ℕ → List ℕ → Type 0) (old new : TableDevs D) (e : CommitFault) → Waits {T = S} state images old new (Err e) → Waits {T = T} state images old new (Err e)
waits_err {D} {T} {S} state images old new e w = record {
  agenda = w.agenda;
  same = λ n. w.same (not_it n);
  up = λ n. w.up (not_it n);
  rests = λ n. w.rests (not_it n);
  counted = λ n. w.counted (not_it n);
  disk = λ is. w.disk (let same : e ≡ Disk = cc in ap (λ (x : CommitFault). Err x) same);
  only = w.only;
  chunks = w.chunks;
  rows = w.rows;
  log = w.log;
  fuse = w.fuse;
}
  where
    not_it : IsNotDisk {T = T} (Err e) → IsNotDisk {T = S} (Err e)
    not_it n is = n (let same : e ≡ Disk = cc in ap (λ (x : CommitFault). Err x) same)
