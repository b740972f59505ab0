-- A table's devices between calls, as what they hold and the writes that are still to come.
use Rattle.std.specs.Prelude.{◌≡◌, ◌⊎◌, ℕ, ◌+◌, ◌<◌, ◌≤◌, List, [], ◌∷◌, length, map, drop, None, IsSome, Result, Ok}
use Rattle.std.specs.Prelude.{Err, true}
use Rattle.std.specs.Prelude.{OnOk, IfOk}
use Rattle.std.specs.BTreeSet.{BTreeSet, keys, contains}
use Rattle.disk_trait.specs.Calls.{DiskState}
use Rattle.vault.specs.Limit.{payload_most}
use Rattle.vault.specs.File.{StandsFor}
use Rattle.vault.specs.Standing.{faults, stops, disk_of, IsUp, IsDown, IsSound, IsSynced, IsBlank, StopsWithin}
use Rattle.vault.specs.Calls.{IsEither}
use Rattle.stab_base.specs.declared.limits.TheConstants.{NUMBER_MAX}
use Rattle.stab_base.specs.declared.chunk_name.ChunkName.{ChunkName}
use Rattle.value_codec.specs.SchemaSpelling.{HasSchemaSpelling}
use Rattle.chunk_store.specs.Payload.{chunks_of}
use Rattle.chunk_store.specs.Standing.{chunk_in}
use Rattle.chunk_store.specs.Standing as chunks
use Rattle.row_store.specs.Spelling.{HasStoredSpelling, row_payload, IsState, table_payload, IsClient}
use Rattle.row_store.specs.Data.{TableData, data_of, nothing_held, id_cmp, row_of}
use Rattle.row_store.specs.Standing as rows
use Rattle.status_log.specs.Entry.{entry_of, size_of, HasSpelling}
use Rattle.status_log.specs.Payload.{pending_of}
use Rattle.status_log.specs.Standing as logs
use Rattle.stab_base.specs.declared.step.Step.{Step}
use Rattle.stab_base.specs.declared.step.Step.TheVariants as steps
use Rattle.row_store.specs.Reading.{terms_if}
use Rattle.store_commit.specs.declared.devs.TableDevs.{TableDevs}
use Rattle.store_commit.specs.declared.task.Task.{Task}
use Rattle.store_commit.specs.declared.task.Task.TheVariants as tasks
use Rattle.store_commit.specs.declared.fault.CommitFault.{CommitFault}
use Rattle.store_commit.specs.declared.fault.CommitFault.TheVariants as faults_of
use Rattle.store_commit.specs.Devs.{Devs, Write, OpenChunks, OpenRows, OpenLog, OpenEntry, PutChunk, PutRow, DropChunk}
use Rattle.store_commit.specs.Devs.{CloseEntry, PutTable, PutSub, changed_by, IsBeforeOrAfter}
use Rattle.store_commit.specs.Agenda.{Runs}
use Rattle.store_commit.specs.Fused.{device_of, vault_at}
use Rattle.store_commit.specs.There.{shown}

-- what the devices hold
abbrev pub devs : {D : Type 0} → (D → DiskState) → TableDevs D → Devs
devs state table =
    record {
      chunks = chunks.chunks state table.chunks;
      held = rows.held state table.rows;
      pending = logs.entry_open state table.log;
    }

abbrev pub write_of : Task → Write
write_of tasks.OpenChunks = OpenChunks
write_of tasks.OpenRows = OpenRows
write_of tasks.OpenLog = OpenLog
write_of (tasks.OpenEntry entry) = OpenEntry (entry_of entry)
write_of (tasks.PutChunk name bytes) = PutChunk name bytes
write_of (tasks.PutRow stored) = PutRow stored
write_of (tasks.DropChunk name) = DropChunk name
write_of tasks.CloseEntry = CloseEntry
write_of (tasks.PutTable schema state) = PutTable schema state
write_of (tasks.PutSub client on gate period tolerance) =
    PutSub client (terms_if on (record { gate = gate; period = period; tolerance = tolerance }))

abbrev pub step_of : Write → Step
step_of OpenChunks = steps.OpenChunks
step_of OpenRows = steps.OpenRows
step_of OpenLog = steps.OpenLog
step_of (OpenEntry entry) = steps.LogOpen
step_of (PutChunk name bytes) = steps.ChunkPut
step_of (PutRow stored) = steps.RowPut
step_of (DropChunk name) = steps.ChunkDrop
step_of CloseEntry = steps.LogClose
step_of (PutTable schema state) = steps.TablePut
step_of (PutSub client terms) = steps.SubPut

-- the writes that are still to come
abbrev pub writes_of : {D : Type 0} → TableDevs D → List Write
writes_of table = map write_of table.agenda.items

-- ---- the rows that are there

-- the ids that a scan has hidden, and the names that its recovery spares
abbrev pub hidden_of : {D : Type 0} → TableDevs D → BTreeSet (List ℕ)
hidden_of table = table.scanned.hidden

abbrev pub spared_of : {D : Type 0} → TableDevs D → BTreeSet ChunkName
spared_of table = table.scanned.spared

abbrev pub NothingHidden : {D : Type 0} → TableDevs D → Type 0
NothingHidden table = keys (hidden_of table) ≡ []

abbrev pub NothingSpared : {D : Type 0} → TableDevs D → Type 0
NothingSpared table = keys (spared_of table) ≡ []

-- what the devices hold, without the hidden rows
abbrev pub seen : {D : Type 0} → (D → DiskState) → TableDevs D → Devs
seen state table =
    record {
      chunks = chunks.chunks state table.chunks;
      held = shown (contains id_cmp (hidden_of table)) (rows.held state table.rows);
      pending = logs.entry_open state table.log;
    }

-- none of the three devices is down
pub record AreUp {D : Type 0} (table : TableDevs D) : Type 0 where
  pub chunks : IsUp (chunks.vault_of table.chunks)
  pub rows : IsUp (rows.vault_of table.rows)
  pub log : IsUp (logs.vault_of table.log)

-- one of them is
abbrev pub IsOneDown : {D : Type 0} → TableDevs D → Type 0
IsOneDown table = IsDown (chunks.vault_of table.chunks)
    ⊎ (IsDown (rows.vault_of table.rows) ⊎ IsDown (logs.vault_of table.log))

-- how often the three disks have failed
abbrev pub all_faults : {D : Type 0} → (D → DiskState) → TableDevs D → ℕ
all_faults state table = faults state (chunks.vault_of table.chunks)
    + (faults state (rows.vault_of table.rows) + faults state (logs.vault_of table.log))

-- how many calls of the three disks a fuse has stopped
abbrev pub all_stops : {D : Type 0} → (D → DiskState) → TableDevs D → ℕ
all_stops state table = stops state (chunks.vault_of table.chunks)
    + (stops state (rows.vault_of table.rows) + stops state (logs.vault_of table.log))

-- ---- what the writes need

-- how many openings, puts and bytes each device still gets
abbrev pub chunk_opens : List Write → ℕ
chunk_opens [] = 0
chunk_opens (OpenChunks ∷ ws) = chunk_opens ws + 1
chunk_opens (_ ∷ ws) = chunk_opens ws

abbrev pub chunk_puts : List Write → ℕ
chunk_puts [] = 0
chunk_puts (PutChunk name bytes ∷ ws) = chunk_puts ws + 1
chunk_puts (DropChunk name ∷ ws) = chunk_puts ws + 1
chunk_puts (_ ∷ ws) = chunk_puts ws

abbrev pub chunk_bytes : List Write → ℕ
chunk_bytes [] = 0
chunk_bytes (PutChunk name bytes ∷ ws) = chunk_bytes ws + (13 + length bytes)
chunk_bytes (DropChunk name ∷ ws) = chunk_bytes ws + (13)
chunk_bytes (_ ∷ ws) = chunk_bytes ws

abbrev pub row_opens : List Write → ℕ
row_opens [] = 0
row_opens (OpenRows ∷ ws) = row_opens ws + 1
row_opens (_ ∷ ws) = row_opens ws

abbrev pub row_puts : List Write → ℕ
row_puts [] = 0
row_puts (PutRow stored ∷ ws) = row_puts ws + 1
row_puts (PutTable schema state ∷ ws) = row_puts ws + 1
row_puts (PutSub client terms ∷ ws) = row_puts ws + 1
row_puts (_ ∷ ws) = row_puts ws

abbrev pub row_bytes : List Write → ℕ
row_bytes [] = 0
row_bytes (PutRow stored ∷ ws) = row_bytes ws + (length (row_payload stored))
row_bytes (PutTable schema state ∷ ws) = row_bytes ws + (length (table_payload schema state))
row_bytes (PutSub client terms ∷ ws) = row_bytes ws + (18)
row_bytes (_ ∷ ws) = row_bytes ws

abbrev pub log_opens : List Write → ℕ
log_opens [] = 0
log_opens (OpenLog ∷ ws) = log_opens ws + 1
log_opens (_ ∷ ws) = log_opens ws

abbrev pub log_puts : List Write → ℕ
log_puts [] = 0
log_puts (OpenEntry entry ∷ ws) = log_puts ws + 1
log_puts (CloseEntry ∷ ws) = log_puts ws + 1
log_puts (_ ∷ ws) = log_puts ws

abbrev pub log_bytes : List Write → ℕ
log_bytes [] = 0
log_bytes (OpenEntry entry ∷ ws) = log_bytes ws + (size_of entry)
log_bytes (CloseEntry ∷ ws) = log_bytes ws + (9)
log_bytes (_ ∷ ws) = log_bytes ws

-- each vault is opened before it is written: it is already, or it is opened by the first of these writes that is its
-- own
abbrev pub chunk_opened : Type 0 → List Write → Type 0
chunk_opened opened [] = opened
chunk_opened opened (OpenChunks ∷ ws) = Unit {0}
chunk_opened opened (PutChunk name bytes ∷ ws) = opened
chunk_opened opened (DropChunk name ∷ ws) = opened
chunk_opened opened (_ ∷ ws) = chunk_opened opened ws

abbrev pub row_opened : Type 0 → List Write → Type 0
row_opened opened [] = opened
row_opened opened (OpenRows ∷ ws) = Unit {0}
row_opened opened (PutRow stored ∷ ws) = opened
row_opened opened (PutTable schema state ∷ ws) = opened
row_opened opened (PutSub client terms ∷ ws) = opened
row_opened opened (_ ∷ ws) = row_opened opened ws

abbrev pub log_opened : Type 0 → List Write → Type 0
log_opened opened [] = opened
log_opened opened (OpenLog ∷ ws) = Unit {0}
log_opened opened (OpenEntry entry ∷ ws) = opened
log_opened opened (CloseEntry ∷ ws) = opened
log_opened opened (_ ∷ ws) = log_opened opened ws

-- what a write asks of what the devices hold
abbrev pub MayDo : Devs → Write → Type 0
MayDo d OpenChunks = Unit {0}
MayDo d OpenRows = Unit {0}
MayDo d OpenLog = Unit {0}
MayDo d (OpenEntry entry) = HasSpelling entry × (d.pending ≡ None)
MayDo d (PutChunk name bytes) = (name.version ≤ NUMBER_MAX) × (13 + length bytes ≤ payload_most)
MayDo d (PutRow stored) = HasStoredSpelling stored × (length (row_payload stored) ≤ payload_most)
MayDo d (DropChunk name) = IsSome (chunk_in d.chunks name)
MayDo d CloseEntry = IsSome d.pending
MayDo d (PutTable schema state) = HasSchemaSpelling schema × IsState state
    × (length (table_payload schema state) ≤ payload_most)
MayDo d (PutSub client terms) = IsClient client

abbrev pub MayDoAll : Devs → List Write → Type 0
MayDoAll d [] = Unit {0}
MayDoAll d (w ∷ ws) = MayDo d w × MayDoAll (changed_by d w) ws

-- These writes may be done one after the other, and take no memory.
pub record IsReady {D : Type 0} (state : D → DiskState) (table : TableDevs D) (ws : List Write) : Type 0 where
  pub may : MayDoAll (devs state table) ws
  pub chunk_looked : chunks.IsLookedAt state table.chunks
  pub chunk_sound : IsSound state (chunks.vault_of table.chunks)
  pub chunk_is_opened : chunk_opened (chunks.IsOpened state table.chunks) ws
  pub chunk_room : chunks.HasRoom state table.chunks (chunk_opens ws) (chunk_puts ws) (chunk_bytes ws)
  pub row_looked : rows.IsLookedAt state table.rows
  pub row_sound : IsSound state (rows.vault_of table.rows)
  pub row_is_opened : row_opened (rows.IsOpened state table.rows) ws
  pub row_room : rows.HasRoom state table.rows (row_opens ws) (row_puts ws) (row_bytes ws)
  pub log_looked : logs.IsLookedAt state table.log
  pub log_sound : IsSound state (logs.vault_of table.log)
  pub log_is_opened : log_opened (logs.IsOpened state table.log) ws
  pub log_room : logs.HasRoom state table.log (log_opens ws) (log_puts ws) (log_bytes ws)

-- each disk's clock has gone on
pub record IsLater {D : Type 0} (state : D → DiskState) (old new : TableDevs D) : Type 0 where
  pub chunks : (state (disk_of (chunks.vault_of old.chunks))).moment
      ≤ (state (disk_of (chunks.vault_of new.chunks))).moment
  pub rows : (state (disk_of (rows.vault_of old.rows))).moment ≤ (state (disk_of (rows.vault_of new.rows))).moment
  pub log : (state (disk_of (logs.vault_of old.log))).moment ≤ (state (disk_of (logs.vault_of new.log))).moment

-- At every moment since the old one, whatever a crash leaves of the three disks stands for devices with R.
pub record DevsLeave {D : Type 0} (state : D → DiskState) (images : D → ℕ → List ℕ → Type 0) (old new : TableDevs D)
    (R : Devs → Type 0) : Type 0 where
  pub each : (c r l : List ℕ)
      → images (disk_of (chunks.vault_of new.chunks)) (state (disk_of (chunks.vault_of old.chunks))).moment c
      → images (disk_of (rows.vault_of new.rows)) (state (disk_of (rows.vault_of old.rows))).moment r
      → images (disk_of (logs.vault_of new.log)) (state (disk_of (logs.vault_of old.log))).moment l
      → (cs rs ls : List (List ℕ)) × StandsFor c cs × StandsFor r rs × StandsFor l ls
      × R (record { chunks = chunks_of cs; held = data_of rs; pending = pending_of ls })
  pub later : IsLater state old new

-- At every moment since the old one, whatever a crash leaves of the disk of the rows stands for rows with R.
abbrev pub RowsLeave : {D : Type 0} → (D → DiskState) → (D → ℕ → List ℕ → Type 0) → TableDevs D → TableDevs D
    → (TableData → Type 0) → Type 0
RowsLeave state images old new R = rows.Leaves state images old.rows new.rows R

-- This write was done, and these are still to come; or a disk failed, and its device is down.
pub record Works {D T : Type 0} (state : D → DiskState) (images : D → ℕ → List ℕ → Type 0) (w : Write) (ws : List Write)
    (old new : TableDevs D) (result : Result T CommitFault) : Type 0 where
  pub devs_are : OnOk result (devs state new ≡ changed_by (devs state old) w)
  pub ready : OnOk result (IsReady state new ws)
  pub up : OnOk result (AreUp new)
  pub counted : OnOk result (all_faults state new ≡ all_faults state old)
  -- a crash at any moment of the call leaves what was there before the write or what is there after it
  pub any_moment : DevsLeave state images old new (IsBeforeOrAfter (devs state old) w)
  pub rows_left : RowsLeave state images old new (IsEither (devs state old).held (changed_by (devs state old) w).held)
  -- a fuse that stops one of the first two calls of the write's disk leaves it undone, whatever a crash leaves
  pub early : StopsWithin state (vault_at old (device_of w)) 2
      → DevsLeave state images old new (λ d. d ≡ devs state old)
  -- one that stops one of its four calls stops the write
  pub stopped : StopsWithin state (vault_at old (device_of w)) 4 → OnOk result ⊥
  -- one that lets four calls pass stops none of them
  pub late : (state (disk_of (vault_at old (device_of w)))).is_armed ≡ true
      → 4 ≤ (state (disk_of (vault_at old (device_of w)))).passes → all_stops state new ≡ all_stops state old
  pub disk : (e : CommitFault) → result ≡ Err e → (e ≡ faults_of.Disk) × (all_faults state old < all_faults state new)
      × IsOneDown new

-- What the next of these writes is answered by: nothing where there is none.
abbrev pub WorksOn : {D : Type 0} → (D → DiskState) → (D → ℕ → List ℕ → Type 0) → TableDevs D → TableDevs D
    → Result Step CommitFault → List Write → Type 0
WorksOn state images old new result [] = (result ≡ Ok steps.Idle) × (new ≡ old)
WorksOn state images old new result (w ∷ ws) =
    Works state images w ws old new result × (writes_of new ≡ ws) × IfOk result (λ step. step ≡ step_of w)

-- Where R holds now, and behind each of the writes that are to come, it does so after the call too; and a crash at any
-- moment of the call leaves devices with R, as it is said of all these writes or of those behind the first.
pub record GoesOn {D T : Type 0} (state : D → DiskState) (images : D → ℕ → List ℕ → Type 0) (R : List Write → Devs
    → Type 0) (old new : TableDevs D) (result : Result T CommitFault) : Type 0 where
  pub runs : OnOk result (Runs R (devs state new) (writes_of new))
  pub any_moment : DevsLeave state images old new (λ d. R (writes_of old) d ⊎ R (drop 1 (writes_of old)) d)

-- each device was formatted, or looked at since the last restart, and its file stands for what it holds
pub record AreLookedAt {D : Type 0} (state : D → DiskState) (table : TableDevs D) : Type 0 where
  pub chunks : chunks.IsLookedAt state table.chunks
  pub rows : rows.IsLookedAt state table.rows
  pub log : logs.IsLookedAt state table.log

-- each file stands for what is held, and not by chance
pub record AreSound {D : Type 0} (state : D → DiskState) (table : TableDevs D) : Type 0 where
  pub chunks : IsSound state (chunks.vault_of table.chunks)
  pub rows : IsSound state (rows.vault_of table.rows)
  pub log : IsSound state (logs.vault_of table.log)

-- ready for the writes of an update
pub record AreOpened {D : Type 0} (state : D → DiskState) (table : TableDevs D) : Type 0 where
  pub chunks : chunks.IsOpened state table.chunks
  pub rows : rows.IsOpened state table.rows
  pub log : logs.IsOpened state table.log

-- all that is seen is on the disks, where they are up
pub record AreSynced {D : Type 0} (state : D → DiskState) (table : TableDevs D) : Type 0 where
  pub chunks : IsSynced state (chunks.vault_of table.chunks)
  pub rows : IsSynced state (rows.vault_of table.rows)
  pub log : IsSynced state (logs.vault_of table.log)

-- each disk's file is empty, or a gate and nothing more, and all on the disk
pub record AreBlank {D : Type 0} (state : D → DiskState) (table : TableDevs D) : Type 0 where
  pub chunks : IsBlank state (chunks.vault_of table.chunks)
  pub rows : IsBlank state (rows.vault_of table.rows)
  pub log : IsBlank state (logs.vault_of table.log)

-- there is room for one opening of each vault
pub record HaveOpenings {D : Type 0} (state : D → DiskState) (table : TableDevs D) : Type 0 where
  pub chunks : chunks.HasRoom state table.chunks 1 0 0
  pub rows : rows.HasRoom state table.rows 1 0 0
  pub log : logs.HasRoom state table.log 1 0 0

-- no chunk, no row and no open entry
abbrev pub nothing : Devs
nothing = record { chunks = []; held = nothing_held; pending = None }
