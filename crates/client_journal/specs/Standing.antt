-- A client's devices between calls, as what they hold and the writes that are still to come.
use Rattle.std.specs.Prelude.{◌≡◌, ◌⊎◌, ℕ, ◌+◌, ◌<◌, ◌≤◌, List, [], ◌∷◌, length, map, drop, IsSome, IsTrue, Result, Ok}
use Rattle.std.specs.Prelude.{Err, true}
use Rattle.std.specs.Prelude.{OnOk, IfOk}
use Rattle.disk_trait.specs.Calls.{DiskState}
use Rattle.vault.specs.Limit.{payload_most}
use Rattle.vault.specs.File.{StandsFor}
use Rattle.vault.specs.Standing.{faults, stops, disk_of, IsUp, IsDown, IsSound, IsSynced, IsBlank, StopsWithin}
use Rattle.stab_base.specs.declared.limits.TheConstants.{NUMBER_MAX}
use Rattle.stab_base.specs.declared.step.Step.{Step}
use Rattle.stab_base.specs.declared.step.Step.TheVariants as steps
use Rattle.chunk_store.specs.Payload.{chunks_of}
use Rattle.chunk_store.specs.Standing as chunks
use Rattle.slot_store.specs.Spelling.{HasRowSpelling, row_payload, HasRecordSpelling, record_payload}
use Rattle.slot_store.specs.Data.{data_of, nothing_held}
use Rattle.slot_store.specs.Standing as slots
use Rattle.plan_log.specs.Spelling.{HasIntend, HasCommit, commit_payload}
use Rattle.plan_log.specs.Journal.{journal_of, nothing_planned, may_intend, takes_commit, committed_plan}
use Rattle.plan_log.specs.Standing as journals
use Rattle.client_journal.specs.declared.devs.Journal.{Journal}
use Rattle.client_journal.specs.declared.task.Task.{Task}
use Rattle.client_journal.specs.declared.task.Task.TheVariants as tasks
use Rattle.client_journal.specs.declared.fault.JournalFault.{JournalFault}
use Rattle.client_journal.specs.declared.fault.JournalFault.TheVariants as faults_of
use Rattle.client_journal.specs.Devs.{ClientDevs, local_in, Write, OpenJournal, OpenSlots, OpenChunks, PutIntend}
use Rattle.client_journal.specs.Devs.{PutChunk, PutCommit, PutSlots, PutRecord, DropChunk, PutDone, changed_by}
use Rattle.client_journal.specs.Devs.{IsBeforeOrAfter}
use Rattle.client_journal.specs.Agenda.{Runs}
use Rattle.client_journal.specs.Fused.{device_of, vault_at}

-- what the devices hold
abbrev pub devs : {D : Type 0} → (D → DiskState) → Journal D → ClientDevs
devs state client =
    record {
      chunks = chunks.chunks state client.chunks;
      held = slots.held state client.slots;
      journal = journals.held state client.journal;
    }

abbrev pub write_of : Task → Write
write_of tasks.OpenJournal = OpenJournal
write_of tasks.OpenSlots = OpenSlots
write_of tasks.OpenChunks = OpenChunks
write_of (tasks.PutIntend intend) = PutIntend intend
write_of (tasks.PutChunk name bytes) = PutChunk name bytes
write_of (tasks.PutCommit commit) = PutCommit commit
write_of (tasks.PutSlots row) = PutSlots row
write_of (tasks.PutRecord table) = PutRecord table
write_of (tasks.DropChunk name) = DropChunk name
write_of tasks.PutDone = PutDone

abbrev pub step_of : Write → Step
step_of OpenJournal = steps.OpenJournal
step_of OpenSlots = steps.OpenSlots
step_of OpenChunks = steps.OpenChunks
step_of (PutIntend intend) = steps.Intend
step_of (PutChunk name bytes) = steps.ChunkPut
step_of (PutCommit commit) = steps.Commit
step_of (PutSlots row) = steps.SlotPut
step_of (PutRecord table) = steps.TablePut
step_of (DropChunk name) = steps.ChunkDrop
step_of PutDone = steps.Done

-- the writes that are still to come
abbrev pub writes_of : {D : Type 0} → Journal D → List Write
writes_of client = map write_of client.agenda.items

-- none of the three devices is down
pub record AreUp {D : Type 0} (client : Journal D) : Type 0 where
  pub chunks : IsUp (chunks.vault_of client.chunks)
  pub slots : IsUp (slots.vault_of client.slots)
  pub journal : IsUp (journals.vault_of client.journal)

-- one of them is
abbrev pub IsOneDown : {D : Type 0} → Journal D → Type 0
IsOneDown client = IsDown (chunks.vault_of client.chunks)
    ⊎ (IsDown (slots.vault_of client.slots) ⊎ IsDown (journals.vault_of client.journal))

-- how often the three disks have failed
abbrev pub all_faults : {D : Type 0} → (D → DiskState) → Journal D → ℕ
all_faults state client = faults state (chunks.vault_of client.chunks)
    + (faults state (slots.vault_of client.slots) + faults state (journals.vault_of client.journal))

-- how many calls of the three disks a fuse has stopped
abbrev pub all_stops : {D : Type 0} → (D → DiskState) → Journal D → ℕ
all_stops state client = stops state (chunks.vault_of client.chunks)
    + (stops state (slots.vault_of client.slots) + stops state (journals.vault_of client.journal))

-- ---- what the writes need

-- how many openings, puts and bytes each device still gets
abbrev pub chunk_opens : List Write → ℕ
chunk_opens [] = 0
chunk_opens (OpenChunks ∷ ws) = chunk_opens ws + 1
chunk_opens (_ ∷ ws) = chunk_opens ws

abbrev pub chunk_puts : List Write → ℕ
chunk_puts [] = 0
chunk_puts (PutChunk name bytes ∷ ws) = chunk_puts ws + 1
chunk_puts (DropChunk name ∷ ws) = chunk_puts ws + 1
chunk_puts (_ ∷ ws) = chunk_puts ws

abbrev pub chunk_bytes : List Write → ℕ
chunk_bytes [] = 0
chunk_bytes (PutChunk name bytes ∷ ws) = chunk_bytes ws + (13 + length bytes)
chunk_bytes (DropChunk name ∷ ws) = chunk_bytes ws + 13
chunk_bytes (_ ∷ ws) = chunk_bytes ws

abbrev pub slot_opens : List Write → ℕ
slot_opens [] = 0
slot_opens (OpenSlots ∷ ws) = slot_opens ws + 1
slot_opens (_ ∷ ws) = slot_opens ws

abbrev pub slot_puts : List Write → ℕ
slot_puts [] = 0
slot_puts (PutSlots row ∷ ws) = slot_puts ws + 1
slot_puts (PutRecord table ∷ ws) = slot_puts ws + 1
slot_puts (_ ∷ ws) = slot_puts ws

abbrev pub slot_bytes : List Write → ℕ
slot_bytes [] = 0
slot_bytes (PutSlots row ∷ ws) = slot_bytes ws + (length (row_payload row))
slot_bytes (PutRecord table ∷ ws) = slot_bytes ws + (length (record_payload table))
slot_bytes (_ ∷ ws) = slot_bytes ws

abbrev pub journal_opens : List Write → ℕ
journal_opens [] = 0
journal_opens (OpenJournal ∷ ws) = journal_opens ws + 1
journal_opens (_ ∷ ws) = journal_opens ws

abbrev pub journal_puts : List Write → ℕ
journal_puts [] = 0
journal_puts (PutIntend intend ∷ ws) = journal_puts ws + 1
journal_puts (PutCommit commit ∷ ws) = journal_puts ws + 1
journal_puts (PutDone ∷ ws) = journal_puts ws + 1
journal_puts (_ ∷ ws) = journal_puts ws

abbrev pub journal_bytes : List Write → ℕ
journal_bytes [] = 0
journal_bytes (PutIntend intend ∷ ws) = journal_bytes ws + 34
journal_bytes (PutCommit commit ∷ ws) = journal_bytes ws + (length (commit_payload commit))
journal_bytes (PutDone ∷ ws) = journal_bytes ws + 9
journal_bytes (_ ∷ ws) = journal_bytes ws

-- each vault is opened before it is written: it is already, or it is opened by the first of these writes that is its
-- own
abbrev pub chunk_opened : Type 0 → List Write → Type 0
chunk_opened opened [] = opened
chunk_opened opened (OpenChunks ∷ ws) = Unit {0}
chunk_opened opened (PutChunk name bytes ∷ ws) = opened
chunk_opened opened (DropChunk name ∷ ws) = opened
chunk_opened opened (_ ∷ ws) = chunk_opened opened ws

abbrev pub slot_opened : Type 0 → List Write → Type 0
slot_opened opened [] = opened
slot_opened opened (OpenSlots ∷ ws) = Unit {0}
slot_opened opened (PutSlots row ∷ ws) = opened
slot_opened opened (PutRecord table ∷ ws) = opened
slot_opened opened (_ ∷ ws) = slot_opened opened ws

abbrev pub journal_opened : Type 0 → List Write → Type 0
journal_opened opened [] = opened
journal_opened opened (OpenJournal ∷ ws) = Unit {0}
journal_opened opened (PutIntend intend ∷ ws) = opened
journal_opened opened (PutCommit commit ∷ ws) = opened
journal_opened opened (PutDone ∷ ws) = opened
journal_opened opened (_ ∷ ws) = journal_opened opened ws

-- what a write asks of what the devices hold
abbrev pub MayDo : ClientDevs → Write → Type 0
MayDo d OpenJournal = Unit {0}
MayDo d OpenSlots = Unit {0}
MayDo d OpenChunks = Unit {0}
MayDo d (PutIntend intend) = HasIntend intend × IsTrue (may_intend d.journal intend.plan)
MayDo d (PutChunk name bytes) = (name.plan ≤ NUMBER_MAX) × (13 + length bytes ≤ payload_most)
MayDo d (PutCommit commit) = HasCommit commit × (length (commit_payload commit) ≤ payload_most)
    × IsTrue (takes_commit d.journal commit.plan)
MayDo d (PutSlots row) = HasRowSpelling row × (length (row_payload row) ≤ payload_most)
MayDo d (PutRecord table) = HasRecordSpelling table × (length (record_payload table) ≤ payload_most)
MayDo d (DropChunk name) = IsSome (local_in d.chunks name)
MayDo d PutDone = IsSome (committed_plan d.journal.at_work)

abbrev pub MayDoAll : ClientDevs → List Write → Type 0
MayDoAll d [] = Unit {0}
MayDoAll d (w ∷ ws) = MayDo d w × MayDoAll (changed_by d w) ws

-- These writes may be done one after the other, and take no memory.
pub record IsReady {D : Type 0} (state : D → DiskState) (client : Journal D) (ws : List Write) : Type 0 where
  pub may : MayDoAll (devs state client) ws
  pub chunk_looked : chunks.IsLookedAt state client.chunks
  pub chunk_sound : IsSound state (chunks.vault_of client.chunks)
  pub chunk_is_opened : chunk_opened (chunks.IsOpened state client.chunks) ws
  pub chunk_room : chunks.HasRoom state client.chunks (chunk_opens ws) (chunk_puts ws) (chunk_bytes ws)
  pub slot_looked : slots.IsLookedAt state client.slots
  pub slot_sound : IsSound state (slots.vault_of client.slots)
  pub slot_is_opened : slot_opened (slots.IsOpened state client.slots) ws
  pub slot_room : slots.HasRoom state client.slots (slot_opens ws) (slot_puts ws) (slot_bytes ws)
  pub journal_looked : journals.IsLookedAt state client.journal
  pub journal_sound : IsSound state (journals.vault_of client.journal)
  pub journal_is_opened : journal_opened (journals.IsOpened state client.journal) ws
  pub journal_room : journals.HasRoom state client.journal (journal_opens ws) (journal_puts ws) (journal_bytes ws)

-- each disk's clock has gone on
pub record IsLater {D : Type 0} (state : D → DiskState) (old new : Journal D) : Type 0 where
  pub chunks : (state (disk_of (chunks.vault_of old.chunks))).moment
      ≤ (state (disk_of (chunks.vault_of new.chunks))).moment
  pub slots : (state (disk_of (slots.vault_of old.slots))).moment ≤ (state (disk_of (slots.vault_of new.slots))).moment
  pub journal : (state (disk_of (journals.vault_of old.journal))).moment
      ≤ (state (disk_of (journals.vault_of new.journal))).moment

-- At every moment since the old one, whatever a crash leaves of the three disks stands for devices with R.
pub record DevsLeave {D : Type 0} (state : D → DiskState) (images : D → ℕ → List ℕ → Type 0) (old new : Journal D)
    (R : ClientDevs → Type 0) : Type 0 where
  pub each : (c r l : List ℕ)
      → images (disk_of (chunks.vault_of new.chunks)) (state (disk_of (chunks.vault_of old.chunks))).moment c
      → images (disk_of (slots.vault_of new.slots)) (state (disk_of (slots.vault_of old.slots))).moment r
      → images (disk_of (journals.vault_of new.journal)) (state (disk_of (journals.vault_of old.journal))).moment l
      → (cs rs ls : List (List ℕ)) × StandsFor c cs × StandsFor r rs × StandsFor l ls
      × R (record { chunks = chunks_of cs; held = data_of rs; journal = journal_of ls })
  pub later : IsLater state old new

-- This write was done, and these are still to come; or a disk failed, and its device is down.
pub record Works {D T : Type 0} (state : D → DiskState) (images : D → ℕ → List ℕ → Type 0) (w : Write) (ws : List Write)
    (old new : Journal D) (result : Result T JournalFault) : Type 0 where
  pub devs_are : OnOk result (devs state new ≡ changed_by (devs state old) w)
  pub ready : OnOk result (IsReady state new ws)
  pub up : OnOk result (AreUp new)
  pub counted : OnOk result (all_faults state new ≡ all_faults state old)
  -- a crash at any moment of the call leaves what was there before the write or what is there after it
  pub any_moment : DevsLeave state images old new (IsBeforeOrAfter (devs state old) w)
  -- a fuse that stops one of the first two calls of the write's disk leaves it undone, whatever a crash leaves
  pub early : StopsWithin state (vault_at old (device_of w)) 2
      → DevsLeave state images old new (λ d. d ≡ devs state old)
  -- one that stops one of its four calls stops the write
  pub stopped : StopsWithin state (vault_at old (device_of w)) 4 → OnOk result ⊥
  -- one that lets four calls pass stops none of them
  pub late : (state (disk_of (vault_at old (device_of w)))).is_armed ≡ true
      → 4 ≤ (state (disk_of (vault_at old (device_of w)))).passes → all_stops state new ≡ all_stops state old
  pub disk : (e : JournalFault) → result ≡ Err e → (e ≡ faults_of.Disk) × (all_faults state old < all_faults state new)
      × IsOneDown new

-- What the next of these writes is answered by: nothing where there is none.
abbrev pub WorksOn : {D : Type 0} → (D → DiskState) → (D → ℕ → List ℕ → Type 0) → Journal D → Journal D
    → Result Step JournalFault → List Write → Type 0
WorksOn state images old new result [] = (result ≡ Ok steps.Idle) × (new ≡ old)
WorksOn state images old new result (w ∷ ws) =
    Works state images w ws old new result × (writes_of new ≡ ws) × IfOk result (λ step. step ≡ step_of w)

-- Where R holds now, and behind each of the writes that are to come, it does so after the call too; and a crash at any
-- moment of the call leaves devices with R, as it is said of all these writes or of those behind the first.
pub record GoesOn {D T : Type 0} (state : D → DiskState) (images : D → ℕ → List ℕ → Type 0) (R : List Write → ClientDevs
    → Type 0) (old new : Journal D) (result : Result T JournalFault) : Type 0 where
  pub runs : OnOk result (Runs R (devs state new) (writes_of new))
  pub any_moment : DevsLeave state images old new (λ d. R (writes_of old) d ⊎ R (drop 1 (writes_of old)) d)

-- each device was formatted, or looked at since the last restart, and its file stands for what it holds
pub record AreLookedAt {D : Type 0} (state : D → DiskState) (client : Journal D) : Type 0 where
  pub chunks : chunks.IsLookedAt state client.chunks
  pub slots : slots.IsLookedAt state client.slots
  pub journal : journals.IsLookedAt state client.journal

-- each file stands for what is held, and not by chance
pub record AreSound {D : Type 0} (state : D → DiskState) (client : Journal D) : Type 0 where
  pub chunks : IsSound state (chunks.vault_of client.chunks)
  pub slots : IsSound state (slots.vault_of client.slots)
  pub journal : IsSound state (journals.vault_of client.journal)

-- ready for the writes of a plan
pub record AreOpened {D : Type 0} (state : D → DiskState) (client : Journal D) : Type 0 where
  pub chunks : chunks.IsOpened state client.chunks
  pub slots : slots.IsOpened state client.slots
  pub journal : journals.IsOpened state client.journal

-- all that is seen is on the disks, where they are up
pub record AreSynced {D : Type 0} (state : D → DiskState) (client : Journal D) : Type 0 where
  pub chunks : IsSynced state (chunks.vault_of client.chunks)
  pub slots : IsSynced state (slots.vault_of client.slots)
  pub journal : IsSynced state (journals.vault_of client.journal)

-- each disk's file is empty, or a gate and nothing more, and all on the disk
pub record AreBlank {D : Type 0} (state : D → DiskState) (client : Journal D) : Type 0 where
  pub chunks : IsBlank state (chunks.vault_of client.chunks)
  pub slots : IsBlank state (slots.vault_of client.slots)
  pub journal : IsBlank state (journals.vault_of client.journal)

-- there is room for one opening of each vault
pub record HaveOpenings {D : Type 0} (state : D → DiskState) (client : Journal D) : Type 0 where
  pub chunks : chunks.HasRoom state client.chunks 1 0 0
  pub slots : slots.HasRoom state client.slots 1 0 0
  pub journal : journals.HasRoom state client.journal 1 0 0

-- no chunk, no slots, no table and no plan
abbrev pub nothing : ClientDevs
nothing = record { chunks = []; held = nothing_held; journal = nothing_planned }
