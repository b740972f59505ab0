-- What a start tells of a plan that was cut short, and the writes that end it.
use Rattle.std.proofs.Common.{◌≡◌, inl, inr, ⊎_elim, ◌⊎◌, ℕ, ◌+◌, ◌*◌, ◌≤◌, Bool, List, [], ◌∷◌, ◌++◌, length, map, filter, Option, Some, None, Result, Ok, Err, refl, sym, ◌∙◌, ap, subst, arith}
use Rattle.std.specs.Prelude.{IsErrOf, IsSome, IfSome, IfOk, IfErr, OnOk, ◌==◌, ◌&&◌, nat_lt}
use Rattle.std.specs.Map.{keys_of}
use Rattle.disk_trait.specs.Image.{IsImage}
use Rattle.disk_trait.specs.Calls.{DiskState}
use Rattle.vault.specs.Limit.{payload_most}
use Rattle.vault.specs.Standing.{IsDown}
use Rattle.stab_base.specs.declared.chunk_name.ChunkName.{ChunkName}
use Rattle.held_value.specs.declared.local_name.LocalName.{LocalName}
use Rattle.chunk_store.specs.declared.device.ChunkDev.{ChunkDev}
use Rattle.chunk_store.specs.declared.fault.ChunkFault.{ChunkFault}
use Rattle.chunk_store.specs.declared.fault.ChunkFault.TheVariants as chunk_faults
use Rattle.chunk_store.specs.Standing as chunks
use Rattle.slot_store.specs.Data.{record_of}
use Rattle.slot_store.specs.Standing as slots
use Rattle.plan_log.specs.declared.plan.Intend.{Intend}
use Rattle.plan_log.specs.declared.plan.Commit.{Commit}
use Rattle.plan_log.specs.Spelling.{HasCommit, commit_payload}
use Rattle.plan_log.specs.Journal.{AtWork, Idle, Intended, Committed, intend_of, committed_plan}
use Rattle.plan_log.specs.Standing as journals
use Rattle.client_journal.specs.declared.devs.Journal.{Journal}
use Rattle.client_journal.specs.declared.fault.JournalFault.{JournalFault}
use Rattle.client_journal.specs.declared.fault.JournalFault.TheVariants.{Disk, Memory}
use Rattle.client_journal.specs.Fault.{caused, chunk_cause}
use Rattle.client_journal.specs.Devs.{ClientDevs, Write, OpenJournal, OpenSlots, OpenChunks}
use Rattle.client_journal.specs.Redone.{row_behind, record_for}
use Rattle.client_journal.specs.NamedSlots.{IsNotCommitted}
use Rattle.client_journal.specs.Agenda.{drops, redo_writes, rest_writes, AreLeftovers}
use Rattle.client_journal.specs.Made.{bytes_of_row, bytes_of_record, IsOld}
use Rattle.client_journal.specs.Standing.{devs, IsReady}
use Rattle.client_journal.specs.TakesOn.{IsNotDisk}
use Rattle.client_journal.specs.Recover.{IsStarting, Starts, AreRecoveryWrites}
use Rattle.client_journal.proofs.Leftovers.{none_left}
use Rattle.client_journal.proofs.Starting.{chunks_told}
use Rattle.client_journal.proofs.Recovers.{idle_ready, undo_ready, redo_ready}

-- ---- what is at work

pub is_idle : (w : AtWork) → IsNotCommitted w → None ≡ intend_of w → w ≡ Idle
is_idle Idle n h = refl
is_idle (Intended intend) n h = absurd cc
is_idle (Committed commit) n h = absurd n

pub is_intended : (w : AtWork) (intend : Intend) → Some intend ≡ intend_of w → w ≡ Intended intend
is_intended Idle intend h = absurd cc
is_intended (Intended one) intend h = let same : one ≡ intend = cc in ap (λ (i : Intend). Intended i) same
is_intended (Committed commit) intend h = absurd cc

pub not_committed : (w : AtWork) → None ≡ committed_plan w → IsNotCommitted w
not_committed Idle h = tt
not_committed (Intended intend) h = tt
not_committed (Committed commit) h = absurd cc

pub some_committed : (w : AtWork) (plan : ℕ) → Some plan ≡ committed_plan w → IsSome (committed_plan w)
some_committed w plan is = subst (λ (o : Option ℕ). IsSome o) is refl

-- ---- the writes

abbrev first_opened : List Write → List Write
first_opened ws = OpenJournal ∷ (OpenSlots ∷ (OpenChunks ∷ ws))

module _ (d : ClientDevs) where
  pub idle_writes : d.journal.at_work ≡ Idle → AreRecoveryWrites d (first_opened [])
  idle_writes is = ([], none_left d is, ap (λ (w : AtWork). first_opened (rest_writes w d.held [])) (sym is))

  pub undo_writes : (intend : Intend) (names : List LocalName) → d.journal.at_work ≡ Intended intend → AreLeftovers d names → AreRecoveryWrites d (first_opened (drops names))
  undo_writes intend names is l = (names, l, ap (λ (w : AtWork). first_opened (rest_writes w d.held names)) (sym is))

  pub redone_writes : (commit : Commit) (names : List LocalName) → d.journal.at_work ≡ Committed commit → AreLeftovers d names → AreRecoveryWrites d (first_opened (redo_writes d.held commit names))
  redone_writes commit names is l = (names, l, ap (λ (w : AtWork). first_opened (rest_writes w d.held names)) (sym is))

-- ---- ready, behind calls that changed nothing

module _ {D : Type 0} (state : D → DiskState) (old new : Journal D) (s : IsStarting state new) (same : devs state new ≡ devs state old) where
  pub undo_is_ready : (names : List LocalName) → AreLeftovers (devs state old) names → chunks.HasRoom state new.chunks 1 (length names) (13 * length names) → slots.HasRoom state new.slots 1 2 0
      → journals.HasRoom state new.journal 1 1 9 → IsReady state new (first_opened (drops names))
  undo_is_ready names l = undo_ready state new s names (subst (λ (d : ClientDevs). AreLeftovers d names) (sym same) l)

  pub redo_is_ready : (commit : Commit) (names : List LocalName) → (devs state old).journal.at_work ≡ Committed commit → HasCommit commit → length (commit_payload commit) ≤ payload_most
      → IsOld (record_of (devs state old).held commit.table) → AreLeftovers (devs state old) names → chunks.HasRoom state new.chunks 1 (length names) (13 * length names)
      → slots.HasRoom state new.slots 1 2 (bytes_of_row (row_behind commit) + bytes_of_record (record_for (record_of (devs state old).held commit.table) commit))
      → journals.HasRoom state new.journal 1 1 9 → IsReady state new (first_opened (redo_writes (devs state old).held commit names))
  redo_is_ready commit names is spelled short o l chunk_room slot_room journal_room =
      let work : (devs state new).journal.at_work ≡ Committed commit = ap (λ (d : ClientDevs). d.journal.at_work) same ∙ is in
      let held : (devs state new).held ≡ (devs state old).held = ap (λ (d : ClientDevs). d.held) same in
      subst (λ h. IsReady state new (first_opened (redo_writes h commit names))) held
      (redo_ready state new s commit names work spelled short (subst (λ h. IsOld (record_of h commit.table)) (sym held) o) (subst (λ (d : ClientDevs). AreLeftovers d names) (sym same) l) chunk_room
      (subst (λ h. slots.HasRoom state new.slots 1 2 (bytes_of_row (row_behind commit) + bytes_of_record (record_for (record_of h commit.table) commit))) (sym held) slot_room) journal_room)

-- ---- the names of an intend's chunks

module _ {D T : Type 0} (state : D → DiskState) (images : D → ℕ → List ℕ → Type 0) (only_now : (disk : D) (image : List ℕ) → images disk (state disk).moment image → IsImage (state disk).pending image) (old : Journal D) (s : IsStarting state old) (dev : ChunkDev D) where
  pub names_told : (r : Result T ChunkFault) → chunks.Stays state old.chunks dev → chunks.vault_of dev ≡ chunks.vault_of old.chunks → (IsErrOf r chunk_faults.Absent → ⊥) → (IsErrOf r chunk_faults.Disk → ⊥)
      → (IsErrOf r chunk_faults.Down → IsDown (chunks.vault_of old.chunks)) → Starts state images old (record old { chunks = dev }) (caused chunk_cause r)
  names_told (Ok x) stays same not_absent not_disk down = chunks_told state images only_now old s dev stays same (Ok x) (λ is. cc) tt
  names_told (Err chunk_faults.Memory) stays same not_absent not_disk down = chunks_told state images only_now old s dev stays same (Err Memory) (λ is. cc) (inr refl)
  names_told (Err chunk_faults.Absent) stays same not_absent not_disk down = absurd (not_absent refl)
  names_told (Err chunk_faults.Disk) stays same not_absent not_disk down = absurd (not_disk refl)
  names_told (Err chunk_faults.Down) stays same not_absent not_disk down = let is_down : IsDown (chunks.vault_of old.chunks) = down refl in let is = s.looked.chunks.vault.up in absurd cc
