use Rattle.std.proofs.Common.{◌≡◌, ◌∷◌, ◌*◌, List, map, Err, inr, refl, sym, ◌∙◌, subst, arith}
use Rattle.std.proofs.lemmas.Result.{err_from_is_err_and}
use Rattle.std.proofs.Common.{◌≤◌, ℕ}
use Rattle.vault.specs.Limit.{payload_most}
use Rattle.chunk_store.specs.Standing as chunks
use Rattle.slot_store.specs.Standing as slots
use Rattle.client_journal.specs.Made.{bytes_of_row, bytes_of_record}
use Rattle.client_journal.specs.Agenda.{redo_writes}
use Rattle.client_journal.specs.Devs.{OpenJournal, OpenSlots, OpenChunks}
use Rattle.client_journal.specs.declared.fault.JournalFault.TheVariants.{Memory}
use Rattle.client_journal.specs.Devs.{Write}
use Rattle.client_journal.specs.Standing.{devs, write_of, IsReady}
use Rattle.client_journal.specs.Recover.{AreRecoveryWrites}
use Rattle.client_journal.proofs.Planned.{row_spelled, row_short, record_spelled, record_short}
use Rattle.client_journal.proofs.Starting.{none_starts, starts_err, starts_other}
use Rattle.client_journal.proofs.Rolling.{redone_writes, redo_is_ready}
use Rattle.client_journal.proofs.devs.Journal.redo_tasks.Goals as goal

pub returns-in_err-names-clause-starts : goal.returns-in_err-names-clause-starts
returns-in_err-names-clause-starts g c =
    let p = err_from_is_err_and c.from_residual.result c.from_residual.ensures.1 in
    rw (p.1, p.2) (none_starts g.D.Disk.state g.D.Disk.images g.met.D.Disk.only_now c.args.self.now c.requires.starting (Err Memory) (λ is. cc) (inr refl))

pub returns-in_err-row-clause-starts : goal.returns-in_err-row-clause-starts
returns-in_err-row-clause-starts g c =
    let p = err_from_is_err_and c.from_residual-in_err-row.result c.from_residual-in_err-row.ensures.1 in
    rw (p.1, p.2) (none_starts g.D.Disk.state g.D.Disk.images g.met.D.Disk.only_now c.args.self.now c.requires.starting (Err Memory) (λ is. cc) (inr refl))

pub returns-in_err-held-clause-starts : goal.returns-in_err-held-clause-starts
returns-in_err-held-clause-starts g c =
    let p = err_from_is_err_and c.from_residual-in_err-held.result c.from_residual-in_err-held.ensures.1 in
    rw (p.1, p.2) (none_starts g.D.Disk.state g.D.Disk.images g.met.D.Disk.only_now c.args.self.now c.requires.starting (Err Memory) (λ is. cc) (inr refl))

pub returns-in_err-start_room-clause-starts : goal.returns-in_err-start_room-clause-starts
returns-in_err-start_room-clause-starts g c =
    let p = err_from_is_err_and c.from_residual-in_err-start_room.result c.from_residual-in_err-start_room.ensures.1 in
    rw (p.1, p.2) (starts_err g.D.Disk.state g.D.Disk.images c.args.self.now c.start_room.new.self c.in_err-start_room.field-0.0 c.in_err-start_room.ensures.starts)

pub returns-in_err-tasks-clause-starts : goal.returns-in_err-tasks-clause-starts
returns-in_err-tasks-clause-starts g c =
    let p = err_from_is_err_and c.from_residual-in_err-tasks.result c.from_residual-in_err-tasks.ensures.1 in
    rw (p.1, p.2) (starts_other g.D.Disk.state g.D.Disk.images c.args.self.now c.start_room.new.self _ (λ is. cc) c.in_ok-start_room.ensures.starts (Err Memory) (λ is. cc) (inr refl))

pub returns-clause-starts : goal.returns-clause-starts
returns-clause-starts g c = starts_other g.D.Disk.state g.D.Disk.images c.args.self.now c.start_room.new.self _ (λ is. cc) c.in_ok-start_room.ensures.starts _ (λ is. cc) tt

pub held_bytes-requires-clause-row : goal.held_bytes-requires-clause-row
held_bytes-requires-clause-row g c = rw c.in_ok-row.ensures.row (row_spelled c.args.commit.now c.requires.spelled)

pub held_bytes-requires-clause-row_short : goal.held_bytes-requires-clause-row_short
held_bytes-requires-clause-row_short g c = rw c.in_ok-row.ensures.row (row_short c.args.commit.now c.requires.spelled c.requires.short)

pub held_bytes-requires-clause-table : goal.held_bytes-requires-clause-table
held_bytes-requires-clause-table g c = rw c.in_ok-row.ensures.table (record_spelled c.args.commit.now _ c.requires.spelled c.in_ok-row.ensures.old)

pub held_bytes-requires-clause-table_short : goal.held_bytes-requires-clause-table_short
held_bytes-requires-clause-table_short g c = rw c.in_ok-row.ensures.table (record_short c.args.commit.now _ c.requires.short c.in_ok-row.ensures.old)

pub start_room-requires-clause-held : goal.start_room-requires-clause-held
start_room-requires-clause-held g c =
    let row : bytes_of_row c.in_ok-row.row ≤ payload_most = rw c.in_ok-row.ensures.row (row_short c.args.commit.now c.requires.spelled c.requires.short) in
    let table : bytes_of_record c.in_ok-row.table ≤ payload_most = rw c.in_ok-row.ensures.table (record_short c.args.commit.now _ c.requires.short c.in_ok-row.ensures.old) in
    omega (arith, row, table, c.in_ok-held.ensures)

pub returns-clause-tasks : goal.returns-clause-tasks
returns-clause-tasks g c =
    let d = devs g.D.Disk.state c.args.self.now in
    let commit = c.args.commit.now in
    let names = c.in_ok-names.names.items in
    let k = c.in_ok-row.ensures in
    let are : map write_of c.in_ok-tasks.tasks.items ≡ OpenJournal ∷ (OpenSlots ∷ (OpenChunks ∷ redo_writes d.held commit names)) = c.in_ok-tasks.ensures ∙ rw (k.row, k.table, c.deref.ensures.value) refl in
    subst (AreRecoveryWrites d) (sym are) (redone_writes d commit names c.requires.at_work c.in_ok-names.ensures)

pub returns-clause-ready : goal.returns-clause-ready
returns-clause-ready g c =
    let s = g.D.Disk.state in
    let old = c.args.self.now in
    let new = c.start_room.new.self in
    let d = devs s old in
    let commit = c.args.commit.now in
    let names = c.in_ok-names.names.items in
    let k = c.in_ok-row.ensures in
    let r = c.in_ok-start_room.ensures in
    let are : map write_of c.in_ok-tasks.tasks.items ≡ OpenJournal ∷ (OpenSlots ∷ (OpenChunks ∷ redo_writes d.held commit names)) = c.in_ok-tasks.ensures ∙ rw (k.row, k.table, c.deref.ensures.value) refl in
    subst (λ (l : List Write). IsReady s new l) (sym are)
    (redo_is_ready s old new (r.starts.starting (λ is. cc)) (r.starts.same (λ is. cc)) commit names c.requires.at_work c.requires.spelled c.requires.short k.old c.in_ok-names.ensures
    (subst (λ (n : ℕ). chunks.HasRoom s new.chunks 1 n (13 * n)) (c.len.ensures ∙ c.in_ok-names.names.ok.0) r.chunk_room)
    (subst (λ (n : ℕ). slots.HasRoom s new.slots 1 2 n) (c.in_ok-held.ensures ∙ rw (k.row, k.table) refl) r.slot_room)
    r.journal_room)
