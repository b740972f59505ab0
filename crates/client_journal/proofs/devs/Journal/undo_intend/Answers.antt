use Rattle.std.proofs.Common.{◌≡◌, ◌∷◌, ◌*◌, ℕ, List, map, Err, inr, refl, sym, ◌∙◌, ap, subst}
use Rattle.std.proofs.lemmas.Result.{err_from_is_err_and}
use Rattle.chunk_store.specs.Standing as chunks
use Rattle.plan_log.specs.Journal.{AtWork}
use Rattle.client_journal.specs.declared.fault.JournalFault.TheVariants.{Memory}
use Rattle.client_journal.specs.Devs.{Write, OpenJournal, OpenSlots, OpenChunks}
use Rattle.client_journal.specs.Agenda.{drops}
use Rattle.client_journal.specs.Standing.{devs, write_of, IsReady}
use Rattle.client_journal.specs.Recover.{AreRecoveryWrites, rolled_of}
use Rattle.client_journal.proofs.Starting.{starts_then, starts_err, starts_other}
use Rattle.client_journal.proofs.Rolling.{undo_writes, undo_is_ready}
use Rattle.client_journal.proofs.devs.Journal.undo_intend.Goals as goal

pub start_room-requires-clause-starting : goal.start_room-requires-clause-starting
start_room-requires-clause-starting g c = c.in_ok-names.ensures.starts.starting (λ is. cc)

pub returns-in_err-names-clause-starts : goal.returns-in_err-names-clause-starts
returns-in_err-names-clause-starts g c =
    let p = err_from_is_err_and c.from_residual.result c.from_residual.ensures.1 in
    rw (p.1, p.2) (starts_err g.D.Disk.state g.D.Disk.images c.args.self.now c.brought_names.new.self c.in_err-names.field-0.0 c.in_err-names.ensures.starts)

pub returns-in_err-start_room-clause-starts : goal.returns-in_err-start_room-clause-starts
returns-in_err-start_room-clause-starts g c =
    let p = err_from_is_err_and c.from_residual-in_err-start_room.result c.from_residual-in_err-start_room.ensures.1 in
    rw (p.1, p.2) (starts_err g.D.Disk.state g.D.Disk.images c.args.self.now c.start_room.new.self c.in_err-start_room.field-0.0
    (starts_then g.D.Disk.state g.D.Disk.images c.args.self.now c.brought_names.new.self c.start_room.new.self _ (λ is. cc) c.in_ok-names.ensures.starts _ c.in_err-start_room.ensures.starts))

pub returns-in_err-tasks-clause-starts : goal.returns-in_err-tasks-clause-starts
returns-in_err-tasks-clause-starts g c =
    let p = err_from_is_err_and c.from_residual-in_err-tasks.result c.from_residual-in_err-tasks.ensures.1 in
    let two = starts_then g.D.Disk.state g.D.Disk.images c.args.self.now c.brought_names.new.self c.start_room.new.self _ (λ is. cc) c.in_ok-names.ensures.starts _ c.in_ok-start_room.ensures.starts in
    rw (p.1, p.2) (starts_other g.D.Disk.state g.D.Disk.images c.args.self.now c.start_room.new.self _ (λ is. cc) two (Err Memory) (λ is. cc) (inr refl))

pub returns-clause-starts : goal.returns-clause-starts
returns-clause-starts g c =
    let two = starts_then g.D.Disk.state g.D.Disk.images c.args.self.now c.brought_names.new.self c.start_room.new.self _ (λ is. cc) c.in_ok-names.ensures.starts _ c.in_ok-start_room.ensures.starts in
    starts_other g.D.Disk.state g.D.Disk.images c.args.self.now c.start_room.new.self _ (λ is. cc) two _ (λ is. cc) tt

pub returns-clause-answer : goal.returns-clause-answer
returns-clause-answer g c = c.torn_by.ensures ∙ ap (λ (w : AtWork). rolled_of w) (sym c.requires.at_work)

pub returns-clause-tasks : goal.returns-clause-tasks
returns-clause-tasks g c =
    let d = devs g.D.Disk.state c.args.self.now in
    let names = c.in_ok-names.names.items in
    let are : map write_of c.in_ok-tasks.tasks.items ≡ OpenJournal ∷ (OpenSlots ∷ (OpenChunks ∷ drops names)) = c.in_ok-tasks.ensures ∙ rw c.deref.ensures.value refl in
    subst (λ (l : List Write). AreRecoveryWrites d l) (sym are) (undo_writes d c.args.intend.now names c.requires.at_work c.in_ok-names.ensures.left)

pub returns-clause-ready : goal.returns-clause-ready
returns-clause-ready g c =
    let s = g.D.Disk.state in
    let old = c.args.self.now in
    let mid = c.brought_names.new.self in
    let new = c.start_room.new.self in
    let names = c.in_ok-names.names.items in
    let r = c.in_ok-start_room.ensures in
    let are : map write_of c.in_ok-tasks.tasks.items ≡ OpenJournal ∷ (OpenSlots ∷ (OpenChunks ∷ drops names)) = c.in_ok-tasks.ensures ∙ rw c.deref.ensures.value refl in
    subst (λ (l : List Write). IsReady s new l) (sym are)
    (undo_is_ready s old new (r.starts.starting (λ is. cc)) (r.starts.same (λ is. cc) ∙ c.in_ok-names.ensures.starts.same (λ is. cc)) names c.in_ok-names.ensures.left
    (subst (λ (n : ℕ). chunks.HasRoom s new.chunks 1 n (13 * n)) (c.len.ensures ∙ c.in_ok-names.names.ok.0) r.chunk_room) r.slot_room r.journal_room)
