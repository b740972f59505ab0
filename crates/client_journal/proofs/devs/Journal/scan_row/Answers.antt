use Rattle.std.proofs.Common.{◌≡◌, inr, Option, Some, None, Ok, Err, refl, sym, ◌∙◌, ap, subst}
use Rattle.std.proofs.lemmas.Result.{err_from_is_err_and}
use Rattle.slot_store.specs.declared.held.RowSlots.{RowSlots}
use Rattle.client_journal.specs.declared.fault.JournalFault.TheVariants.{Memory}
use Rattle.client_journal.specs.Devs.{ClientDevs}
use Rattle.client_journal.specs.Asking.{applied_if}
use Rattle.client_journal.specs.Scan.{NotesRow}
use Rattle.client_journal.specs.Standing.{devs}
use Rattle.client_journal.proofs.Asking.{stay_up, stay_looked, stay_devs, reads_other, reads_err}
use Rattle.client_journal.proofs.devs.Journal.scan_row.Goals as goal

pub note_slots-requires-clause-up : goal.note_slots-requires-clause-up
note_slots-requires-clause-up g c = let k = c.in_ok-stored.ensures.reads.stay (λ is. cc) in stay_up g.D.Disk.state c.args.self.now c.slots_with.new.self k c.requires.up

pub note_slots-requires-clause-looked : goal.note_slots-requires-clause-looked
note_slots-requires-clause-looked g c = let k = c.in_ok-stored.ensures.reads.stay (λ is. cc) in stay_looked g.D.Disk.state c.args.self.now c.slots_with.new.self k c.requires.looked

pub returns-in_err-stored-clause-reads : goal.returns-in_err-stored-clause-reads
returns-in_err-stored-clause-reads g c =
    let p = err_from_is_err_and c.from_residual.result c.from_residual.ensures.1 in
    rw (p.1, p.2) (reads_err g.D.Disk.state g.D.Disk.images c.args.self.now c.slots_with.new.self c.in_err-stored.field-0.0 c.in_err-stored.ensures.reads)

pub returns-in-None-clause-reads : goal.returns-in-None-clause-reads
returns-in-None-clause-reads g c = reads_other g.D.Disk.state g.D.Disk.images c.args.self.now c.slots_with.new.self c.in_ok-stored.stored c.in_ok-stored.ensures.reads _ (λ is. cc) tt

pub returns-in-None-clause-noted : goal.returns-in-None-clause-noted
returns-in-None-clause-noted g c stored at = let none : None ≡ Some stored = sym (c.in_ok-stored.ensures.slots ∙ c.in-None.is) ∙ at in absurd cc

pub returns-in_err-note_slots-in-Some-clause-reads : goal.returns-in_err-note_slots-in-Some-clause-reads
returns-in_err-note_slots-in-Some-clause-reads g c =
    let p = err_from_is_err_and c.from_residual-in_err-note_slots-in-Some.result c.from_residual-in_err-note_slots-in-Some.ensures.1 in
    rw (p.1, p.2) (reads_other g.D.Disk.state g.D.Disk.images c.args.self.now c.slots_with.new.self c.in_ok-stored.stored c.in_ok-stored.ensures.reads (Err Memory) (λ is. cc) (inr refl))

pub returns-in_ok-note_slots-in-Some-clause-reads : goal.returns-in_ok-note_slots-in-Some-clause-reads
returns-in_ok-note_slots-in-Some-clause-reads g c = reads_other g.D.Disk.state g.D.Disk.images c.args.self.now c.slots_with.new.self c.in_ok-stored.stored c.in_ok-stored.ensures.reads _ (λ is. cc) tt

pub returns-in_ok-note_slots-in-Some-clause-noted : goal.returns-in_ok-note_slots-in-Some-clause-noted
returns-in_ok-note_slots-in-Some-clause-noted g c stored at =
    let s = g.D.Disk.state in
    let mid = c.slots_with.new.self in
    let same : devs s mid ≡ devs s c.args.self.now = stay_devs s c.args.self.now mid (c.in_ok-stored.ensures.reads.stay (λ is. cc)) in
    let both : Some c.in-Some.stored ≡ Some stored = sym (c.in_ok-stored.ensures.slots ∙ c.in-Some.is) ∙ at in
    let one : c.in-Some.stored ≡ stored = cc in
    let noted = subst (λ (d : ClientDevs). NotesRow d.chunks (applied_if c.args.commit.now d.held) d.journal.greatest c.args.key.now c.in-Some.stored.slots c.args.found.now c.note_slots.new.found) same c.in_ok-note_slots-in-Some.ensures in
    subst (λ (r : RowSlots). NotesRow (devs s c.args.self.now).chunks (applied_if c.args.commit.now (devs s c.args.self.now).held) (devs s c.args.self.now).journal.greatest c.args.key.now r.slots c.args.found.now c.note_slots.new.found) one noted
