use Rattle.std.proofs.Common.{◌≡◌, inr, Option, Some, None, Ok, Err, refl, sym, ◌∙◌, ap, subst}
use Rattle.std.specs.Prelude.{IfOk}
use Rattle.std.proofs.lemmas.Result.{err_from_is_err_and}
use Rattle.slot_store.specs.declared.held.RowSlots.{RowSlots}
use Rattle.slot_store.specs.Data.{slots_of}
use Rattle.client_journal.specs.declared.fault.JournalFault.TheVariants.{Memory}
use Rattle.client_journal.specs.Asking.{applied_if}
use Rattle.client_journal.specs.Scan.{put_or}
use Rattle.client_journal.specs.Standing.{devs}
use Rattle.client_journal.proofs.Asking.{reads_none}
use Rattle.client_journal.proofs.devs.Journal.slots_with.Goals as goal

pub returns-in_err-put-clause-reads : goal.returns-in_err-put-clause-reads
returns-in_err-put-clause-reads g c =
    let p = err_from_is_err_and c.from_residual.result c.from_residual.ensures.1 in
    rw (p.1, p.2) (reads_none g.D.Disk.state g.D.Disk.images g.met.D.Disk.only_now c.args.self.now c.requires.up c.requires.looked (Err Memory) (λ is. cc) (inr refl))

pub returns-in-Some-clause-reads : goal.returns-in-Some-clause-reads
returns-in-Some-clause-reads g c = reads_none g.D.Disk.state g.D.Disk.images g.met.D.Disk.only_now c.args.self.now c.requires.up c.requires.looked _ (λ is. cc) tt

pub returns-in-Some-clause-slots : goal.returns-in-Some-clause-slots
returns-in-Some-clause-slots g c =
    let held = (devs g.D.Disk.state c.args.self.now).held in
    c.in_ok-put.ensures held ∙ ap (λ (o : Option RowSlots). put_or o (slots_of held c.args.key.now.table c.args.key.now.row)) c.in-Some.is

pub returns-in-None-clause-slots : goal.returns-in-None-clause-slots
returns-in-None-clause-slots g c =
    let held = (devs g.D.Disk.state c.args.self.now).held in
    let same : slots_of (applied_if c.args.commit.now held) c.args.key.now.table c.args.key.now.row ≡ slots_of held c.args.key.now.table c.args.key.now.row = c.in_ok-put.ensures held ∙ ap (λ (o : Option RowSlots). put_or o (slots_of held c.args.key.now.table c.args.key.now.row)) c.in-None.is in
    subst (λ (o : Option RowSlots). IfOk c.held_slots.result (λ (found : Option RowSlots). o ≡ found)) (sym same) c.held_slots.ensures.slots
