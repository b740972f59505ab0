use Rattle.std.proofs.Common.{◌≡◌, Option, None, Ok, refl, sym, ◌∙◌, ap, subst}
use Rattle.std.specs.Prelude.{IfOk}
use Rattle.std.specs.BTreeSet.{contains}
use Rattle.slot_store.specs.declared.held.RowSlots.{RowSlots}
use Rattle.slot_store.specs.Data.{key_cmp}
use Rattle.client_journal.specs.Redone.{redone}
use Rattle.client_journal.specs.Standing.{devs}
use Rattle.client_journal.proofs.Asking.{asks_down, asks_reads, reads_none}
use Rattle.client_journal.proofs.ShownRows.{slots_hidden, slots_there}
use Rattle.client_journal.proofs.devs.Journal.shown_slots.Goals as goal

pub returns-then-is_down-clause-asks : goal.returns-then-is_down-clause-asks
returns-then-is_down-clause-asks g c = asks_down g.D.Disk.state g.D.Disk.images g.met.D.Disk.only_now c.args.self.now c.if-is_down.ensures

pub returns-then-is_hidden-clause-asks : goal.returns-then-is_hidden-clause-asks
returns-then-is_hidden-clause-asks g c =
    let up = c.if-is_down.ensures in
    let none : Option RowSlots = None in
    asks_reads g.D.Disk.state g.D.Disk.images g.met.D.Disk.only_now c.args.self.now up (c.requires up) c.args.self.now (Ok none) (reads_none g.D.Disk.state g.D.Disk.images g.met.D.Disk.only_now c.args.self.now up (c.requires up) (Ok none) (λ is. cc) tt)

pub returns-then-is_hidden-clause-slots : goal.returns-then-is_hidden-clause-slots
returns-then-is_hidden-clause-slots g c = slots_hidden (contains key_cmp c.args.scanned.now.hidden) (redone (devs g.D.Disk.state c.args.self.now)) c.args.table c.args.row.now (sym c.is_hidden.ensures ∙ c.if-is_hidden.true)

pub returns-clause-slots : goal.returns-clause-slots
returns-clause-slots g c =
    subst (λ (o : Option RowSlots). IfOk c.slots.result (λ (found : Option RowSlots). o ≡ found))
    (sym (slots_there (contains key_cmp c.args.scanned.now.hidden) (redone (devs g.D.Disk.state c.args.self.now)) c.args.table c.args.row.now (sym c.is_hidden.ensures ∙ c.if-is_hidden.false))) c.slots.ensures.slots
