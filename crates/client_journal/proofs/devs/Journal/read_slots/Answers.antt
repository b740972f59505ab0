use Rattle.std.proofs.Common.{◌≡◌, inl, ℕ, List, Option, Some, None, Result, Ok, Err, refl, sym, ◌∙◌, ap, subst}
use Rattle.std.specs.Prelude.{IfOk}
use Rattle.std.proofs.lemmas.Result.{err_from_is_err_and}
use Rattle.slot_store.specs.declared.held.RowSlots.{RowSlots}
use Rattle.slot_store.specs.Data.{SlotData, slots_of}
use Rattle.client_journal.specs.Devs.{ClientDevs}
use Rattle.client_journal.specs.Redone.{redone}
use Rattle.client_journal.specs.Standing.{devs}
use Rattle.client_journal.proofs.Asking.{stay_up, stay_looked, stay_devs, reads_then, reads_other, reads_err}
use Rattle.client_journal.proofs.Behind.{redone_by_is}
use Rattle.client_journal.proofs.devs.Journal.read_slots.Goals as goal

pub held_slots-requires-clause-up : goal.held_slots-requires-clause-up
held_slots-requires-clause-up g c = let k = c.in_ok-commit.ensures.reads.stay (λ is. cc) in stay_up g.D.Disk.state c.args.self.now c.commit_at_work.new.self k c.requires.up

pub held_slots-requires-clause-looked : goal.held_slots-requires-clause-looked
held_slots-requires-clause-looked g c = let k = c.in_ok-commit.ensures.reads.stay (λ is. cc) in stay_looked g.D.Disk.state c.args.self.now c.commit_at_work.new.self k c.requires.looked

pub returns-in_err-commit-clause-reads : goal.returns-in_err-commit-clause-reads
returns-in_err-commit-clause-reads g c =
    let p = err_from_is_err_and c.from_residual.result c.from_residual.ensures.1 in
    rw (p.1, p.2) (reads_err g.D.Disk.state g.D.Disk.images c.args.self.now c.commit_at_work.new.self c.in_err-commit.field-0.0 c.in_err-commit.ensures.reads)

pub returns-in_err-commit-clause-once : goal.returns-in_err-commit-clause-once
returns-in_err-commit-clause-once g c = let e = c.in_err-commit.ensures in record { chunks = e.chunks; slots = rw e.slots (inl refl); journal = e.once }

pub returns-in-Some-clause-reads : goal.returns-in-Some-clause-reads
returns-in-Some-clause-reads g c = reads_other g.D.Disk.state g.D.Disk.images c.args.self.now c.commit_at_work.new.self c.in_ok-commit.commit c.in_ok-commit.ensures.reads _ (λ is. cc) tt

pub returns-in-Some-clause-slots : goal.returns-in-Some-clause-slots
returns-in-Some-clause-slots g c =
    let d = devs g.D.Disk.state c.args.self.now in
    ap (λ (h : SlotData). slots_of h c.args.table c.args.row.now) (redone_by_is d c.in_ok-commit.commit c.in_ok-commit.ensures.commit) ∙ c.in-Some.ensures.its d.held

pub returns-in-Some-clause-once : goal.returns-in-Some-clause-once
returns-in-Some-clause-once g c = let e = c.in_ok-commit.ensures in record { chunks = e.chunks; slots = rw e.slots (inl refl); journal = e.once }

pub returns-in-None-clause-reads : goal.returns-in-None-clause-reads
returns-in-None-clause-reads g c =
    reads_then g.D.Disk.state g.D.Disk.images c.args.self.now c.commit_at_work.new.self c.held_slots.new.self c.in_ok-commit.commit c.in_ok-commit.ensures.reads c.held_slots.result c.held_slots.ensures.reads

pub returns-in-None-clause-slots : goal.returns-in-None-clause-slots
returns-in-None-clause-slots g c =
    let s = g.D.Disk.state in
    let d = devs s c.args.self.now in
    let mid = c.commit_at_work.new.self in
    let same : devs s mid ≡ d = stay_devs s c.args.self.now mid (c.in_ok-commit.ensures.reads.stay (λ is. cc)) in
    let held : slots_of (redone d) c.args.table c.args.row.now ≡ slots_of d.held c.args.table c.args.row.now = ap (λ (h : SlotData). slots_of h c.args.table c.args.row.now) (redone_by_is d c.in_ok-commit.commit c.in_ok-commit.ensures.commit) ∙ c.in-None.ensures.others d.held in
    let there : IfOk c.held_slots.result (λ (found : Option RowSlots). slots_of d.held c.args.table c.args.row.now ≡ found) = subst (λ (x : ClientDevs). IfOk c.held_slots.result (λ (found : Option RowSlots). slots_of x.held c.args.table c.args.row.now ≡ found)) same c.held_slots.ensures.slots in
    subst (λ (o : Option RowSlots). IfOk c.held_slots.result (λ (found : Option RowSlots). o ≡ found)) (sym held) there

pub returns-in-None-clause-once : goal.returns-in-None-clause-once
returns-in-None-clause-once g c =
    let a = c.in_ok-commit.ensures in
    let b = c.held_slots.ensures in
    record { chunks = b.chunks ∙ a.chunks; slots = rw (sym a.slots) b.once; journal = rw b.journal a.once }
