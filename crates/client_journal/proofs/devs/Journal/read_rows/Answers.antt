use Rattle.std.proofs.Common.{◌≡◌, inl, inr, Err, refl, sym, ◌∙◌, subst}
use Rattle.std.proofs.lemmas.Result.{err_from_is_err_and}
use Rattle.slot_store.specs.Data.{SlotData, AreRowsOf}
use Rattle.client_journal.specs.declared.fault.JournalFault.TheVariants.{Memory}
use Rattle.client_journal.specs.Devs.{ClientDevs}
use Rattle.client_journal.specs.Standing.{devs}
use Rattle.client_journal.proofs.Asking.{stay_up, stay_looked, stay_devs, reads_then, reads_other, reads_err}
use Rattle.client_journal.proofs.Behind.{redone_by_is}
use Rattle.client_journal.proofs.devs.Journal.read_rows.Goals as goal

pub held_rows-requires-clause-up : goal.held_rows-requires-clause-up
held_rows-requires-clause-up g c = let k = c.in_ok-commit.ensures.reads.stay (λ is. cc) in stay_up g.D.Disk.state c.args.self.now c.commit_at_work.new.self k c.requires.up

pub held_rows-requires-clause-looked : goal.held_rows-requires-clause-looked
held_rows-requires-clause-looked g c = let k = c.in_ok-commit.ensures.reads.stay (λ is. cc) in stay_looked g.D.Disk.state c.args.self.now c.commit_at_work.new.self k c.requires.looked

pub returns-in_err-commit-clause-reads : goal.returns-in_err-commit-clause-reads
returns-in_err-commit-clause-reads g c =
    let p = err_from_is_err_and c.from_residual.result c.from_residual.ensures.1 in
    rw (p.1, p.2) (reads_err g.D.Disk.state g.D.Disk.images c.args.self.now c.commit_at_work.new.self c.in_err-commit.field-0.0 c.in_err-commit.ensures.reads)

pub returns-in_err-commit-clause-once : goal.returns-in_err-commit-clause-once
returns-in_err-commit-clause-once g c = let e = c.in_err-commit.ensures in record { chunks = e.chunks; slots = rw e.slots (inl refl); journal = e.once }

pub returns-in_err-rows-clause-reads : goal.returns-in_err-rows-clause-reads
returns-in_err-rows-clause-reads g c =
    let p = err_from_is_err_and c.from_residual-in_err-rows.result c.from_residual-in_err-rows.ensures.1 in
    rw (p.1, p.2) (reads_err g.D.Disk.state g.D.Disk.images c.args.self.now c.held_rows.new.self c.in_err-rows.field-0.0
    (reads_then g.D.Disk.state g.D.Disk.images c.args.self.now c.commit_at_work.new.self c.held_rows.new.self c.in_ok-commit.commit c.in_ok-commit.ensures.reads _ c.in_err-rows.ensures.reads))

pub returns-in_err-rows-clause-once : goal.returns-in_err-rows-clause-once
returns-in_err-rows-clause-once g c = let a = c.in_ok-commit.ensures in let b = c.in_err-rows.ensures in record { chunks = b.chunks ∙ a.chunks; slots = inl (rw (b.vault, a.slots) refl); journal = rw b.journal a.once }

pub returns-in_err-found-clause-reads : goal.returns-in_err-found-clause-reads
returns-in_err-found-clause-reads g c =
    let p = err_from_is_err_and c.from_residual-in_err-found.result c.from_residual-in_err-found.ensures.1 in
    rw (p.1, p.2) (reads_other g.D.Disk.state g.D.Disk.images c.args.self.now c.held_rows.new.self c.in_ok-rows.rows
    (reads_then g.D.Disk.state g.D.Disk.images c.args.self.now c.commit_at_work.new.self c.held_rows.new.self c.in_ok-commit.commit c.in_ok-commit.ensures.reads _ c.in_ok-rows.ensures.reads) (Err Memory) (λ is. cc) (inr refl))

pub returns-in_err-found-clause-once : goal.returns-in_err-found-clause-once
returns-in_err-found-clause-once g c = let a = c.in_ok-commit.ensures in let b = c.in_ok-rows.ensures in record { chunks = b.chunks ∙ a.chunks; slots = inl (rw (b.vault, a.slots) refl); journal = rw b.journal a.once }

pub returns-clause-reads : goal.returns-clause-reads
returns-clause-reads g c =
    reads_other g.D.Disk.state g.D.Disk.images c.args.self.now c.held_rows.new.self c.in_ok-rows.rows
    (reads_then g.D.Disk.state g.D.Disk.images c.args.self.now c.commit_at_work.new.self c.held_rows.new.self c.in_ok-commit.commit c.in_ok-commit.ensures.reads _ c.in_ok-rows.ensures.reads) _ (λ is. cc) tt

pub returns-clause-rows : goal.returns-clause-rows
returns-clause-rows g c =
    let s = g.D.Disk.state in
    let d = devs s c.args.self.now in
    let mid = c.commit_at_work.new.self in
    let same : devs s mid ≡ d = stay_devs s c.args.self.now mid (c.in_ok-commit.ensures.reads.stay (λ is. cc)) in
    let rows : AreRowsOf d.held c.args.table c.in_ok-rows.rows = subst (λ (x : ClientDevs). AreRowsOf x.held c.args.table c.in_ok-rows.rows) same c.in_ok-rows.ensures.rows in
    subst (λ (h : SlotData). AreRowsOf h c.args.table c.in_ok-found.found) (sym (redone_by_is d c.in_ok-commit.commit c.in_ok-commit.ensures.commit)) (c.in_ok-found.ensures d.held rows)

pub returns-clause-once : goal.returns-clause-once
returns-clause-once g c = let a = c.in_ok-commit.ensures in let b = c.in_ok-rows.ensures in record { chunks = b.chunks ∙ a.chunks; slots = inl (rw (b.vault, a.slots) refl); journal = rw b.journal a.once }
