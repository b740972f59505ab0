use Rattle.std.proofs.Common.{◌≡◌, inl, inr, Err, refl, sym, ◌∙◌, ap}
use Rattle.std.proofs.lemmas.Result.{err_from_is_err_and}
use Rattle.slot_store.specs.Data.{SlotData, record_of}
use Rattle.client_journal.specs.declared.fault.JournalFault.TheVariants.{Memory}
use Rattle.client_journal.specs.Devs.{ClientDevs}
use Rattle.client_journal.specs.Standing.{devs}
use Rattle.client_journal.proofs.Asking.{stay_up, stay_looked, stay_devs, reads_other, reads_err}
use Rattle.client_journal.proofs.Behind.{redone_by_is}
use Rattle.client_journal.proofs.devs.Journal.read_record.Goals as goal

pub record-requires : goal.record-requires
record-requires g c = record { ready = λ up. (stay_looked g.D.Disk.state c.args.self.now c.commit_at_work.new.self (c.in_ok-commit.ensures.reads.stay (λ is. cc)) c.requires.looked).slots }

pub returns-in_err-commit-clause-reads : goal.returns-in_err-commit-clause-reads
returns-in_err-commit-clause-reads g c =
    let p = err_from_is_err_and c.from_residual.result c.from_residual.ensures.1 in
    rw (p.1, p.2) (reads_err g.D.Disk.state g.D.Disk.images c.args.self.now c.commit_at_work.new.self c.in_err-commit.field-0.0 c.in_err-commit.ensures.reads)

pub returns-in_err-commit-clause-once : goal.returns-in_err-commit-clause-once
returns-in_err-commit-clause-once g c = let e = c.in_err-commit.ensures in record { chunks = e.chunks; slots = rw e.slots (inl refl); journal = e.once }

pub returns-in_err-old-clause-reads : goal.returns-in_err-old-clause-reads
returns-in_err-old-clause-reads g c =
    let p = err_from_is_err_and c.from_residual-in_err-old.result c.from_residual-in_err-old.ensures.1 in
    rw (p.1, p.2) (reads_other g.D.Disk.state g.D.Disk.images c.args.self.now c.commit_at_work.new.self c.in_ok-commit.commit c.in_ok-commit.ensures.reads (Err Memory) (λ is. cc) (inr refl))

pub returns-in_err-old-clause-once : goal.returns-in_err-old-clause-once
returns-in_err-old-clause-once g c = let e = c.in_ok-commit.ensures in record { chunks = e.chunks; slots = rw e.slots (inl refl); journal = e.once }

pub returns-in_err-found-clause-reads : goal.returns-in_err-found-clause-reads
returns-in_err-found-clause-reads g c =
    let p = err_from_is_err_and c.from_residual-in_err-found.result c.from_residual-in_err-found.ensures.1 in
    rw (p.1, p.2) (reads_other g.D.Disk.state g.D.Disk.images c.args.self.now c.commit_at_work.new.self c.in_ok-commit.commit c.in_ok-commit.ensures.reads (Err Memory) (λ is. cc) (inr refl))

pub returns-in_err-found-clause-once : goal.returns-in_err-found-clause-once
returns-in_err-found-clause-once g c = let e = c.in_ok-commit.ensures in record { chunks = e.chunks; slots = rw e.slots (inl refl); journal = e.once }

pub returns-clause-reads : goal.returns-clause-reads
returns-clause-reads g c = reads_other g.D.Disk.state g.D.Disk.images c.args.self.now c.commit_at_work.new.self c.in_ok-commit.commit c.in_ok-commit.ensures.reads _ (λ is. cc) tt

pub returns-clause-record_ : goal.returns-clause-record_
returns-clause-record_ g c =
    let s = g.D.Disk.state in
    let d = devs s c.args.self.now in
    let mid = c.commit_at_work.new.self in
    let k = c.in_ok-commit.ensures.reads.stay (λ is. cc) in
    let same : devs s mid ≡ d = stay_devs s c.args.self.now mid k in
    let up = stay_up s c.args.self.now mid k c.requires.up in
    let old : c.in_ok-old.old ≡ record_of d.held c.args.table = c.in_ok-old.ensures.record_ up.slots ∙ ap (λ (x : ClientDevs). record_of x.held c.args.table) same in
    ap (λ (h : SlotData). record_of h c.args.table) (redone_by_is d c.in_ok-commit.commit c.in_ok-commit.ensures.commit) ∙ c.in_ok-found.ensures d.held (sym old)

pub returns-clause-once : goal.returns-clause-once
returns-clause-once g c = let e = c.in_ok-commit.ensures in record { chunks = e.chunks; slots = rw e.slots (inl refl); journal = e.once }
