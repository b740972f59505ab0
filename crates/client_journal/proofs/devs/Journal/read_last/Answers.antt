use Rattle.std.proofs.Common.{◌≡◌, inl, refl, sym, ◌∙◌, ap}
use Rattle.std.proofs.lemmas.Result.{err_from_is_err_and}
use Rattle.slot_store.specs.Data.{SlotData}
use Rattle.client_journal.specs.Devs.{ClientDevs}
use Rattle.client_journal.specs.Standing.{devs}
use Rattle.client_journal.proofs.Asking.{stay_up, stay_looked, stay_devs, reads_other, reads_err}
use Rattle.client_journal.proofs.Behind.{redone_by_is}
use Rattle.client_journal.proofs.devs.Journal.read_last.Goals as goal

pub last_number-requires : goal.last_number-requires
last_number-requires g c = record { ready = λ up. (stay_looked g.D.Disk.state c.args.self.now c.commit_at_work.new.self (c.in_ok-commit.ensures.reads.stay (λ is. cc)) c.requires.looked).slots }

pub returns-in_err-commit-clause-reads : goal.returns-in_err-commit-clause-reads
returns-in_err-commit-clause-reads g c =
    let p = err_from_is_err_and c.from_residual.result c.from_residual.ensures.1 in
    rw (p.1, p.2) (reads_err g.D.Disk.state g.D.Disk.images c.args.self.now c.commit_at_work.new.self c.in_err-commit.field-0.0 c.in_err-commit.ensures.reads)

pub returns-in_err-commit-clause-once : goal.returns-in_err-commit-clause-once
returns-in_err-commit-clause-once g c = let e = c.in_err-commit.ensures in record { chunks = e.chunks; slots = rw e.slots (inl refl); journal = e.once }

pub returns-clause-reads : goal.returns-clause-reads
returns-clause-reads g c = reads_other g.D.Disk.state g.D.Disk.images c.args.self.now c.commit_at_work.new.self c.in_ok-commit.commit c.in_ok-commit.ensures.reads _ (λ is. cc) tt

pub returns-clause-last : goal.returns-clause-last
returns-clause-last g c =
    let s = g.D.Disk.state in
    let d = devs s c.args.self.now in
    let mid = c.commit_at_work.new.self in
    let k = c.in_ok-commit.ensures.reads.stay (λ is. cc) in
    let up = stay_up s c.args.self.now mid k c.requires.up in
    let last : c.last_number.result ≡ d.held.last = c.last_number.ensures.greatest up.slots ∙ ap (λ (x : ClientDevs). x.held.last) (stay_devs s c.args.self.now mid k) in
    sym (ap (λ (h : SlotData). h.last) (redone_by_is d c.in_ok-commit.commit c.in_ok-commit.ensures.commit) ∙ c.last_with.ensures d.held (sym last))

pub returns-clause-once : goal.returns-clause-once
returns-clause-once g c = let e = c.in_ok-commit.ensures in record { chunks = e.chunks; slots = rw e.slots (inl refl); journal = e.once }
