use Rattle.std.proofs.Common.{◌≡◌, List, map, inr, Ok, Err, Result, refl, sym, ◌∙◌, ap}
use Rattle.std.proofs.lemmas.Result.{err_from_is_err_and}
use Rattle.client_journal.specs.declared.rolled.Rolled.{Rolled}
use Rattle.client_journal.specs.declared.fault.JournalFault.{JournalFault}
use Rattle.client_journal.specs.declared.fault.JournalFault.TheVariants.{Memory}
use Rattle.client_journal.specs.Standing.{write_of, writes_of}
use Rattle.client_journal.specs.Spare.{is_in, unspared}
use Rattle.client_journal.proofs.Recovers.{was_refused, was_recovered}
use Rattle.client_journal.proofs.Starting.{starts_other}
use Rattle.client_journal.proofs.Sparing.{refused, sparing, tasks_left}
use Rattle.client_journal.proofs.Fusing.{keeps_then, keeps_same}
use Rattle.client_journal.proofs.devs.Journal.recover_sparing.Goals as goal

pub returns-in_err-rolled-clause-spares : goal.returns-in_err-rolled-clause-spares
returns-in_err-rolled-clause-spares g c up =
    let p = err_from_is_err_and c.from_residual.result c.from_residual.ensures.1 in
    rw (p.1, p.2) (refused g.D.Disk.state g.D.Disk.images c.args.scanned.now c.args.self.now c.rolled.new.self c.in_err-rolled.field-0.0
    (was_refused g.D.Disk.state g.D.Disk.images g.met.D.Disk.only_now c.args.self.now c.rolled.new.self (c.requires up) c.in_err-rolled.field-0.0 c.in_err-rolled.ensures.starts))

pub returns-in_err-kept-clause-spares : goal.returns-in_err-kept-clause-spares
returns-in_err-kept-clause-spares g c up =
    let p = err_from_is_err_and c.from_residual-in_err-kept.result c.from_residual-in_err-kept.ensures.1 in
    let s = g.D.Disk.state in
    let i = g.D.Disk.images in
    let r : Result Rolled JournalFault = Err Memory in
    let short = starts_other s i c.args.self.now c.rolled.new.self _ (λ is. cc) c.in_ok-rolled.ensures.starts r (λ is. cc) (inr refl) in
    rw (p.1, p.2) (refused s i c.args.scanned.now c.args.self.now c.rolled.new.self Memory (was_refused s i g.met.D.Disk.only_now c.args.self.now c.rolled.new.self (c.requires up) Memory short))

pub returns-clause-spares : goal.returns-clause-spares
returns-clause-spares g c up =
    let s = g.D.Disk.state in
    let i = g.D.Disk.images in
    let k = c.in_ok-rolled.ensures in
    let full = record c.rolled.new.self { agenda = c.in_ok-rolled.tasks } in
    let new = record c.rolled.new.self { agenda = c.in_ok-kept.kept } in
    sparing s i c.args.scanned.now c.args.self.now full new c.in_ok-rolled.rolled refl refl refl
    (was_recovered s i g.met.D.Disk.only_now c.args.self.now c.rolled.new.self (c.requires up) _ c.in_ok-rolled.rolled full k.starts refl refl refl k.answer k.tasks k.ready)
    (ap (λ l. map write_of l) c.in_ok-kept.ensures ∙ tasks_left (is_in c.args.scanned.now.named) c.in_ok-rolled.tasks.items)

pub returns-then-is_down-clause-fuse : goal.returns-then-is_down-clause-fuse
returns-then-is_down-clause-fuse g c = keeps_same g.D.Disk.state c.args.self.now c.args.self.now refl refl refl

pub returns-in_err-rolled-clause-fuse : goal.returns-in_err-rolled-clause-fuse
returns-in_err-rolled-clause-fuse g c = c.rolled.ensures.starts.fuse

pub returns-in_err-kept-clause-fuse : goal.returns-in_err-kept-clause-fuse
returns-in_err-kept-clause-fuse g c = c.rolled.ensures.starts.fuse

pub returns-clause-fuse : goal.returns-clause-fuse
returns-clause-fuse g c =
    let s = g.D.Disk.state in
    let mid = c.rolled.new.self in
    let new = record mid { agenda = c.in_ok-kept.kept } in
    keeps_then s c.args.self.now mid new c.rolled.ensures.starts.fuse (keeps_same s mid new refl refl refl)
