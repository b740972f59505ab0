use Rattle.std.proofs.Common.{refl}
use Rattle.std.proofs.lemmas.Result.{err_from_is_err_and}
use Rattle.client_journal.proofs.Recovers.{was_refused, was_recovered}
use Rattle.client_journal.proofs.Works.{up_or_down}
use Rattle.client_journal.proofs.Fusing.{keeps_then, keeps_same}
use Rattle.client_journal.proofs.devs.Journal.recover.Goals as goal

pub returns-in_err-rolled-clause-recovers : goal.returns-in_err-rolled-clause-recovers
returns-in_err-rolled-clause-recovers g c up =
    let p = err_from_is_err_and c.from_residual.result c.from_residual.ensures.1 in
    rw (p.1, p.2) (was_refused g.D.Disk.state g.D.Disk.images g.met.D.Disk.only_now c.args.self.now c.rolled.new.self (c.requires up) c.in_err-rolled.field-0.0 c.in_err-rolled.ensures.starts)

pub returns-clause-recovers : goal.returns-clause-recovers
returns-clause-recovers g c up =
    let k = c.in_ok-rolled.ensures in
    was_recovered g.D.Disk.state g.D.Disk.images g.met.D.Disk.only_now c.args.self.now c.rolled.new.self (c.requires up) _ c.in_ok-rolled.rolled (record c.rolled.new.self { agenda = c.in_ok-rolled.tasks }) k.starts refl refl refl k.answer k.tasks k.ready

pub returns-then-is_down-clause-fuse : goal.returns-then-is_down-clause-fuse
returns-then-is_down-clause-fuse g c = keeps_same g.D.Disk.state c.args.self.now c.args.self.now refl refl refl

pub returns-in_err-rolled-clause-fuse : goal.returns-in_err-rolled-clause-fuse
returns-in_err-rolled-clause-fuse g c = c.rolled.ensures.starts.fuse

pub returns-clause-fuse : goal.returns-clause-fuse
returns-clause-fuse g c =
    let s = g.D.Disk.state in
    let mid = c.rolled.new.self in
    let new = record mid { agenda = c.in_ok-rolled.tasks } in
    keeps_then s c.args.self.now mid new c.rolled.ensures.starts.fuse (keeps_same s mid new refl refl refl)

pub returns-then-is_down-clause-leave : goal.returns-then-is_down-clause-leave
returns-then-is_down-clause-leave g c up = absurd (up_or_down c.args.self.now up c.if-is_down.ensures)

pub returns-in_err-rolled-clause-leave : goal.returns-in_err-rolled-clause-leave
returns-in_err-rolled-clause-leave g c up = let k = c.rolled.ensures.starts in record { chunks = k.chunks; slots = k.slots; journal = k.journal }

pub returns-clause-leave : goal.returns-clause-leave
returns-clause-leave g c up = let k = c.rolled.ensures.starts in record { chunks = k.chunks; slots = k.slots; journal = k.journal }
