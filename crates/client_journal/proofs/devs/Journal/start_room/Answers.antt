use Rattle.std.proofs.Common.{inr, refl}
use Rattle.std.proofs.lemmas.Result.{err_from_is_err_and}
use Rattle.client_journal.proofs.Starting.{none_starts, starts_then}
use Rattle.client_journal.proofs.devs.Journal.start_room.Goals as goal

pub returns-then-drops-gt-DROPS_MAX-clause-starts : goal.returns-then-drops-gt-DROPS_MAX-clause-starts
returns-then-drops-gt-DROPS_MAX-clause-starts g c = none_starts g.D.Disk.state g.D.Disk.images g.met.D.Disk.only_now c.args.self.now c.requires.starting _ (λ is. cc) (inr refl)

pub returns-in_err-start_slots-clause-starts : goal.returns-in_err-start_slots-clause-starts
returns-in_err-start_slots-clause-starts g c =
    let p = err_from_is_err_and c.from_residual-in_err-start_slots.result c.from_residual-in_err-start_slots.ensures.1 in
    rw (p.1, p.2) (starts_then g.D.Disk.state g.D.Disk.images c.args.self.now c.start_chunks.new.self c.start_slots.new.self _ (λ is. cc) c.in_ok-start_chunks.ensures.starts _ c.in_err-start_slots.ensures.starts)

pub returns-clause-starts : goal.returns-clause-starts
returns-clause-starts g c =
    let two = starts_then g.D.Disk.state g.D.Disk.images c.args.self.now c.start_chunks.new.self c.start_slots.new.self _ (λ is. cc) c.in_ok-start_chunks.ensures.starts _ c.in_ok-start_slots.ensures.starts in
    starts_then g.D.Disk.state g.D.Disk.images c.args.self.now c.start_slots.new.self c.start_journal.new.self _ (λ is. cc) two _ c.start_journal.ensures.starts
