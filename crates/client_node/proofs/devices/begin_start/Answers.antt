use Rattle.std.proofs.Common.{◌≡◌, map, Err, sym, ◌∙◌, ap, subst}
use Rattle.std.proofs.lemmas.Result.{err_from_is_err_and}
use Rattle.client_journal.specs.Devs.{ClientDevs}
use Rattle.client_journal.specs.Recover.{rolled_of}
use Rattle.client_journal.specs.Standing.{write_of}
use Rattle.client_node.proofs.Taken.{looked_up, looked_ready, look_failed, scan_failed, scanned_starts, recover_failed, start_begun}
use Rattle.client_node.proofs.devices.begin_start.Goals as goal

pub scan-requires : goal.scan-requires
scan-requires g c = λ up. c.in_ok-look.ensures.looked

pub recover-requires : goal.recover-requires
recover-requires g c = λ up.
    let l = c.in_ok-look.ensures in
    let a = c.in_ok-scan.ensures.asks in
    scanned_starts g.D.Disk.state c.look.new.self c.scan.new.self (a.stay (λ is. cc)) l.looked (l.sound c.requires.sound) l.room a.agenda (ap (λ a. map write_of a.items) l.agenda ∙ c.requires.idle)

pub returns-in_err-look-clause-begins : goal.returns-in_err-look-clause-begins
returns-in_err-look-clause-begins g c =
    let p = err_from_is_err_and c.from_residual.result c.from_residual.ensures.1 in
    let l = c.in_err-look.ensures in
    rw (p.1, p.2) (look_failed g.D.Disk.state g.D.Disk.images c.args.devs.now c.look.new.self c.in_err-look.field-0.0 (l.cause c.requires.up) l.fuse (l.leave c.requires.up c.requires.sound))

pub returns-in_err-scan-clause-begins : goal.returns-in_err-scan-clause-begins
returns-in_err-scan-clause-begins g c =
    let p = err_from_is_err_and c.from_residual-in_err-scan.result c.from_residual-in_err-scan.ensures.1 in
    let l = c.in_ok-look.ensures in
    rw (p.1, p.2) (scan_failed g.D.Disk.state g.D.Disk.images c.args.devs.now c.look.new.self l.looked (l.sound c.requires.sound) l.same c.in_ok-look.field-0 (l.cause c.requires.up) l.fuse (l.leave c.requires.up c.requires.sound) c.scan.new.self c.in_err-scan.field-0.0 c.in_err-scan.ensures.asks)

pub returns-in_err-rolled-clause-begins : goal.returns-in_err-rolled-clause-begins
returns-in_err-rolled-clause-begins g c =
    let p = err_from_is_err_and c.from_residual-in_err-rolled.result c.from_residual-in_err-rolled.ensures.1 in
    let l = c.in_ok-look.ensures in
    let up = looked_up g.D.Disk.state c.scan.new.self (looked_ready g.D.Disk.state g.D.Disk.images c.look.new.self c.scan.new.self c.in_ok-scan.field-0 c.in_ok-scan.ensures.asks l.looked) in
    rw (p.1, p.2) (recover_failed g.D.Disk.state g.D.Disk.images c.args.devs.now c.look.new.self l.looked (l.sound c.requires.sound) l.same c.in_ok-look.field-0 (l.cause c.requires.up) l.fuse (l.leave c.requires.up c.requires.sound) c.scan.new.self c.in_ok-scan.field-0 c.in_ok-scan.ensures.asks
    c.recover.new.self c.in_err-rolled.ensures.fuse (c.in_err-rolled.ensures.leave up) c.in_err-rolled.field-0.0 (c.in_err-rolled.ensures.recovers up))

pub returns-clause-begins : goal.returns-clause-begins
returns-clause-begins g c =
    let l = c.in_ok-look.ensures in
    let up = looked_up g.D.Disk.state c.scan.new.self (looked_ready g.D.Disk.state g.D.Disk.images c.look.new.self c.scan.new.self c.in_ok-scan.field-0 c.in_ok-scan.ensures.asks l.looked) in
    start_begun g.D.Disk.state g.D.Disk.images c.args.devs.now c.look.new.self l.looked (l.sound c.requires.sound) l.same c.in_ok-look.field-0 (l.cause c.requires.up) l.fuse (l.leave c.requires.up c.requires.sound) c.scan.new.self c.in_ok-scan.field-0 c.in_ok-scan.ensures.asks
    c.recover.new.self c.in_ok-rolled.ensures.fuse (c.in_ok-rolled.ensures.leave up) c.in_ok-rolled.rolled (c.in_ok-rolled.ensures.recovers up)

pub returns-clause-answer : goal.returns-clause-answer
returns-clause-answer g c =
    let l = c.in_ok-look.ensures in
    let a = c.in_ok-scan.ensures.asks in
    let k = c.in_ok-rolled.ensures.recovers (looked_up g.D.Disk.state c.scan.new.self (looked_ready g.D.Disk.state g.D.Disk.images c.look.new.self c.scan.new.self c.in_ok-scan.field-0 a l.looked)) in
    k.answer ∙ ap (λ (d : ClientDevs). rolled_of d.journal.at_work) (a.same (λ is. cc) ∙ l.same)
