use Rattle.std.proofs.Common.{map, Err, ◌∙◌, ap}
use Rattle.std.proofs.lemmas.Result.{err_from_is_err_and}
use Rattle.store_commit.specs.Standing.{write_of}
use Rattle.store_commit.specs.Bare.{is_bare}
use Rattle.store_commit.proofs.Bares.{looked_up, looked_synced, restart_keeps, restart_caused, restart_quiet, clears_then}
use Rattle.store_commit.proofs.devs.TableDevs.clear.Goals as goal

pub open_or_format-requires-clause-idle : goal.open_or_format-requires-clause-idle
open_or_format-requires-clause-idle g c = ap (λ a. map write_of a.items) c.look.ensures.agenda ∙ c.restart.ensures.idle

pub returns-in_err-look : goal.returns-in_err-look
returns-in_err-look g c =
    let s = g.D.Disk.state in
    let images = g.D.Disk.images in
    let old = c.args.self.now in
    let mid = c.restart.new.self in
    let e = c.restart.ensures in
    let l = c.in_err-look.ensures in
    let p = err_from_is_err_and c.from_residual.result c.from_residual.ensures.1 in
    let k = l.cause e.up in
    rw (p.1, p.2) (clears_then s images old mid c.look.new.self (Err c.in_err-look.field-0.0) (restart_keeps s images old mid e.chunks e.rows e.log) (restart_caused s images old mid e.chunks e.rows e.log)
    (restart_quiet s images old mid e.chunks e.rows e.log g.met.D.Disk.only_now e.up e.synced e.rests)
    (record { bare = tt; rests = tt; idle = tt; hidden = tt; fuse = l.fuse e.up; cause = record { cause = k.cause; only = k.only }; leave = λ bare. l.leave bare.up bare.sound; same = λ bare. tt }))

pub returns : goal.returns
returns g c =
    let s = g.D.Disk.state in
    let images = g.D.Disk.images in
    let old = c.args.self.now in
    let mid = c.restart.new.self in
    let looked = c.look.new.self in
    let e = c.restart.ensures in
    let l = c.in_ok-look.ensures in
    let k = l.cause e.up in
    clears_then s images old mid c.open_or_format.new.self c.open_or_format.result (restart_keeps s images old mid e.chunks e.rows e.log) (restart_caused s images old mid e.chunks e.rows e.log)
    (restart_quiet s images old mid e.chunks e.rows e.log g.met.D.Disk.only_now e.up e.synced e.rests)
    (clears_then s images mid looked c.open_or_format.new.self c.open_or_format.result (l.fuse e.up) (record { cause = k.cause; only = k.only })
    (λ bare. (record { up = looked_up s images looked l.looked; synced = looked_synced s images looked l.looked; sound = l.sound bare.sound; bare = ap is_bare l.same ∙ bare.bare }, l.same, l.leave bare.up bare.sound))
    c.open_or_format.ensures)
