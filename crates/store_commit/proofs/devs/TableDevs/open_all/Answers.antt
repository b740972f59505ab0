use Rattle.std.proofs.Common.{Ok, Err}
use Rattle.std.proofs.lemmas.Result.{err_from_is_err_and}
use Rattle.store_commit.proofs.Works.{still_row, still_log, all_opened}
use Rattle.store_commit.proofs.Fusing.{keeps_then, cause_then, chunk_burns, row_burns, log_burns, chunk_caused, row_caused, log_caused}
use Rattle.store_commit.proofs.Bares.{looked_up, same_devs}
use Rattle.store_commit.proofs.devs.TableDevs.open_all.Goals as goal

pub returns-in_err-open_write-clause-fuse : goal.returns-in_err-open_write-clause-fuse
returns-in_err-open_write-clause-fuse g c =
    let s = g.D.Disk.state in
    let old = c.args.self.now in
    let up = looked_up s g.D.Disk.images old c.requires.looked in
    let one = record old { chunks = c.open_write.new.self } in
    chunk_burns s old c.open_write.new.self 4 c.open_write.result (c.open_write.ensures.fuse up.chunks)

pub returns-in_err-open_write-clause-cause : goal.returns-in_err-open_write-clause-cause
returns-in_err-open_write-clause-cause g c =
    let s = g.D.Disk.state in
    let old = c.args.self.now in
    let up = looked_up s g.D.Disk.images old c.requires.looked in
    let one = record old { chunks = c.open_write.new.self } in
    let p = err_from_is_err_and c.from_residual.result c.from_residual.ensures.1 in
    let k = chunk_caused s old c.open_write.new.self old.chunks c.open_write.new.self (Err c.in_err-open_write.field-0.0) c.in_err-open_write.ensures.refuses c.in_err-open_write.ensures.only up.chunks in
    rw (p.1, p.2) (record { cause = k.cause; only = k.only })

pub returns-in_err-open_write-clause-leave : goal.returns-in_err-open_write-clause-leave
returns-in_err-open_write-clause-leave g c sound =
    let s = g.D.Disk.state in
    let old = c.args.self.now in
    let up = looked_up s g.D.Disk.images old c.requires.looked in
    let one = record old { chunks = c.open_write.new.self } in
    record { chunks = c.open_write.ensures.any_moment up.chunks sound.chunks; rows = still_row s g.D.Disk.images g.met.D.Disk.only_now old.rows c.requires.looked.rows.vault sound.rows; log = still_log s g.D.Disk.images g.met.D.Disk.only_now old.log c.requires.looked.log.vault sound.log }

pub returns-in_err-open_write-2-clause-fuse : goal.returns-in_err-open_write-2-clause-fuse
returns-in_err-open_write-2-clause-fuse g c =
    let s = g.D.Disk.state in
    let old = c.args.self.now in
    let up = looked_up s g.D.Disk.images old c.requires.looked in
    let one = record old { chunks = c.open_write.new.self } in
    let two = record one { rows = c.open_write-2.new.self } in
    keeps_then s old one two (chunk_burns s old c.open_write.new.self 4 c.open_write.result (c.open_write.ensures.fuse up.chunks)) (row_burns s one c.open_write-2.new.self 4 c.open_write-2.result (c.open_write-2.ensures.opens.fuse up.rows))

pub returns-in_err-open_write-2-clause-cause : goal.returns-in_err-open_write-2-clause-cause
returns-in_err-open_write-2-clause-cause g c =
    let s = g.D.Disk.state in
    let old = c.args.self.now in
    let up = looked_up s g.D.Disk.images old c.requires.looked in
    let one = record old { chunks = c.open_write.new.self } in
    let two = record one { rows = c.open_write-2.new.self } in
    let p = err_from_is_err_and c.from_residual-in_err-open_write-2.result c.from_residual-in_err-open_write-2.ensures.1 in
    let k = cause_then s old one two tt _ (chunk_caused s old c.open_write.new.self old.chunks c.open_write.new.self (Ok tt) c.in_ok-open_write.ensures.refuses c.in_ok-open_write.ensures.only up.chunks) (row_caused s one c.open_write-2.new.self old.rows c.open_write-2.new.self (Err c.in_err-open_write-2.field-0.0) c.in_err-open_write-2.ensures.opens.refuses c.in_err-open_write-2.ensures.opens.only up.rows) in
    rw (p.1, p.2) (record { cause = k.cause; only = k.only })

pub returns-in_err-open_write-2-clause-leave : goal.returns-in_err-open_write-2-clause-leave
returns-in_err-open_write-2-clause-leave g c sound =
    let s = g.D.Disk.state in
    let old = c.args.self.now in
    let up = looked_up s g.D.Disk.images old c.requires.looked in
    let one = record old { chunks = c.open_write.new.self } in
    let two = record one { rows = c.open_write-2.new.self } in
    record { chunks = c.open_write.ensures.any_moment up.chunks sound.chunks; rows = c.open_write-2.ensures.opens.any_moment up.rows sound.rows; log = still_log s g.D.Disk.images g.met.D.Disk.only_now old.log c.requires.looked.log.vault sound.log }

pub returns-in_err-open_write-3-clause-fuse : goal.returns-in_err-open_write-3-clause-fuse
returns-in_err-open_write-3-clause-fuse g c =
    let s = g.D.Disk.state in
    let old = c.args.self.now in
    let up = looked_up s g.D.Disk.images old c.requires.looked in
    let one = record old { chunks = c.open_write.new.self } in
    let two = record one { rows = c.open_write-2.new.self } in
    let three = record two { log = c.open_write-3.new.self } in
    keeps_then s old two three (keeps_then s old one two (chunk_burns s old c.open_write.new.self 4 c.open_write.result (c.open_write.ensures.fuse up.chunks)) (row_burns s one c.open_write-2.new.self 4 c.open_write-2.result (c.open_write-2.ensures.opens.fuse up.rows))) (log_burns s two c.open_write-3.new.self 4 c.open_write-3.result (c.open_write-3.ensures.fuse up.log))

pub returns-in_err-open_write-3-clause-cause : goal.returns-in_err-open_write-3-clause-cause
returns-in_err-open_write-3-clause-cause g c =
    let s = g.D.Disk.state in
    let old = c.args.self.now in
    let up = looked_up s g.D.Disk.images old c.requires.looked in
    let one = record old { chunks = c.open_write.new.self } in
    let two = record one { rows = c.open_write-2.new.self } in
    let three = record two { log = c.open_write-3.new.self } in
    let p = err_from_is_err_and c.from_residual-in_err-open_write-3.result c.from_residual-in_err-open_write-3.ensures.1 in
    let k = cause_then s old two three tt _ (cause_then s old one two tt (Ok tt) (chunk_caused s old c.open_write.new.self old.chunks c.open_write.new.self (Ok tt) c.in_ok-open_write.ensures.refuses c.in_ok-open_write.ensures.only up.chunks) (row_caused s one c.open_write-2.new.self old.rows c.open_write-2.new.self (Ok tt) c.in_ok-open_write-2.ensures.opens.refuses c.in_ok-open_write-2.ensures.opens.only up.rows)) (log_caused s two c.open_write-3.new.self old.log c.open_write-3.new.self (Err c.in_err-open_write-3.field-0.0) c.in_err-open_write-3.ensures.refuses c.in_err-open_write-3.ensures.only up.log) in
    rw (p.1, p.2) (record { cause = k.cause; only = k.only })

pub returns-in_err-open_write-3-clause-leave : goal.returns-in_err-open_write-3-clause-leave
returns-in_err-open_write-3-clause-leave g c sound =
    let s = g.D.Disk.state in
    let old = c.args.self.now in
    let up = looked_up s g.D.Disk.images old c.requires.looked in
    let one = record old { chunks = c.open_write.new.self } in
    let two = record one { rows = c.open_write-2.new.self } in
    let three = record two { log = c.open_write-3.new.self } in
    record { chunks = c.open_write.ensures.any_moment up.chunks sound.chunks; rows = c.open_write-2.ensures.opens.any_moment up.rows sound.rows; log = c.open_write-3.ensures.any_moment up.log sound.log }

pub returns-clause-fuse : goal.returns-clause-fuse
returns-clause-fuse g c =
    let s = g.D.Disk.state in
    let old = c.args.self.now in
    let up = looked_up s g.D.Disk.images old c.requires.looked in
    let one = record old { chunks = c.open_write.new.self } in
    let two = record one { rows = c.open_write-2.new.self } in
    let three = record two { log = c.open_write-3.new.self } in
    keeps_then s old two three (keeps_then s old one two (chunk_burns s old c.open_write.new.self 4 c.open_write.result (c.open_write.ensures.fuse up.chunks)) (row_burns s one c.open_write-2.new.self 4 c.open_write-2.result (c.open_write-2.ensures.opens.fuse up.rows))) (log_burns s two c.open_write-3.new.self 4 c.open_write-3.result (c.open_write-3.ensures.fuse up.log))

pub returns-clause-cause : goal.returns-clause-cause
returns-clause-cause g c =
    let s = g.D.Disk.state in
    let old = c.args.self.now in
    let up = looked_up s g.D.Disk.images old c.requires.looked in
    let one = record old { chunks = c.open_write.new.self } in
    let two = record one { rows = c.open_write-2.new.self } in
    let three = record two { log = c.open_write-3.new.self } in
    let k = cause_then s old two three tt (Ok tt) (cause_then s old one two tt (Ok tt) (chunk_caused s old c.open_write.new.self old.chunks c.open_write.new.self (Ok tt) c.in_ok-open_write.ensures.refuses c.in_ok-open_write.ensures.only up.chunks) (row_caused s one c.open_write-2.new.self old.rows c.open_write-2.new.self (Ok tt) c.in_ok-open_write-2.ensures.opens.refuses c.in_ok-open_write-2.ensures.opens.only up.rows)) (log_caused s two c.open_write-3.new.self old.log c.open_write-3.new.self (Ok tt) c.in_ok-open_write-3.ensures.refuses c.in_ok-open_write-3.ensures.only up.log) in
    record { cause = k.cause; only = k.only }

pub returns-clause-leave : goal.returns-clause-leave
returns-clause-leave g c sound =
    let s = g.D.Disk.state in
    let old = c.args.self.now in
    let up = looked_up s g.D.Disk.images old c.requires.looked in
    let one = record old { chunks = c.open_write.new.self } in
    let two = record one { rows = c.open_write-2.new.self } in
    let three = record two { log = c.open_write-3.new.self } in
    record { chunks = c.open_write.ensures.any_moment up.chunks sound.chunks; rows = c.open_write-2.ensures.opens.any_moment up.rows sound.rows; log = c.open_write-3.ensures.any_moment up.log sound.log }

pub returns-clause-same : goal.returns-clause-same
returns-clause-same g c =
    let s = g.D.Disk.state in
    let old = c.args.self.now in
    let up = looked_up s g.D.Disk.images old c.requires.looked in
    let one = record old { chunks = c.open_write.new.self } in
    let two = record one { rows = c.open_write-2.new.self } in
    let three = record two { log = c.open_write-3.new.self } in
    same_devs s g.D.Disk.images old three c.in_ok-open_write.ensures.same c.in_ok-open_write-2.ensures.opens.same c.in_ok-open_write-3.ensures.same

pub returns-clause-rests : goal.returns-clause-rests
returns-clause-rests g c =
    let room = c.requires.room in
    let s = g.D.Disk.state in
    let old = c.args.self.now in
    let up = looked_up s g.D.Disk.images old c.requires.looked in
    let one = record old { chunks = c.open_write.new.self } in
    let two = record one { rows = c.open_write-2.new.self } in
    let three = record two { log = c.open_write-3.new.self } in
    all_opened s g.D.Disk.images g.met.D.Disk.only_now three c.in_ok-open_write.ensures.opened c.in_ok-open_write-2.ensures.opens.opened c.in_ok-open_write-3.ensures.opened (c.in_ok-open_write.ensures.room 0 0 0 room.chunks) (c.in_ok-open_write-2.ensures.opens.room 0 0 0 room.rows) (c.in_ok-open_write-3.ensures.room 0 0 0 room.log)
