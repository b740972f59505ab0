use Rattle.store_commit.proofs.Works.{one_looked, two_looked, all_same, synced_rows, synced_log}
use Rattle.std.proofs.Common.{Ok, Err, refl}
use Rattle.std.proofs.lemmas.Result.{err_from_is_err_and}
use Rattle.store_commit.proofs.Fusing.{keeps_then, keeps_same, cause_then, chunk_same, row_same, log_same, chunk_caused, row_caused, log_caused}
use Rattle.store_commit.proofs.devs.TableDevs.look.Goals as goal

pub returns-in_err-look-clause-any_moment : goal.returns-in_err-look-clause-any_moment
returns-in_err-look-clause-any_moment g c up sound =
    one_looked g.D.Disk.state g.D.Disk.images g.met.D.Disk.only_now c.args.self.now c.look.new.self up c.requires.synced sound (c.look.ensures.any_moment up.chunks sound.chunks)

pub returns-in_err-look-2-clause-any_moment : goal.returns-in_err-look-2-clause-any_moment
returns-in_err-look-2-clause-any_moment g c up sound =
    two_looked g.D.Disk.state g.D.Disk.images g.met.D.Disk.only_now c.args.self.now c.look.new.self c.look-2.new.self up c.requires.synced sound (c.look.ensures.any_moment up.chunks sound.chunks) (c.look-2.ensures.looks.any_moment up.rows sound.rows)

pub returns-in_err-look-3-clause-any_moment : goal.returns-in_err-look-3-clause-any_moment
returns-in_err-look-3-clause-any_moment g c up sound =
    all_same g.D.Disk.state g.D.Disk.images g.met.D.Disk.only_now c.args.self.now _ (c.look.ensures.any_moment up.chunks sound.chunks) (c.look-2.ensures.looks.any_moment up.rows sound.rows) (c.look-3.ensures.any_moment up.log sound.log)

pub returns-clause-any_moment : goal.returns-clause-any_moment
returns-clause-any_moment g c up sound =
    all_same g.D.Disk.state g.D.Disk.images g.met.D.Disk.only_now c.args.self.now _ (c.look.ensures.any_moment up.chunks sound.chunks) (c.look-2.ensures.looks.any_moment up.rows sound.rows) (c.look-3.ensures.any_moment up.log sound.log)

pub returns-in_err-look-clause-fuse : goal.returns-in_err-look-clause-fuse
returns-in_err-look-clause-fuse g c up =
    let s = g.D.Disk.state in
    let old = c.args.self.now in
    let one = record old { chunks = c.look.new.self } in
    chunk_same s old c.look.new.self c.look.ensures.fuse

pub returns-in_err-look-clause-cause : goal.returns-in_err-look-clause-cause
returns-in_err-look-clause-cause g c up =
    let s = g.D.Disk.state in
    let old = c.args.self.now in
    let one = record old { chunks = c.look.new.self } in
    let p = err_from_is_err_and c.from_residual.result c.from_residual.ensures.1 in
    rw (p.1, p.2) (chunk_caused s old c.look.new.self old.chunks c.look.new.self (Err c.in_err-look.field-0.0) c.in_err-look.ensures.refuses c.in_err-look.ensures.only up.chunks)

pub returns-in_err-look-2-clause-fuse : goal.returns-in_err-look-2-clause-fuse
returns-in_err-look-2-clause-fuse g c up =
    let s = g.D.Disk.state in
    let old = c.args.self.now in
    let one = record old { chunks = c.look.new.self } in
    let two = record one { rows = c.look-2.new.self } in
    keeps_then s old one two (chunk_same s old c.look.new.self c.look.ensures.fuse) (row_same s one c.look-2.new.self c.look-2.ensures.looks.fuse)

pub returns-in_err-look-2-clause-cause : goal.returns-in_err-look-2-clause-cause
returns-in_err-look-2-clause-cause g c up =
    let s = g.D.Disk.state in
    let old = c.args.self.now in
    let one = record old { chunks = c.look.new.self } in
    let two = record one { rows = c.look-2.new.self } in
    let p = err_from_is_err_and c.from_residual-in_err-look-2.result c.from_residual-in_err-look-2.ensures.1 in
    rw (p.1, p.2) (cause_then s old one two tt _ (chunk_caused s old c.look.new.self old.chunks c.look.new.self (Ok tt) c.in_ok-look.ensures.refuses c.in_ok-look.ensures.only up.chunks) (row_caused s one c.look-2.new.self old.rows c.look-2.new.self (Err c.in_err-look-2.field-0.0) c.in_err-look-2.ensures.looks.refuses c.in_err-look-2.ensures.looks.only up.rows))

pub returns-in_err-look-3-clause-fuse : goal.returns-in_err-look-3-clause-fuse
returns-in_err-look-3-clause-fuse g c up =
    let s = g.D.Disk.state in
    let old = c.args.self.now in
    let one = record old { chunks = c.look.new.self } in
    let two = record one { rows = c.look-2.new.self } in
    let three = record two { log = c.look-3.new.self } in
    keeps_then s old two three (keeps_then s old one two (chunk_same s old c.look.new.self c.look.ensures.fuse) (row_same s one c.look-2.new.self c.look-2.ensures.looks.fuse)) (log_same s two c.look-3.new.self c.look-3.ensures.fuse)

pub returns-in_err-look-3-clause-cause : goal.returns-in_err-look-3-clause-cause
returns-in_err-look-3-clause-cause g c up =
    let s = g.D.Disk.state in
    let old = c.args.self.now in
    let one = record old { chunks = c.look.new.self } in
    let two = record one { rows = c.look-2.new.self } in
    let three = record two { log = c.look-3.new.self } in
    let p = err_from_is_err_and c.from_residual-in_err-look-3.result c.from_residual-in_err-look-3.ensures.1 in
    rw (p.1, p.2) (cause_then s old two three tt _ (cause_then s old one two tt (Ok tt) (chunk_caused s old c.look.new.self old.chunks c.look.new.self (Ok tt) c.in_ok-look.ensures.refuses c.in_ok-look.ensures.only up.chunks) (row_caused s one c.look-2.new.self old.rows c.look-2.new.self (Ok tt) c.in_ok-look-2.ensures.looks.refuses c.in_ok-look-2.ensures.looks.only up.rows)) (log_caused s two c.look-3.new.self old.log c.look-3.new.self (Err c.in_err-look-3.field-0.0) c.in_err-look-3.ensures.refuses c.in_err-look-3.ensures.only up.log))

pub returns-clause-fuse : goal.returns-clause-fuse
returns-clause-fuse g c up =
    let s = g.D.Disk.state in
    let old = c.args.self.now in
    let one = record old { chunks = c.look.new.self } in
    let two = record one { rows = c.look-2.new.self } in
    let three = record two { log = c.look-3.new.self } in
    keeps_then s old three _ (keeps_then s old two three (keeps_then s old one two (chunk_same s old c.look.new.self c.look.ensures.fuse) (row_same s one c.look-2.new.self c.look-2.ensures.looks.fuse)) (log_same s two c.look-3.new.self c.look-3.ensures.fuse)) (keeps_same s three _ refl refl refl)

pub returns-clause-cause : goal.returns-clause-cause
returns-clause-cause g c up =
    let s = g.D.Disk.state in
    let old = c.args.self.now in
    let one = record old { chunks = c.look.new.self } in
    let two = record one { rows = c.look-2.new.self } in
    let three = record two { log = c.look-3.new.self } in
    let k = cause_then s old two three tt (Ok tt) (cause_then s old one two tt (Ok tt) (chunk_caused s old c.look.new.self old.chunks c.look.new.self (Ok tt) c.in_ok-look.ensures.refuses c.in_ok-look.ensures.only up.chunks) (row_caused s one c.look-2.new.self old.rows c.look-2.new.self (Ok tt) c.in_ok-look-2.ensures.looks.refuses c.in_ok-look-2.ensures.looks.only up.rows)) (log_caused s two c.look-3.new.self old.log c.look-3.new.self (Ok tt) c.in_ok-look-3.ensures.refuses c.in_ok-look-3.ensures.only up.log) in
    record { cause = k.cause; only = k.only }

pub returns-in_err-look-clause-rows_left : goal.returns-in_err-look-clause-rows_left
returns-in_err-look-clause-rows_left g c up sound =
    synced_rows g.D.Disk.state g.D.Disk.images g.met.D.Disk.only_now c.args.self.now.rows up.rows c.requires.synced.rows sound.rows

pub returns-in_err-look-2-clause-rows_left : goal.returns-in_err-look-2-clause-rows_left
returns-in_err-look-2-clause-rows_left g c up sound = c.look-2.ensures.looks.any_moment up.rows sound.rows

pub returns-in_err-look-3-clause-rows_left : goal.returns-in_err-look-3-clause-rows_left
returns-in_err-look-3-clause-rows_left g c up sound = c.look-2.ensures.looks.any_moment up.rows sound.rows

pub returns-clause-rows_left : goal.returns-clause-rows_left
returns-clause-rows_left g c up sound = c.look-2.ensures.looks.any_moment up.rows sound.rows

pub returns-in_err-look-clause-leave : goal.returns-in_err-look-clause-leave
returns-in_err-look-clause-leave g c up sound =
    let s = g.D.Disk.state in
    let synced = c.requires.synced in
    record {
      chunks = c.look.ensures.any_moment up.chunks sound.chunks;
      rows = synced_rows s g.D.Disk.images g.met.D.Disk.only_now c.args.self.now.rows up.rows synced.rows sound.rows;
      log = synced_log s g.D.Disk.images g.met.D.Disk.only_now c.args.self.now.log up.log synced.log sound.log;
    }

pub returns-in_err-look-2-clause-leave : goal.returns-in_err-look-2-clause-leave
returns-in_err-look-2-clause-leave g c up sound = record {
  chunks = c.look.ensures.any_moment up.chunks sound.chunks;
  rows = c.look-2.ensures.looks.any_moment up.rows sound.rows;
  log = synced_log g.D.Disk.state g.D.Disk.images g.met.D.Disk.only_now c.args.self.now.log up.log c.requires.synced.log sound.log;
}

pub returns-in_err-look-3-clause-leave : goal.returns-in_err-look-3-clause-leave
returns-in_err-look-3-clause-leave g c up sound = record { chunks = c.look.ensures.any_moment up.chunks sound.chunks; rows = c.look-2.ensures.looks.any_moment up.rows sound.rows; log = c.look-3.ensures.any_moment up.log sound.log }

pub returns-clause-leave : goal.returns-clause-leave
returns-clause-leave g c up sound = record { chunks = c.look.ensures.any_moment up.chunks sound.chunks; rows = c.look-2.ensures.looks.any_moment up.rows sound.rows; log = c.look-3.ensures.any_moment up.log sound.log }
