use Rattle.std.proofs.Common.{Ok, Err, refl}
use Rattle.chunk_store.specs.Standing as chunks
use Rattle.row_store.specs.Standing as rows
use Rattle.status_log.specs.Standing as logs
use Rattle.store_commit.proofs.Works.{one_blank, two_blank, all_blank, all_empty, at_rest}
use Rattle.store_commit.proofs.Blanks.{none_one, none_two, none_all}
use Rattle.std.proofs.lemmas.Result.{err_from_is_err_and}
use Rattle.store_commit.proofs.Fusing.{keeps_then, keeps_same, cause_then, chunk_burns, row_burns, log_burns, chunk_caused, row_caused, log_caused}
use Rattle.store_commit.proofs.devs.TableDevs.format.Goals as goal

pub returns-in_err-format-clause-blank : goal.returns-in_err-format-clause-blank
returns-in_err-format-clause-blank g c up blank =
    one_blank g.D.Disk.state g.D.Disk.images g.met.D.Disk.only_now c.args.self.now _ refl refl blank (c.format.ensures.blank up.chunks blank.chunks)

pub returns-in_err-format-2-clause-blank : goal.returns-in_err-format-2-clause-blank
returns-in_err-format-2-clause-blank g c up blank =
    two_blank g.D.Disk.state g.D.Disk.images g.met.D.Disk.only_now c.args.self.now _ refl blank (c.format.ensures.blank up.chunks blank.chunks) (c.format-2.ensures.formats.blank up.rows blank.rows)

pub returns-in_err-format-3-clause-blank : goal.returns-in_err-format-3-clause-blank
returns-in_err-format-3-clause-blank g c up blank =
    all_blank g.D.Disk.state g.D.Disk.images g.met.D.Disk.only_now c.args.self.now _ (c.format.ensures.blank up.chunks blank.chunks) (c.format-2.ensures.formats.blank up.rows blank.rows) (c.format-3.ensures.blank up.log blank.log)

pub returns-clause-blank : goal.returns-clause-blank
returns-clause-blank g c up blank =
    all_blank g.D.Disk.state g.D.Disk.images g.met.D.Disk.only_now c.args.self.now _ (c.format.ensures.blank up.chunks blank.chunks) (c.format-2.ensures.formats.blank up.rows blank.rows) (c.format-3.ensures.blank up.log blank.log)

pub returns-in_err-format-clause-none_left : goal.returns-in_err-format-clause-none_left
returns-in_err-format-clause-none_left g c up blank =
    none_one g.D.Disk.state g.D.Disk.images g.met.D.Disk.only_now c.args.self.now _ refl refl blank (c.format.ensures.blank up.chunks blank.chunks)

pub returns-in_err-format-2-clause-none_left : goal.returns-in_err-format-2-clause-none_left
returns-in_err-format-2-clause-none_left g c up blank =
    none_two g.D.Disk.state g.D.Disk.images g.met.D.Disk.only_now c.args.self.now _ refl blank (c.format.ensures.blank up.chunks blank.chunks) (c.format-2.ensures.formats.blank up.rows blank.rows)

pub returns-in_err-format-3-clause-none_left : goal.returns-in_err-format-3-clause-none_left
returns-in_err-format-3-clause-none_left g c up blank =
    none_all g.D.Disk.state g.D.Disk.images g.met.D.Disk.only_now c.args.self.now _ (c.format.ensures.blank up.chunks blank.chunks) (c.format-2.ensures.formats.blank up.rows blank.rows) (c.format-3.ensures.blank up.log blank.log)

pub returns-clause-none_left : goal.returns-clause-none_left
returns-clause-none_left g c up blank =
    none_all g.D.Disk.state g.D.Disk.images g.met.D.Disk.only_now c.args.self.now _ (c.format.ensures.blank up.chunks blank.chunks) (c.format-2.ensures.formats.blank up.rows blank.rows) (c.format-3.ensures.blank up.log blank.log)

pub returns-clause-empty : goal.returns-clause-empty
returns-clause-empty g c =
    all_empty g.D.Disk.state g.D.Disk.images g.met.D.Disk.only_now (chunks.chunks g.D.Disk.state c.format.new.self) (rows.held g.D.Disk.state c.format-2.new.self) (logs.entry_open g.D.Disk.state c.format-3.new.self) c.in_ok-format.ensures.empty c.in_ok-format-2.ensures.formats.empty c.in_ok-format-3.ensures.empty

pub returns-clause-rests : goal.returns-clause-rests
returns-clause-rests g c =
    at_rest g.D.Disk.state g.D.Disk.images g.met.D.Disk.only_now _ c.in_ok-format.ensures.opened c.in_ok-format-2.ensures.formats.opened c.in_ok-format-3.ensures.opened c.in_ok-format.ensures.room c.in_ok-format-2.ensures.formats.room c.in_ok-format-3.ensures.room

pub returns-in_err-format-clause-fuse : goal.returns-in_err-format-clause-fuse
returns-in_err-format-clause-fuse g c up =
    let s = g.D.Disk.state in
    let old = record c.args.self.now { agenda = c.clear.new.self; scanned = c.nothing.result } in
    let one = record old { chunks = c.format.new.self } in
    keeps_then s c.args.self.now old _ (keeps_same s c.args.self.now old refl refl refl) (chunk_burns s old c.format.new.self 3 c.format.result (c.format.ensures.fuse up.chunks))

pub returns-in_err-format-clause-cause : goal.returns-in_err-format-clause-cause
returns-in_err-format-clause-cause g c up =
    let s = g.D.Disk.state in
    let old = record c.args.self.now { agenda = c.clear.new.self; scanned = c.nothing.result } in
    let one = record old { chunks = c.format.new.self } in
    let p = err_from_is_err_and c.from_residual.result c.from_residual.ensures.1 in
    let k = chunk_caused s old c.format.new.self old.chunks c.format.new.self (Err c.in_err-format.field-0.0) c.in_err-format.ensures.refuses c.in_err-format.ensures.only up.chunks in
    rw (p.1, p.2) (record { cause = k.cause; only = k.only })

pub returns-in_err-format-2-clause-fuse : goal.returns-in_err-format-2-clause-fuse
returns-in_err-format-2-clause-fuse g c up =
    let s = g.D.Disk.state in
    let old = record c.args.self.now { agenda = c.clear.new.self; scanned = c.nothing.result } in
    let one = record old { chunks = c.format.new.self } in
    let two = record one { rows = c.format-2.new.self } in
    keeps_then s c.args.self.now old _ (keeps_same s c.args.self.now old refl refl refl) (keeps_then s old one two (chunk_burns s old c.format.new.self 3 c.format.result (c.format.ensures.fuse up.chunks)) (row_burns s one c.format-2.new.self 3 c.format-2.result (c.format-2.ensures.formats.fuse up.rows)))

pub returns-in_err-format-2-clause-cause : goal.returns-in_err-format-2-clause-cause
returns-in_err-format-2-clause-cause g c up =
    let s = g.D.Disk.state in
    let old = record c.args.self.now { agenda = c.clear.new.self; scanned = c.nothing.result } in
    let one = record old { chunks = c.format.new.self } in
    let two = record one { rows = c.format-2.new.self } in
    let p = err_from_is_err_and c.from_residual-in_err-format-2.result c.from_residual-in_err-format-2.ensures.1 in
    let k = cause_then s old one two tt _ (chunk_caused s old c.format.new.self old.chunks c.format.new.self (Ok tt) c.in_ok-format.ensures.refuses c.in_ok-format.ensures.only up.chunks) (row_caused s one c.format-2.new.self old.rows c.format-2.new.self (Err c.in_err-format-2.field-0.0) c.in_err-format-2.ensures.formats.refuses c.in_err-format-2.ensures.formats.only up.rows) in
    rw (p.1, p.2) (record { cause = k.cause; only = k.only })

pub returns-in_err-format-3-clause-fuse : goal.returns-in_err-format-3-clause-fuse
returns-in_err-format-3-clause-fuse g c up =
    let s = g.D.Disk.state in
    let old = record c.args.self.now { agenda = c.clear.new.self; scanned = c.nothing.result } in
    let one = record old { chunks = c.format.new.self } in
    let two = record one { rows = c.format-2.new.self } in
    let three = record two { log = c.format-3.new.self } in
    keeps_then s c.args.self.now old _ (keeps_same s c.args.self.now old refl refl refl) (keeps_then s old two three (keeps_then s old one two (chunk_burns s old c.format.new.self 3 c.format.result (c.format.ensures.fuse up.chunks)) (row_burns s one c.format-2.new.self 3 c.format-2.result (c.format-2.ensures.formats.fuse up.rows))) (log_burns s two c.format-3.new.self 3 c.format-3.result (c.format-3.ensures.fuse up.log)))

pub returns-in_err-format-3-clause-cause : goal.returns-in_err-format-3-clause-cause
returns-in_err-format-3-clause-cause g c up =
    let s = g.D.Disk.state in
    let old = record c.args.self.now { agenda = c.clear.new.self; scanned = c.nothing.result } in
    let one = record old { chunks = c.format.new.self } in
    let two = record one { rows = c.format-2.new.self } in
    let three = record two { log = c.format-3.new.self } in
    let p = err_from_is_err_and c.from_residual-in_err-format-3.result c.from_residual-in_err-format-3.ensures.1 in
    let k = cause_then s old two three tt _ (cause_then s old one two tt (Ok tt) (chunk_caused s old c.format.new.self old.chunks c.format.new.self (Ok tt) c.in_ok-format.ensures.refuses c.in_ok-format.ensures.only up.chunks) (row_caused s one c.format-2.new.self old.rows c.format-2.new.self (Ok tt) c.in_ok-format-2.ensures.formats.refuses c.in_ok-format-2.ensures.formats.only up.rows)) (log_caused s two c.format-3.new.self old.log c.format-3.new.self (Err c.in_err-format-3.field-0.0) c.in_err-format-3.ensures.refuses c.in_err-format-3.ensures.only up.log) in
    rw (p.1, p.2) (record { cause = k.cause; only = k.only })

pub returns-clause-fuse : goal.returns-clause-fuse
returns-clause-fuse g c up =
    let s = g.D.Disk.state in
    let old = record c.args.self.now { agenda = c.clear.new.self; scanned = c.nothing.result } in
    let one = record old { chunks = c.format.new.self } in
    let two = record one { rows = c.format-2.new.self } in
    let three = record two { log = c.format-3.new.self } in
    keeps_then s c.args.self.now old _ (keeps_same s c.args.self.now old refl refl refl) (keeps_then s old two three (keeps_then s old one two (chunk_burns s old c.format.new.self 3 c.format.result (c.format.ensures.fuse up.chunks)) (row_burns s one c.format-2.new.self 3 c.format-2.result (c.format-2.ensures.formats.fuse up.rows))) (log_burns s two c.format-3.new.self 3 c.format-3.result (c.format-3.ensures.fuse up.log)))

pub returns-clause-cause : goal.returns-clause-cause
returns-clause-cause g c up =
    let s = g.D.Disk.state in
    let old = record c.args.self.now { agenda = c.clear.new.self; scanned = c.nothing.result } in
    let one = record old { chunks = c.format.new.self } in
    let two = record one { rows = c.format-2.new.self } in
    let three = record two { log = c.format-3.new.self } in
    let k = cause_then s old two three tt _ (cause_then s old one two tt (Ok tt) (chunk_caused s old c.format.new.self old.chunks c.format.new.self (Ok tt) c.in_ok-format.ensures.refuses c.in_ok-format.ensures.only up.chunks) (row_caused s one c.format-2.new.self old.rows c.format-2.new.self (Ok tt) c.in_ok-format-2.ensures.formats.refuses c.in_ok-format-2.ensures.formats.only up.rows)) (log_caused s two c.format-3.new.self old.log c.format-3.new.self (Ok tt) c.in_ok-format-3.ensures.refuses c.in_ok-format-3.ensures.only up.log) in
    record { cause = k.cause; only = k.only }
