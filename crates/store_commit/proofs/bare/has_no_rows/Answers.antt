use Rattle.std.proofs.Common.{ℕ, List, Result, Ok, Err}
use Rattle.std.proofs.lemmas.Result.{err_from_is_err_and}
use Rattle.row_store.specs.declared.fault.RowFault.{RowFault}
use Rattle.store_commit.proofs.Asking.{reads_listed, reads_short, reads_err, reads_named}
use Rattle.store_commit.proofs.bare.has_no_rows.Goals as goal

pub returns-in_err-ids-clause-reads : goal.returns-in_err-ids-clause-reads
returns-in_err-ids-clause-reads g c =
    let p = err_from_is_err_and c.from_residual.result c.from_residual.ensures.1 in
    let s = g.D.Disk.state in
    let e = c.in_err-ids.ensures in
    let r : Result (List (List ℕ)) RowFault = Err c.in_err-ids.field-0.0 in
    let k = reads_listed s g.D.Disk.images g.met.D.Disk.only_now c.args.row_dev.now c.ids.new.self r c.requires.looked e.stays e.vault e.not_no_row e.not_disk e.down.0 in
    rw (p.1, p.2) (reads_err s g.D.Disk.images g.met.D.Disk.only_now c.args.row_dev.now c.ids.new.self c.in_err-ids.field-0.0 k)

pub returns-in_err-subs-clause-reads : goal.returns-in_err-subs-clause-reads
returns-in_err-subs-clause-reads g c =
    let p = err_from_is_err_and c.from_residual-in_err-subs.result c.from_residual-in_err-subs.ensures.1 in
    let s = g.D.Disk.state in
    let e = c.in_ok-ids.ensures in
    let k = reads_listed s g.D.Disk.images g.met.D.Disk.only_now c.args.row_dev.now c.ids.new.self (Ok c.in_ok-ids.ids) c.requires.looked e.stays e.vault e.not_no_row e.not_disk e.down.0 in
    rw (p.1, p.2) (reads_short s g.D.Disk.images g.met.D.Disk.only_now c.args.row_dev.now c.ids.new.self c.in_ok-ids.ids k)

pub returns-clause-reads : goal.returns-clause-reads
returns-clause-reads g c =
    let s = g.D.Disk.state in
    let e = c.in_ok-ids.ensures in
    let k = reads_listed s g.D.Disk.images g.met.D.Disk.only_now c.args.row_dev.now c.ids.new.self (Ok c.in_ok-ids.ids) c.requires.looked e.stays e.vault e.not_no_row e.not_disk e.down.0 in
    reads_named s g.D.Disk.images g.met.D.Disk.only_now c.args.row_dev.now c.ids.new.self c.in_ok-ids.ids _ k
