use Rattle.std.proofs.Common.{ℕ, List, sym, ap, subst}
use Rattle.std.proofs.lemmas.Result.{err_from_is_err_and}
use Rattle.row_store.specs.Spelling.{IsState}
use Rattle.store_commit.specs.Devs.{Write, PutTable}
use Rattle.store_commit.specs.Standing.{IsReady}
use Rattle.store_node.proofs.Making.{same_hidden, begin_refused, work_refused, record_done}
use Rattle.store_node.proofs.States.{is_state, short_in}
use Rattle.store_node.proofs.devices.put_record.Goals as goal

pub begin_table-requires-clause-ready : goal.begin_table-requires-clause-ready
begin_table-requires-clause-ready g c up = subst (λ (l : List Write). IsReady g.D.Disk.state c.args.table.now l) (sym c.requires.idle) c.requires.rests

pub begin_table-requires-clause-state : goal.begin_table-requires-clause-state
begin_table-requires-clause-state g c = subst (λ (n : ℕ). IsState n) (sym c.number_of.ensures) (is_state c.args.state)

pub begin_table-requires-clause-short : goal.begin_table-requires-clause-short
begin_table-requires-clause-short g c = short_in c.args.schema.now 2 c.number_of.result c.requires.short

pub work-requires : goal.work-requires
work-requires g c = record { ready = λ up. c.in_ok-begin_table.ensures.takes.ready }

pub returns-in_err-begin_table : goal.returns-in_err-begin_table
returns-in_err-begin_table g c =
    let p = err_from_is_err_and c.from_residual.result c.from_residual.ensures.1 in
    let b = c.in_err-begin_table.ensures in
    rw (p.1, p.2) (begin_refused g.D.Disk.state g.D.Disk.images c.args.schema.now c.args.state c.args.table.now c.begin_table.new.self (PutTable c.args.schema.now c.number_of.result) (ap (PutTable c.args.schema.now) c.number_of.ensures) c.requires.rests c.requires.idle c.in_err-begin_table.field-0.0 b.fuse b.takes)

pub returns-in_err-work : goal.returns-in_err-work
returns-in_err-work g c =
    let p = err_from_is_err_and c.from_residual-in_err-work.result c.from_residual-in_err-work.ensures.1 in
    let b = c.in_ok-begin_table.ensures in
    rw (p.1, p.2) (work_refused g.D.Disk.state g.D.Disk.images c.args.schema.now c.args.state c.args.table.now c.begin_table.new.self (PutTable c.args.schema.now c.number_of.result) (ap (PutTable c.args.schema.now) c.number_of.ensures) c.requires.rests c.requires.idle
    b.fuse b.takes c.work.new.self c.work.ensures.fuse (c.work.ensures.others b.takes.up) c.in_err-work.field-0.0 (c.in_err-work.ensures.works b.takes.up))

pub returns : goal.returns
returns g c =
    let s = g.D.Disk.state in
    let images = g.D.Disk.images in
    let b = c.in_ok-begin_table.ensures in
    record_done s images c.args.schema.now c.args.state c.args.table.now c.begin_table.new.self (PutTable c.args.schema.now c.number_of.result) (ap (PutTable c.args.schema.now) c.number_of.ensures) c.requires.rests c.requires.idle
    b.fuse b.takes c.work.new.self c.work.ensures.fuse (c.work.ensures.others b.takes.up) _
    (λ none. c.work.ensures.hidden (same_hidden s images c.args.table.now c.begin_table.new.self b.scanned none)) (c.in_ok-work.ensures.works b.takes.up)
