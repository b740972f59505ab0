use Rattle.std.proofs.Common.{inl, ap}
use Rattle.std.proofs.lemmas.Result.{err_from_is_err_and}
use Rattle.store_commit.specs.Devs.{Devs, PutTable, changed_by}
use Rattle.store_commit.specs.Standing.{AreBlank}
use Rattle.device_laws.specs.Stands.{state_number}
use Rattle.store_node.proofs.Making.{not_made, made}
use Rattle.store_node.proofs.Blanks.{none_some}
use Rattle.store_node.proofs.devices.make_table.Goals as goal

pub returns-in_err-format : goal.returns-in_err-format
returns-in_err-format g c =
    let s = g.D.Disk.state in
    let only_now = g.met.D.Disk.only_now in
    let old = c.args.table.now in
    let p = err_from_is_err_and c.from_residual.result c.from_residual.ensures.1 in
    let f = c.in_err-format.ensures in
    rw (p.1, p.2) (not_made s g.D.Disk.images only_now c.args.schema.now c.args.state (AreBlank s old) old c.format.new.self c.in_err-format.field-0.0 (f.fuse c.requires.up) (f.cause c.requires.up)
    (λ blank. none_some s g.D.Disk.images only_now c.args.schema.now c.args.state old c.format.new.self (f.none_left c.requires.up blank)))

pub returns : goal.returns
returns g c =
    let s = g.D.Disk.state in
    let images = g.D.Disk.images in
    let only_now = g.met.D.Disk.only_now in
    let old = c.args.table.now in
    let mid = c.format.new.self in
    let schema = c.args.schema.now in
    let f = c.in_ok-format.ensures in
    made s images only_now schema c.args.state (AreBlank s old) old mid c.put_record.new.table c.put_record.result (f.fuse c.requires.up) (f.cause c.requires.up) f.hidden (ap (λ (d : Devs). changed_by d (PutTable schema (state_number c.args.state))) f.empty)
    (λ blank. inl f.empty) (λ blank. none_some s images only_now schema c.args.state old mid (f.none_left c.requires.up blank)) c.put_record.ensures
