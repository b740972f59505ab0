use Rattle.std.proofs.Common.{◌≡◌, Ok, ◌∙◌, ap, subst}
use Rattle.std.proofs.lemmas.Result.{err_from_is_err_and}
use Rattle.store_commit.specs.Devs.{Devs}
use Rattle.store_commit.specs.Standing.{devs}
use Rattle.store_node.specs.Reading.{named_in}
use Rattle.store_node.proofs.Onlys.{only_none, only_then, only_named, only_short, only_err, only_up, only_looked, only_same}
use Rattle.store_node.proofs.Readers.{objects_more}
use Rattle.store_node.proofs.reading.read_objects.Goals as goal

pub loop-object-init : goal.loop-object-init
loop-object-init g c = (only_none g.D.Disk.state g.D.Disk.images g.met.D.Disk.only_now c.args.table.now tt c.requires.up c.requires.looked, c.new-held.ensures)

pub read_object-requires-clause-up : goal.read_object-requires-clause-up
read_object-requires-clause-up g c = only_up g.D.Disk.state g.D.Disk.images c.args.table.now c.loop-object.table tt c.loop-object.invariant.0 c.requires.up

pub read_object-requires-clause-looked : goal.read_object-requires-clause-looked
read_object-requires-clause-looked g c = only_looked g.D.Disk.state g.D.Disk.images c.args.table.now c.loop-object.table tt c.loop-object.invariant.0 c.requires.looked

pub returns-in_err-named-clause-reads : goal.returns-in_err-named-clause-reads
returns-in_err-named-clause-reads g c =
    let p = err_from_is_err_and c.from_residual.result c.from_residual.ensures.1 in
    let both = only_then g.D.Disk.state g.D.Disk.images g.met.D.Disk.only_now c.args.table.now c.loop-object.table c.read_object.new.table tt _ c.requires.up c.loop-object.invariant.0 c.in_err-named.ensures.reads in
    rw (p.1, p.2) (only_err g.D.Disk.state g.D.Disk.images g.met.D.Disk.only_now c.args.table.now c.read_object.new.table c.in_err-named.field-0.0 both)

pub returns-in_err-add-clause-reads : goal.returns-in_err-add-clause-reads
returns-in_err-add-clause-reads g c =
    let p = err_from_is_err_and c.from_residual-in_err-add.result c.from_residual-in_err-add.ensures.1 in
    let both = only_then g.D.Disk.state g.D.Disk.images g.met.D.Disk.only_now c.args.table.now c.loop-object.table c.read_object.new.table tt (Ok c.in_ok-named.named) c.requires.up c.loop-object.invariant.0 c.in_ok-named.ensures.reads in
    rw (p.1, p.2) (only_short g.D.Disk.state g.D.Disk.images g.met.D.Disk.only_now c.args.table.now c.read_object.new.table c.in_ok-named.named both)

pub loop-object-preserved : goal.loop-object-preserved
loop-object-preserved g c =
    let s = g.D.Disk.state in
    let same : devs s c.loop-object.table ≡ devs s c.args.table.now = only_same g.D.Disk.state g.D.Disk.images c.args.table.now c.loop-object.table tt c.loop-object.invariant.0 in
    let read : c.in_ok-named.named ≡ named_in (devs s c.args.table.now) c.object-item.result.pieces =
    subst (λ (d : Devs). c.in_ok-named.named ≡ named_in d c.as_slice.result.now) same c.in_ok-named.ensures.named ∙ ap (named_in (devs s c.args.table.now)) c.as_slice.ensures in
    let both = only_then g.D.Disk.state g.D.Disk.images g.met.D.Disk.only_now c.args.table.now c.loop-object.table c.read_object.new.table tt (Ok c.in_ok-named.named) c.requires.up c.loop-object.invariant.0 c.in_ok-named.ensures.reads in (
      only_named g.D.Disk.state g.D.Disk.images g.met.D.Disk.only_now c.args.table.now c.read_object.new.table c.in_ok-named.named tt both,
      objects_more (devs s c.args.table.now) c.args.objects.now c.loop-object.object-index c.object-item.result c.loop-object.held c.add.new.items c.in_ok-named.named c.loop-object-test.true c.object-item.is c.loop-object.invariant.1 read c.in_ok-add.ensures,
    )

pub returns-clause-reads : goal.returns-clause-reads
returns-clause-reads g c = only_named g.D.Disk.state g.D.Disk.images g.met.D.Disk.only_now c.args.table.now c.loop-object.table tt c.loop-object.held c.loop-object.invariant.0
