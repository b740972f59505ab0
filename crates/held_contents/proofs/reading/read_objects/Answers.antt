use Rattle.std.proofs.Common.{◌∙◌, ap}
use Rattle.std.proofs.lemmas.List.{take_all}
use Rattle.std.proofs.lemmas.Result.{err_from_is_err_and}
use Rattle.held_value.specs.declared.content.HeldObject.{HeldObject}
use Rattle.client_journal.specs.Devs.{ClientDevs}
use Rattle.client_journal.specs.Standing.{devs}
use Rattle.held_contents.specs.Reading.{stands_in, with_bytes, objects_with_bytes}
use Rattle.held_contents.proofs.Readings.{begins, ends, goes_more, still_up, still_looked, still_devs, fails}
use Rattle.held_contents.proofs.reading.read_objects.Goals as goal

pub loop-object-init : goal.loop-object-init
loop-object-init g c = begins g.D.Disk.state g.D.Disk.images g.met.D.Disk.only_now c.args.devs.now c.new-read.result c.requires.up c.requires.looked c.new-read.ensures

pub read_one-requires-clause-up : goal.read_one-requires-clause-up
read_one-requires-clause-up g c = still_up g.D.Disk.state g.D.Disk.images c.args.devs.now c.loop-object.devs c.loop-object.read _ c.loop-object.invariant c.requires.up

pub read_one-requires-clause-looked : goal.read_one-requires-clause-looked
read_one-requires-clause-looked g c = still_looked g.D.Disk.state g.D.Disk.images c.args.devs.now c.loop-object.devs c.loop-object.read _ c.loop-object.invariant c.requires.looked

pub returns-in_err-read_one-clause-asks : goal.returns-in_err-read_one-clause-asks
returns-in_err-read_one-clause-asks g c =
    let p = err_from_is_err_and c.from_residual.result c.from_residual.ensures.1 in
    rw (p.1, p.2)
    (fails g.D.Disk.state g.D.Disk.images c.args.devs.now c.loop-object.devs c.loop-object.read _ c.loop-object.invariant g.met.D.Disk.only_now c.read_one.new.devs c.in_err-read_one.field-0.0 c.in_err-read_one.ensures.asks)

pub loop-object-preserved : goal.loop-object-preserved
loop-object-preserved g c =
    let x : HeldObject = c.object-item.result in
    goes_more g.D.Disk.state g.D.Disk.images g.met.D.Disk.only_now c.args.devs.now (λ (o : HeldObject). with_bytes (stands_in (devs g.D.Disk.state c.args.devs.now).chunks) o.pieces) (λ (o : HeldObject). with_bytes (stands_in (devs g.D.Disk.state c.loop-object.devs).chunks) o.pieces)
    c.args.objects.now c.loop-object.object-index x x c.loop-object.devs c.read_one.new.devs c.loop-object.read c.read_one.new.read c.loop-object-test.true c.object-item.is c.loop-object.invariant c.in_ok-read_one.ensures.asks c.in_ok-read_one.ensures.adds
    (ap (λ (d : ClientDevs). (λ (o : HeldObject). with_bytes (stands_in d.chunks) o.pieces) x) (still_devs g.D.Disk.state g.D.Disk.images c.args.devs.now c.loop-object.devs c.loop-object.read _ c.loop-object.invariant))

pub returns-clause-asks : goal.returns-clause-asks
returns-clause-asks g c = ends g.D.Disk.state g.D.Disk.images g.met.D.Disk.only_now c.args.devs.now c.loop-object.devs c.loop-object.read _ c.loop-object.invariant c.loop-object.read

pub returns-clause-chunks : goal.returns-clause-chunks
returns-clause-chunks g c = c.loop-object.invariant.read_is ∙ ap (objects_with_bytes (stands_in (devs g.D.Disk.state c.args.devs.now).chunks)) (take_all c.loop-object.object-index c.args.objects.now c.loop-object-test.false)
