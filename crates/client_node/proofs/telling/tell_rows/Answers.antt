use Rattle.std.proofs.Common.{List, Some, refl, subst}
use Rattle.std.proofs.lemmas.List.{drop_all}
use Rattle.std.proofs.lemmas.Result.{err_from_is_err_and}
use Rattle.held_value.specs.declared.tell.Tell.{Tell}
use Rattle.client_node.specs.Telling.{put_of}
use Rattle.client_node.proofs.Retelling.{TellsRow, ok_only, tells_end, row_none, row_more, row_stops}
use Rattle.client_node.proofs.Serving.{looks_other}
use Rattle.client_node.proofs.telling.tell_rows.Goals as goal

pub loop-tell-init : goal.loop-tell-init
loop-tell-init g c = row_none g.D.Disk.state g.D.Disk.images c.args.put.now.client c.args.put.now.table c.args.put.now.row c.args.put.now.slots c.args.tells.now c.args.devs.now c.requires.up c.requires.ready g.met.D.Disk.only_now c.new-told.result.items c.new-told.ensures.items

pub tell_row-requires-clause-up : goal.tell_row-requires-clause-up
tell_row-requires-clause-up g c = c.loop-tell.invariant.looks.serves.up (ok_only tt)

pub tell_row-requires-clause-ready : goal.tell_row-requires-clause-ready
tell_row-requires-clause-ready g c = c.loop-tell.invariant.looks.serves.ready (ok_only tt)

pub loop-tell-preserved : goal.loop-tell-preserved
loop-tell-preserved g c =
    row_more g.D.Disk.state g.D.Disk.images c.args.put.now.client c.args.put.now.table c.args.put.now.row c.args.put.now.slots c.args.tells.now c.args.devs.now c.requires.up c.requires.ready c.loop-tell.devs c.tell_row.new.devs c.loop-tell.told.items c.tell_row.new.told.items c.loop-tell.tell-index c.loop-tell.invariant
    _ _ c.loop-tell-test.true refl c.in_ok-tell_row.ensures.looks c.in_ok-tell_row.ensures.adds

pub returns-in_err-tell_row-clause-looks : goal.returns-in_err-tell_row-clause-looks
returns-in_err-tell_row-clause-looks g c =
    let p = err_from_is_err_and c.from_residual.result c.from_residual.ensures.1 in
    rw (p.1, p.2) (row_stops g.D.Disk.state g.D.Disk.images c.args.put.now.client c.args.put.now.table c.args.put.now.row c.args.put.now.slots c.args.tells.now c.args.devs.now c.requires.up c.requires.ready c.loop-tell.devs c.tell_row.new.devs c.loop-tell.told.items c.tell_row.new.told.items c.loop-tell.tell-index c.loop-tell.invariant
    c.in_err-tell_row.field-0.0 c.in_err-tell_row.ensures.looks)

pub returns-clause-looks : goal.returns-clause-looks
returns-clause-looks g c = looks_other g.D.Disk.state g.D.Disk.images c.args.devs.now c.loop-tell.devs c.requires.up c.requires.ready tt _ c.loop-tell.invariant.looks (ok_only _)

pub returns-clause-told : goal.returns-clause-told
returns-clause-told g c meaning there =
    let end = subst (λ (l : List Tell). TellsRow g.D.Disk.state g.D.Disk.images c.args.put.now.client c.args.put.now.table c.args.put.now.row c.args.put.now.slots c.args.tells.now c.args.devs.now l c.loop-tell.devs c.loop-tell.told.items) (drop_all c.loop-tell.tell-index c.args.tells.now c.loop-tell-test.false) c.loop-tell.invariant in
    tells_end c.args.put.now.client c.args.put.now.table (Some (put_of meaning c.args.put.now.row c.args.put.now.slots)) c.args.tells.now c.loop-tell.told.items (end.on meaning there)
