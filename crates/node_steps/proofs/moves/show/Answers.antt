use Rattle.std.proofs.Common.{refl}
use Rattle.step_tables.specs.Store.{current_of}
use Rattle.node_steps.proofs.Taken.{read_well, read_badly, shown_is, none_is}
use Rattle.node_steps.proofs.moves.show.Goals as goal

pub returns-in-Ok-Some-clause-done : goal.returns-in-Ok-Some-clause-done
returns-in-Ok-Some-clause-done g c w hosted h at =
    let k = c.in-Ok-Some.ensures.shows w h in
    read_well g.D.Disk.state w c.args.table _ _ _ _ (k.stays (λ e. absurd cc)) c.in-Ok-Some.ensures.outs
    (shown_is (current_of hosted.store.disk.items c.args.row.now) c.in-Ok-Some.shown (let is = c.in-Ok-Some.field-0-is in let found = k.shown hosted at in cc))

pub returns-in-Ok-None-clause-done : goal.returns-in-Ok-None-clause-done
returns-in-Ok-None-clause-done g c w hosted h at =
    let k = c.in-Ok-None.ensures.shows w h in
    read_well g.D.Disk.state w c.args.table _ _ _ _ (k.stays (λ e. absurd cc)) c.in-Ok-None.ensures.outs
    (none_is (current_of hosted.store.disk.items c.args.row.now) (let is = c.in-Ok-None.field-0-is in let found = k.shown hosted at in cc))

pub returns-in-Err-Disk-clause-done : goal.returns-in-Err-Disk-clause-done
returns-in-Err-Disk-clause-done g c w hosted h at =
    read_badly g.D.Disk.state w c.args.table _ _ _ _ ((c.in-Err-Disk.ensures.shows w h).fallen (let is = c.in-Err-Disk.field-0-is in cc)) refl
