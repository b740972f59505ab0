use Rattle.std.proofs.Common.{Ok, sym, subst}
use Rattle.store_commit.specs.Standing.{seen, IsReady}
use Rattle.new_rows.proofs.NewRows.{new_row_is_update, seen_takes, begun}
use Rattle.new_rows.proofs.work.begin.Goals as goal

pub begin-requires-clause-ready : goal.begin-requires-clause-ready
begin-requires-clause-ready g c up = subst (IsReady g.D.Disk.state c.args.devs.now) (sym c.requires.rests.idle) c.requires.rests.ready

pub begin-requires-clause-closed : goal.begin-requires-clause-closed
begin-requires-clause-closed g c up idle = c.requires.rests.takes.closed

pub begin-requires-clause-update : goal.begin-requires-clause-update
begin-requires-clause-update g c up idle =
    let s = g.D.Disk.state in
    new_row_is_update (seen s c.args.devs.now) c.args.count c.in_ok-update.update (seen_takes s g.D.Disk.images c.args.devs.now c.requires.rests.takes) c.requires.few c.in_ok-update.ensures

pub returns : goal.returns
returns g c =
    let s = g.D.Disk.state in
    begun s g.D.Disk.images _ c.in_ok-update.update c.args.devs.now c.begin.new.self (Ok c.in_ok-begin.field-0) c.requires.rests c.in_ok-begin.ensures.takes
