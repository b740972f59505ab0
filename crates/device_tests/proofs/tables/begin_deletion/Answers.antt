use Rattle.std.proofs.Common.{sym, subst}
use Rattle.store_commit.specs.Standing.{IsReady}
use Rattle.device_tests.proofs.Stands.{gone_is_update, taken_works}
use Rattle.device_tests.proofs.tables.begin_deletion.Goals as goal

pub begin-requires-clause-ready : goal.begin-requires-clause-ready
begin-requires-clause-ready g c up = subst (IsReady g.D.Disk.state c.args.devs.now) (sym c.requires.idle) c.requires.ready

pub begin-requires-clause-closed : goal.begin-requires-clause-closed
begin-requires-clause-closed g c up idle = c.requires.closed

pub begin-requires-clause-update : goal.begin-requires-clause-update
begin-requires-clause-update g c up idle = gone_is_update g.D.Disk.state g.D.Disk.images c.args.devs.now c.requires c.from_bytes.result 1 0 c.new.result c.new.ensures

pub returns : goal.returns
returns g c = taken_works g.D.Disk.state g.D.Disk.images _ _ c.args.devs.now c.begin.new.self c.begin.result c.begin.ensures.takes
