use Rattle.journal_tests.proofs.Moves.{begun}
use Rattle.plan_bench.proofs.plans.begin_plan.Goals as goal

pub begin-requires-clause-ready : goal.begin-requires-clause-ready
begin-requires-clause-ready g c up = c.requires.rests.moving.ready

pub begin-requires-clause-rests : goal.begin-requires-clause-rests
begin-requires-clause-rests g c up idle = c.requires.rests.rests.not_committed

pub begin-requires-clause-plan : goal.begin-requires-clause-plan
begin-requires-clause-plan g c up idle = c.requires.plan

pub returns : goal.returns
returns g c =
    let e = c.in_ok-begin.ensures in
    begun g.D.Disk.state g.D.Disk.images c.args.client.now c.begin.new.self _ _ _ e.takes c.requires.rests _ _ _ e.moments
