use Rattle.client_journal.specs.Standing.{devs, writes_of}
use Rattle.journal_tests.proofs.Moves.{named_now}
use Rattle.plan_bench.proofs.Rows.{one_is_plan}
use Rattle.plan_bench.proofs.plans.begin.Goals as goal

pub begin_plan-requires-clause-rests : goal.begin_plan-requires-clause-rests
begin_plan-requires-clause-rests g c = c.in_ok-old.ensures.rests

pub begin_plan-requires-clause-plan : goal.begin_plan-requires-clause-plan
begin_plan-requires-clause-plan g c =
    let client = c.old_name.new.client in
    let d = devs g.D.Disk.state client in
    let e = c.in_ok-old.ensures in
    let b = c.in_ok-brought.ensures in
    rw (c.plan_with-plan.ensures, c.change_with-change.ensures, c.in_ok-content.ensures, b.1, c.in_ok-drops.ensures.names)
    (one_is_plan d e.rests.rests (named_now d (writes_of client) e.rests.moving.runs) c.id_of-row.result c.id_of-row.ensures c.args.number c.requires.number b.0 b.2 c.in_ok-old.old c.in_ok-drops.ensures.spelled e.names)
