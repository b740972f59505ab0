use Rattle.std.proofs.Common.{None, Some}
use Rattle.client_journal.specs.Standing.{devs}
use Rattle.journal_tests.proofs.Shaped.{bare_is_plan}
use Rattle.journal_tests.proofs.plans.begin_record.Goals as goal

pub begin_plan-requires-clause-plan : goal.begin_plan-requires-clause-plan
begin_plan-requires-clause-plan g c =
    let k = c.in_ok-change.ensures in
    rw (c.plan_with-plan.ensures, c.new.ensures, c.new-2.ensures) (bare_is_plan (devs g.D.Disk.state c.args.client.now) None (Some c.in_ok-change.change) tt (k.spelled, k.short))
