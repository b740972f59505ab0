use Rattle.std.proofs.Common.{None, Some, arith}
use Rattle.client_journal.specs.Standing.{devs}
use Rattle.journal_tests.proofs.Shaped.{bare_is_plan}
use Rattle.journal_tests.proofs.plans.begin_position.Goals as goal

pub begin_plan-requires-clause-plan : goal.begin_plan-requires-clause-plan
begin_plan-requires-clause-plan g c =
    rw (c.plan_with-plan.ensures, c.new.ensures, c.new-2.ensures) (bare_is_plan (devs g.D.Disk.state c.args.client.now) (Some c.args.position) None (omega arith) tt)
