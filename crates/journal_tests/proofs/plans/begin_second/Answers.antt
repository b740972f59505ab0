use Rattle.std.proofs.Common.{◌≡◌, sym, ◌∙◌, ap, arith}
use Rattle.client_journal.specs.Standing.{devs}
use Rattle.journal_tests.proofs.Shaped.{second_is_plan}
use Rattle.journal_tests.proofs.plans.begin_second.Goals as goal

pub begin_plan-requires-clause-rests : goal.begin_plan-requires-clause-rests
begin_plan-requires-clause-rests g c = c.in_ok-old.ensures.rests

pub begin_plan-requires-clause-plan : goal.begin_plan-requires-clause-plan
begin_plan-requires-clause-plan g c =
    let e = c.in_ok-old.ensures in
    let b = c.in_ok-brought.ensures in
    rw (c.plan_with-plan.ensures, c.slots_with.ensures, c.in_ok-content.ensures, b.2, c.in_ok-drops.ensures)
    (second_is_plan (devs g.D.Disk.state c.old_name.new.client) c.id_of-row.result c.id_of-row.ensures c.args.number c.requires.number b.0 b.1 b.3 b.4 c.in_ok-old.old (omega arith, omega arith) e.name e.there)
