use Rattle.std.proofs.Common.{◌≡◌, sym, ◌∙◌, ap, arith}
use Rattle.client_journal.specs.NamedSlots.{names_if}
use Rattle.client_journal.specs.Standing.{devs}
use Rattle.journal_tests.proofs.Shaped.{first_is_plan, none_before}
use Rattle.journal_tests.proofs.plans.begin_first.Goals as goal

pub begin_plan-requires-clause-rests : goal.begin_plan-requires-clause-rests
begin_plan-requires-clause-rests g c = c.in_ok-found.ensures.rests

pub begin_plan-requires-clause-plan : goal.begin_plan-requires-clause-plan
begin_plan-requires-clause-plan g c =
    let e = c.in_ok-found.ensures in
    let k = c.in_ok-record.ensures in
    let b = c.in_ok-brought.ensures in
    rw (c.plan_with-plan.ensures, c.new.ensures, c.slots_with.ensures, c.in_ok-content.ensures, b.1)
    (first_is_plan (devs g.D.Disk.state c.held.new.client) c.id_of-row.result c.id_of-row.ensures c.args.number c.requires.number c.args.position (omega arith) c.in_ok-record.record k.spelled k.short b.0 b.2
    (ap names_if e.found ∙ none_before c.in_ok-found.found (sym c.is_some.ensures ∙ c.if-is_some.false)))
