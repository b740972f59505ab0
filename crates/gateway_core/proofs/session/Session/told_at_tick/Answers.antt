use Rattle.std.proofs.Common.{true, false, Some, ap, ◌∙◌}
use Rattle.gateway_core.proofs.TimerLists.{told_next}
use Rattle.gateway_core.proofs.session.Session.told_at_tick.Goals as goal

pub returns-then-any_due_next : goal.returns-then-any_due_next
returns-then-any_due_next c = rw (← c.self.view_is) (ap Some c.bits.ensures ∙ told_next c.self.inside.timers.entries true c.if-any_due_next.ensures)

pub returns-else-any_due_next : goal.returns-else-any_due_next
returns-else-any_due_next c = rw (← c.self.view_is) (told_next c.self.inside.timers.entries false c.if-any_due_next.ensures)
