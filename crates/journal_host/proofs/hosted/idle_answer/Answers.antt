use Rattle.std.proofs.Common.{sym, ap, ◌∙◌}
use Rattle.std.specs.Prelude.{is_some}
use Rattle.journal_host.proofs.Shut.{idle_busy, idle_done}
use Rattle.journal_host.proofs.hosted.idle_answer.Goals as goal

pub returns-in-Some : goal.returns-in-Some
returns-in-Some g c s t = idle_busy s.agenda c.in-Some.with (ap (λ (o : _). is_some o) (sym c.in-Some.is) ∙ c.plan_at.ensures.busy s t)

pub returns-in-None : goal.returns-in-None
returns-in-None g c s t = idle_done s.agenda (ap (λ (o : _). is_some o) (sym c.in-None.is) ∙ c.plan_at.ensures.busy s t)
