use Rattle.std.proofs.Common.{refl, sym, ◌∙◌}
use Rattle.journal_host.proofs.Hosting.{idle_works, busy_up}
use Rattle.journal_host.proofs.hosted.work.Goals as goal

pub work_up-requires : goal.work_up-requires
work_up-requires g c = let n = c.requires in record { node = n; up = busy_up g.D.Disk.state c.args.node.now n.0.disk n.0.agenda n.1 (sym (c.is_busy.ensures n.0 n.1) ∙ c.if-is_busy.true) }

pub returns-then-is_busy-clause-done : goal.returns-then-is_busy-clause-done
returns-then-is_busy-clause-done g c cut s h = c.work_up.ensures.done cut s h

pub returns-then-is_busy-clause-failed : goal.returns-then-is_busy-clause-failed
returns-then-is_busy-clause-failed g c cut s h is = c.work_up.ensures.failed cut s h is

pub returns-then-is_busy-clause-busy : goal.returns-then-is_busy-clause-busy
returns-then-is_busy-clause-busy g c s t is = sym (c.is_busy.ensures s t) ∙ c.if-is_busy.true

pub returns-then-is_busy-clause-cause : goal.returns-then-is_busy-clause-cause
returns-then-is_busy-clause-cause g c = c.work_up.ensures.cause

pub returns-clause-done : goal.returns-clause-done
returns-clause-done g c cut s h =
    idle_works g.D.Disk.state cut c.args.client s.disk s.agenda c.args.node.now c.args.outs.now.items h (sym (c.is_busy.ensures s h.client) ∙ c.if-is_busy.false)

pub returns-clause-failed : goal.returns-clause-failed
returns-clause-failed g c cut s h is = absurd cc

pub returns-clause-busy : goal.returns-clause-busy
returns-clause-busy g c s t is = absurd cc

pub returns-clause-cause : goal.returns-clause-cause
returns-clause-cause g c = record { counted = λ is. refl; cause = λ bad. absurd cc; only = tt }

pub returns-then-is_busy-clause-plans : goal.returns-then-is_busy-clause-plans
returns-then-is_busy-clause-plans g c n below = c.work_up.ensures.plans n below

pub returns-clause-plans : goal.returns-clause-plans
returns-clause-plans g c n below = below

pub returns-then-is_busy-clause-phases : goal.returns-then-is_busy-clause-phases
returns-then-is_busy-clause-phases g c = c.work_up.ensures.phases

pub returns-clause-phases : goal.returns-clause-phases
returns-clause-phases g c up = refl
