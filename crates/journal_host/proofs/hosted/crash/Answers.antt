use Rattle.std.proofs.Common.{refl, sym, ◌∙◌}
use Rattle.journal_host.proofs.Crashed.{crashed_up, crashed_down}
use Rattle.journal_host.proofs.hosted.crash.Goals as goal

pub returns-then-is_up-clause-crashed : goal.returns-then-is_up-clause-crashed
returns-then-is_up-clause-crashed g c cut n s h = crashed_up g.D.Disk.state g.D.Disk.images cut n c.args.calls s c.args.node.now c.crash.new.self h (c.crash.ensures.crashes s h.client)

pub returns-else-is_up-clause-crashed : goal.returns-else-is_up-clause-crashed
returns-else-is_up-clause-crashed g c cut n s h = crashed_down g.D.Disk.state cut n c.args.calls s.disk s.agenda c.args.node.now h (sym c.is_up.ensures ∙ c.if-is_up.false)

pub returns-then-is_up-clause-plans : goal.returns-then-is_up-clause-plans
returns-then-is_up-clause-plans g c n below = let a = c.requires in (c.crash.ensures.crashes a.0 a.1).plans n below

pub returns-else-is_up-clause-plans : goal.returns-else-is_up-clause-plans
returns-else-is_up-clause-plans g c n below = below

pub returns-then-is_up-clause-phases : goal.returns-then-is_up-clause-phases
returns-then-is_up-clause-phases g c up = let down = c.crash.ensures.down in absurd cc

pub returns-else-is_up-clause-phases : goal.returns-else-is_up-clause-phases
returns-else-is_up-clause-phases g c up = refl
