use Rattle.std.proofs.Common.{sym, ◌∙◌}
use Rattle.client_events.proofs.Working.{none_to_do, no_work_cause}
use Rattle.client_events.proofs.follow.follow_done.Goals as goal

pub returns-then-is_held-clause-cause : goal.returns-then-is_held-clause-cause
returns-then-is_held-clause-cause g c = no_work_cause g.D.Disk.state c.args.client c.args.clients.now.clients c.args.answer

pub returns-then-was_busy-clause-cause : goal.returns-then-was_busy-clause-cause
returns-then-was_busy-clause-cause g c = no_work_cause g.D.Disk.state c.args.client c.args.clients.now.clients c.args.answer

pub returns-clause-cause : goal.returns-clause-cause
returns-clause-cause g c = no_work_cause g.D.Disk.state c.args.client c.args.clients.now.clients c.args.answer

pub returns-clause-work : goal.returns-clause-work
returns-clause-work g c free idle w h = none_to_do g.D.Disk.state w c.args.clients.now c.args.client c.args.answer h (sym (c.is_busy.ensures w h) ∙ c.if-is_busy.false)
