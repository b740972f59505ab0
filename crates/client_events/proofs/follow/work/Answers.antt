use Rattle.client_events.proofs.Working.{followed, work_cause, no_answer_cause}
use Rattle.client_events.proofs.follow.work.Goals as goal

pub returns-in-Ok-clause-work : goal.returns-in-Ok-clause-work
returns-in-Ok-clause-work g c w h =
    rw c.behind.ensures (followed g.D.Disk.state w c.args.clients.now c.work_all.new.self c.args.client c.args.answer c.in-Ok.done (c.in-Ok.ensures.called w h))

pub returns-in-Ok-clause-cause : goal.returns-in-Ok-clause-cause
returns-in-Ok-clause-cause g c =
    rw c.behind.ensures (work_cause g.D.Disk.state c.args.client c.args.clients.now.clients c.work_all.new.self.clients c.args.answer c.in-Ok.done c.in-Ok.ensures.cause)

pub returns-in-Err-clause-cause : goal.returns-in-Err-clause-cause
returns-in-Err-clause-cause g c = no_answer_cause g.D.Disk.state c.args.client c.args.clients.now.clients c.work_all.new.self.clients c.args.answer c.in-Err.fault c.in-Err.ensures.cause
