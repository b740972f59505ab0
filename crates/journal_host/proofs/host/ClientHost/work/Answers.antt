use Rattle.table_model.specs.declared.line.Answer.TheVariants as answers
use Rattle.journal_host.proofs.Draining.{worked_as, moves_cause, moves_memory}
use Rattle.journal_host.proofs.host.ClientHost.work.Goals as goal

pub returns-clause-called : goal.returns-clause-called
returns-clause-called g c w h =
    rw (c.answered.ensures, c.did.ensures) (worked_as g.D.Disk.state w c.args.self.now c.work_once-done.new.self c.args.client c.work_once-done.result c.work_once-done.ensures.cause.only
    (c.work_once-done.ensures.done w h) (c.work_once-done.ensures.failed w h))

pub returns-clause-cause : goal.returns-clause-cause
returns-clause-cause g c =
    rw (c.answered.ensures, c.did.ensures) (moves_cause g.D.Disk.state c.args.client c.args.self.now.clients c.work_once-done.new.self.clients answers.Did (λ x bad. absurd cc)
    c.work_once-done.result c.work_once-done.ensures.cause)

pub returns-clause-memory : goal.returns-clause-memory
returns-clause-memory g c = rw (c.answered.ensures, c.did.ensures) (moves_memory answers.Did c.work_once-done.result c.work_once-done.ensures.cause.only)

pub returns-clause-plans : goal.returns-clause-plans
returns-clause-plans g c n below = c.work_once-done.ensures.plans n below
