use Rattle.std.proofs.Common.{sym, ◌∙◌, subst}
use Rattle.plan_log.specs.Reading.{said_by}
use Rattle.plan_log.specs.Memory.{Fits}
use Rattle.plan_log.specs.declared.memory.PlanMemory.{PlanMemory}
use Rattle.plan_log.proofs.Shapes.{intend_shape, commit_shape, done_shape, nothing_shape}
use Rattle.plan_log.proofs.Notes.{more, noted_intend, noted_commit, noted_done, noted_nothing}
use Rattle.plan_log.proofs.memory.PlanMemoryFold.note.Goals as goal

pub returns-in-Intend-clause-noted : goal.returns-in-Intend-clause-noted
returns-in-Intend-clause-noted c list at fit =
    let p = c.args._payload.now in
    let says = intend_shape (said_by p) c.in-Intend.intend (sym c.requires ∙ c.in-Intend.is) in
    subst (λ (m : PlanMemory). Fits m (more list p)) (sym c.intend.ensures) (noted_intend list p c.args.self.now fit c.in-Intend.intend says)

pub returns-in-Commit-clause-noted : goal.returns-in-Commit-clause-noted
returns-in-Commit-clause-noted c list at fit =
    let p = c.args._payload.now in
    let t = commit_shape (said_by p) c.in-Commit.plan (sym c.requires ∙ c.in-Commit.is) in
    subst (λ (m : PlanMemory). Fits m (more list p)) (sym c.commit.ensures) (noted_commit list p c.args.self.now fit t.0 c.in-Commit.plan c.args.index t.1 t.2 (sym at))

pub returns-in-Done-clause-noted : goal.returns-in-Done-clause-noted
returns-in-Done-clause-noted c list at fit =
    let p = c.args._payload.now in
    let says = done_shape (said_by p) c.in-Done.plan (sym c.requires ∙ c.in-Done.is) in
    subst (λ (m : PlanMemory). Fits m (more list p)) (sym c.done.ensures) (noted_done list p c.args.self.now fit c.in-Done.plan says)

pub returns-in-Nothing-clause-noted : goal.returns-in-Nothing-clause-noted
returns-in-Nothing-clause-noted c list at fit =
    noted_nothing list c.args._payload.now c.args.self.now fit (nothing_shape (said_by c.args._payload.now) (sym c.requires ∙ c.in-Nothing.is))
