use Rattle.std.proofs.Common.{inr, List, refl, subst}
use Rattle.std.proofs.lemmas.Result.{err_from_is_err_and}
use Rattle.journal_host.specs.declared.out.ClientOut.{ClientOut}
use Rattle.journal_host.specs.Steps.{HasTold}
use Rattle.journal_host.proofs.Hosting.{works_done, works_failed, works_cause, node_cause}
use Rattle.journal_host.proofs.Phased.{told_keeps}
use Rattle.journal_host.proofs.hosted.work_up.Goals as goal

pub returns-in_err-reserve-clause-cause : goal.returns-in_err-reserve-clause-cause
returns-in_err-reserve-clause-cause g c =
    let p = err_from_is_err_and c.from_residual.result c.from_residual.ensures.1 in
    rw (p.1, p.2) (record { counted = λ is. refl; cause = λ bad. absurd cc; only = inr refl })

pub returns-clause-done : goal.returns-clause-done
returns-clause-done g c cut s h =
    works_done g.D.Disk.state cut c.args.client g.D.Disk.images c.args.node.now c.work-done.new.self c.tell.new.node c.args.outs.now.items c.tell.new.outs.items
    (λ step t. subst (λ (l : List ClientOut). HasTold g.D.Disk.state cut c.args.client step c.tell.new.node l c.tell.new.outs.items) c.reserve.ensures.items (c.tell.ensures.told cut step t))
    s h c.work-done.result (c.work-done.ensures.works s h.client)

pub returns-clause-failed : goal.returns-clause-failed
returns-clause-failed g c cut s h is =
    works_failed g.D.Disk.state cut c.args.client g.D.Disk.images c.args.node.now c.work-done.new.self c.tell.new.node c.args.outs.now.items c.tell.new.outs.items
    (λ step t. subst (λ (l : List ClientOut). HasTold g.D.Disk.state cut c.args.client step c.tell.new.node l c.tell.new.outs.items) c.reserve.ensures.items (c.tell.ensures.told cut step t))
    s h c.work-done.result (c.work-done.ensures.works s h.client) is

pub returns-clause-cause : goal.returns-clause-cause
returns-clause-cause g c =
    let n = c.requires.node in
    node_cause g.D.Disk.state c.args.node.now c.work-done.new.self c.tell.new.node c.tell.ensures.devs c.work-done.result
    (works_cause g.D.Disk.state g.D.Disk.images n.0 c.args.node.now c.work-done.new.self c.work-done.result (c.work-done.ensures.works n.0 n.1))

pub returns-in_err-reserve-clause-plans : goal.returns-in_err-reserve-clause-plans
returns-in_err-reserve-clause-plans g c n below = below

pub returns-clause-plans : goal.returns-clause-plans
returns-clause-plans g c n below = let a = c.requires.node in c.tell.ensures.plans n ((c.work-done.ensures.works a.0 a.1).plans n below)

pub returns-in_err-reserve-clause-phases : goal.returns-in_err-reserve-clause-phases
returns-in_err-reserve-clause-phases g c up = refl

pub returns-clause-phases : goal.returns-clause-phases
returns-clause-phases g c = told_keeps c.args.node.now c.tell.new.node c.work-done.new.self c.tell.ensures.phases c.tell.ensures.up c.work-done.ensures.phases
