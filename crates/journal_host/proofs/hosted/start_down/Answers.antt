use Rattle.std.proofs.Common.{List, refl, ap, subst}
use Rattle.std.proofs.lemmas.Result.{err_from_is_err_and}
use Rattle.journal_host.specs.declared.out.ClientOut.{ClientOut}
use Rattle.journal_host.specs.Holds.{outs_in}
use Rattle.journal_host.specs.Steps.{HasTold}
use Rattle.journal_host.proofs.Hosting.{start_answered, start_kept, start_cause, start_memory}
use Rattle.journal_host.proofs.Phased.{told_keeps}
use Rattle.journal_host.proofs.hosted.start_down.Goals as goal

pub returns-in_err-reserve-clause-kept : goal.returns-in_err-reserve-clause-kept
returns-in_err-reserve-clause-kept g c cut s h =
    let p = err_from_is_err_and c.from_residual.result c.from_residual.ensures.1 in
    rw p.1 (h, λ owners. ap (outs_in owners) c.reserve.ensures.items)

pub returns-clause-started : goal.returns-clause-started
returns-clause-started g c cut s h =
    rw (c.answered.ensures, c.done.ensures) (start_answered g.D.Disk.state g.D.Disk.images cut c.args.client c.args.node.now c.start-started.new.self c.tell.new.node c.args.outs.now.items
    c.tell.new.outs.items
    (λ step t. subst (λ (l : List ClientOut). HasTold g.D.Disk.state cut c.args.client step c.tell.new.node l c.tell.new.outs.items) c.reserve.ensures.items (c.tell.ensures.told cut step t))
    s.disk s.agenda h c.requires.down c.start-started.result (c.start-started.ensures.starts s h.client))

pub returns-clause-kept : goal.returns-clause-kept
returns-clause-kept g c cut s h =
    rw (c.answered.ensures, c.done.ensures) (start_kept g.D.Disk.state g.D.Disk.images cut c.args.client c.args.node.now c.start-started.new.self c.tell.new.node c.args.outs.now.items
    c.tell.new.outs.items
    (λ step t. subst (λ (l : List ClientOut). HasTold g.D.Disk.state cut c.args.client step c.tell.new.node l c.tell.new.outs.items) c.reserve.ensures.items (c.tell.ensures.told cut step t))
    s.disk s.agenda h c.requires.down c.start-started.result (c.start-started.ensures.starts s h.client))

pub returns-clause-cause : goal.returns-clause-cause
returns-clause-cause g c =
    let n = c.requires.node in
    rw (c.answered.ensures, c.done.ensures) (start_cause g.D.Disk.state g.D.Disk.images n.0 c.args.node.now c.start-started.new.self c.tell.new.node c.tell.ensures.devs c.start-started.result
    (c.start-started.ensures.starts n.0 n.1))

pub returns-clause-memory : goal.returns-clause-memory
returns-clause-memory g c =
    let n = c.requires.node in
    rw (c.answered.ensures, c.done.ensures) (start_memory g.D.Disk.state g.D.Disk.images n.0 c.args.node.now c.start-started.new.self c.start-started.result (c.start-started.ensures.starts n.0 n.1))

pub returns-in_err-reserve-clause-plans : goal.returns-in_err-reserve-clause-plans
returns-in_err-reserve-clause-plans g c n below = below

pub returns-clause-plans : goal.returns-clause-plans
returns-clause-plans g c n below = let a = c.requires.node in c.tell.ensures.plans n ((c.start-started.ensures.starts a.0 a.1).plans n below)

pub returns-in_err-reserve-clause-phases : goal.returns-in_err-reserve-clause-phases
returns-in_err-reserve-clause-phases g c up = refl

pub returns-clause-phases : goal.returns-clause-phases
returns-clause-phases g c = told_keeps c.args.node.now c.tell.new.node c.start-started.new.self c.tell.ensures.phases c.tell.ensures.up c.start-started.ensures.phases
