use Rattle.std.proofs.Common.{Err, refl, sym, ◌∙◌, ap}
use Rattle.std.proofs.lemmas.Result.{err_from_is_err_and, IfOk-weaker}
use Rattle.client_journal.specs.Standing.{devs}
use Rattle.client_node.specs.declared.fault.CallFault.TheVariants as call
use Rattle.client_node.proofs.Again.{found_redone}
use Rattle.client_node.proofs.Retelling.{ok_only, memory_only}
use Rattle.client_node.proofs.Serving.{looks_none}
use Rattle.client_node.proofs.telling.tell_found.Goals as goal

pub returns-in-Some-clause-told : goal.returns-in-Some-clause-told
returns-in-Some-clause-told g c =
    let d = devs g.D.Disk.state c.args.devs.now in
    IfOk-weaker c.tell_redone.result _ _ (λ told h meaning disk stands is.
    h meaning stands.named ∙ found_redone c.args.client meaning d disk c.args.rolled.now.torn d.journal.at_work disk.plan refl stands.plan c.in-Some.redone (sym (ap (λ x. x.redone) is) ∙ c.in-Some.is))
    c.tell_redone.ensures.told

pub returns-in_err-tell_torn-in-None-clause-looks : goal.returns-in_err-tell_torn-in-None-clause-looks
returns-in_err-tell_torn-in-None-clause-looks g c =
    let p = err_from_is_err_and c.from_residual.result c.from_residual.ensures.1 in
    rw (p.1, p.2) (looks_none g.D.Disk.state g.D.Disk.images g.met.D.Disk.only_now c.args.devs.now c.requires.up c.requires.ready (Err call.Memory) memory_only)

pub returns-in_ok-tell_torn-in-None-clause-looks : goal.returns-in_ok-tell_torn-in-None-clause-looks
returns-in_ok-tell_torn-in-None-clause-looks g c = looks_none g.D.Disk.state g.D.Disk.images g.met.D.Disk.only_now c.args.devs.now c.requires.up c.requires.ready _ (ok_only _)
