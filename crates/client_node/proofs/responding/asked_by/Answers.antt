use Rattle.std.proofs.Common.{◌≡◌, Option, Ok, Err, sym, ◌∙◌, ap, subst}
use Rattle.std.proofs.lemmas.Result.{err_from_is_err_and, IfOk-weaker}
use Rattle.held_value.specs.declared.slots.Out.{Out}
use Rattle.client_journal.specs.Standing.{devs}
use Rattle.client_node.specs.Answering.{IsThere, out_behind, request_behind, asked_for}
use Rattle.client_node.specs.declared.fault.CallFault.TheVariants as call
use Rattle.client_node.proofs.Serving.{looks_none}
use Rattle.client_node.proofs.responding.asked_by.Goals as goal

pub returns-in-Nothing-clause-looks : goal.returns-in-Nothing-clause-looks
returns-in-Nothing-clause-looks g c = looks_none g.D.Disk.state g.D.Disk.images g.met.D.Disk.only_now c.args.devs.now c.requires.up c.requires.ready (Ok _) (λ no. cc)

pub returns-in-Request-clause-asks : goal.returns-in-Request-clause-asks
returns-in-Request-clause-asks g c =
    let change = c.args.change.now in
    IfOk-weaker c.request_behind.result _ _
    (λ asked k meaning there.
    k meaning (subst (λ (o : Option Out). IsThere meaning (devs g.D.Disk.state c.args.devs.now) o) (sym c.out_behind.ensures) there)
    ∙ (ap (request_behind meaning c.args.client c.args.table c.args.row.now) c.out_behind.ensures
    ∙ ap (asked_for meaning c.args.client c.args.table c.args.row.now c.args.position (out_behind change.slots)) (sym c.in-Request.is))) c.request_behind.ensures.requests

pub returns-in_err-request_from-in-Pull-clause-looks : goal.returns-in_err-request_from-in-Pull-clause-looks
returns-in_err-request_from-in-Pull-clause-looks g c =
    let p = err_from_is_err_and c.from_residual.result c.from_residual.ensures.1 in
    rw (p.1, p.2) (looks_none g.D.Disk.state g.D.Disk.images g.met.D.Disk.only_now c.args.devs.now c.requires.up c.requires.ready (Err call.Memory) (λ no. cc))

pub returns-in_ok-request_from-in-Pull-clause-looks : goal.returns-in_ok-request_from-in-Pull-clause-looks
returns-in_ok-request_from-in-Pull-clause-looks g c = looks_none g.D.Disk.state g.D.Disk.images g.met.D.Disk.only_now c.args.devs.now c.requires.up c.requires.ready (Ok _) (λ no. cc)
