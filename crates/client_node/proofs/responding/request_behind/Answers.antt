use Rattle.std.proofs.Common.{map, Option, Ok, Err, ◌∷◌, [], sym, ◌∙◌, ap, subst}
use Rattle.std.specs.Prelude.{option_copied}
use Rattle.std.proofs.lemmas.Result.{err_from_is_err_and}
use Rattle.held_value.specs.declared.slots.Out.{Out}
use Rattle.client_journal.specs.Standing.{devs}
use Rattle.step_tables.specs.Travels.{send_of}
use Rattle.client_node.specs.Answering.{IsThere, request_behind}
use Rattle.client_node.specs.declared.fault.CallFault.TheVariants as call
use Rattle.client_node.proofs.Serving.{looks_none, looks_err, looks_other}
use Rattle.client_node.proofs.responding.request_behind.Goals as goal

pub returns-in-None-clause-looks : goal.returns-in-None-clause-looks
returns-in-None-clause-looks g c = looks_none g.D.Disk.state g.D.Disk.images g.met.D.Disk.only_now c.args.devs.now c.requires.up c.requires.ready (Ok _) (λ no. cc)

pub returns-in_err-request-in-Some-clause-looks : goal.returns-in_err-request-in-Some-clause-looks
returns-in_err-request-in-Some-clause-looks g c =
    let p = err_from_is_err_and c.from_residual.result c.from_residual.ensures.1 in
    rw (p.1, p.2) (looks_err g.D.Disk.state g.D.Disk.images c.args.devs.now c.request_of.new.devs c.requires.up c.requires.ready c.in_err-request-in-Some.field-0.0 c.in_err-request-in-Some.ensures.looks)

pub returns-in_err-asked-in-Some-clause-looks : goal.returns-in_err-asked-in-Some-clause-looks
returns-in_err-asked-in-Some-clause-looks g c =
    let p = err_from_is_err_and c.from_residual-in_err-asked-in-Some.result c.from_residual-in_err-asked-in-Some.ensures.1 in
    rw (p.1, p.2) (looks_other g.D.Disk.state g.D.Disk.images c.args.devs.now c.request_of.new.devs c.requires.up c.requires.ready c.in_ok-request-in-Some.request (Err call.Memory) c.in_ok-request-in-Some.ensures.looks (λ no. cc))

pub returns-in_ok-asked-in-Some-clause-looks : goal.returns-in_ok-asked-in-Some-clause-looks
returns-in_ok-asked-in-Some-clause-looks g c = looks_other g.D.Disk.state g.D.Disk.images c.args.devs.now c.request_of.new.devs c.requires.up c.requires.ready c.in_ok-request-in-Some.request (Ok _) c.in_ok-request-in-Some.ensures.looks (λ no. cc)

pub returns-in_ok-asked-in-Some-clause-requests : goal.returns-in_ok-asked-in-Some-clause-requests
returns-in_ok-asked-in-Some-clause-requests g c meaning there =
    let is = ap option_copied c.in-Some.is in
    let has = subst (λ (o : Option Out). IsThere meaning (devs g.D.Disk.state c.args.devs.now) o) is there in
    ap (map send_of) c.in_ok-asked-in-Some.ensures.items
    ∙ (ap (λ q. q ∷ []) (c.in_ok-request-in-Some.ensures.request meaning has) ∙ ap (request_behind meaning c.args.client c.args.table c.args.row.now) (sym is))
