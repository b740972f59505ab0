use Rattle.std.proofs.Common.{◌≡◌, ◌∷◌, [], ℕ, List, inl, inr, ⊎_elim, Ok, Err, refl, sym, ◌∙◌, ap, subst}
use Rattle.std.proofs.lemmas.Result.{err_from_is_err_and}
use Rattle.std.proofs.lemmas.Result.{IfOk-weaker}
use Rattle.client_journal.specs.Standing.{devs}
use Rattle.client_node.specs.declared.fault.CallFault.TheVariants as call
use Rattle.client_node.proofs.PreparedResolves.{resolved_ok, unchosen_err}
use Rattle.client_node.proofs.Serving.{looks_none}
use Rattle.client_node.proofs.calls.resolving.resolve_row.Goals as goal

pub returns-in_err-check_seen-clause-looks : goal.returns-in_err-check_seen-clause-looks
returns-in_err-check_seen-clause-looks g c =
    let p = err_from_is_err_and c.from_residual.result c.from_residual.ensures.1 in
    let is = c.in_err-check_seen.ensures.moved.1 in
    rw (p.1, p.2, is) (looks_none g.D.Disk.state g.D.Disk.images g.met.D.Disk.only_now c.args.devs.now c.requires.up c.requires.ready _ (λ no. cc))

pub returns-in_err-check_seen-clause-refused : goal.returns-in_err-check_seen-clause-refused
returns-in_err-check_seen-clause-refused g c =
    let p = err_from_is_err_and c.from_residual.result c.from_residual.ensures.1 in
    let b = c.in_err-check_seen.ensures.moved in
    rw (p.1, p.2) (inr (inl (record { main = c.in-Some.main; main_is = c.in-Some.is; x = c.in-Some-conflict.row; conflict_is = c.in-Some-conflict.is; other = b.0; fault = b.1 })))

pub returns-clause-resolved : goal.returns-clause-resolved
returns-clause-resolved g c =
    resolved_ok (devs g.D.Disk.state c.args.devs.now) c.args.client c.args.at.now c.args.seen c.args.choice c.in-Some.main c.in-Some.is c.in-Some-conflict.row c.in-Some-conflict.is c.in_ok-check_seen.ensures.same c.choose.result c.choose.ensures.chosen

pub returns-clause-refused : goal.returns-clause-refused
returns-clause-refused g c =
    unchosen_err (devs g.D.Disk.state c.args.devs.now) c.args.client c.args.at.now c.args.seen c.args.choice c.in-Some.main c.in-Some.is c.in-Some-conflict.row c.in-Some-conflict.is c.in_ok-check_seen.ensures.same c.choose.result c.choose.ensures.refused

pub returns-in_default-clause-looks : goal.returns-in_default-clause-looks
returns-in_default-clause-looks g c = looks_none g.D.Disk.state g.D.Disk.images g.met.D.Disk.only_now c.args.devs.now c.requires.up c.requires.ready _ (λ no. cc)

pub returns-in_default-conflict-clause-looks : goal.returns-in_default-conflict-clause-looks
returns-in_default-conflict-clause-looks g c = looks_none g.D.Disk.state g.D.Disk.images g.met.D.Disk.only_now c.args.devs.now c.requires.up c.requires.ready _ (λ no. cc)
