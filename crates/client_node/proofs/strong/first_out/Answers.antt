use Rattle.std.proofs.Common.{ℕ, List, Option, Result, Ok, Err, inr, refl, sym, ap, subst, ◌∙◌, ◌≡◌}
use Rattle.std.specs.Prelude.{IfOk, option_map}
use Rattle.std.proofs.lemmas.Result.{err_from_is_err_and, IfOk-weaker}
use Rattle.client_journal.specs.Standing.{devs}
use Rattle.client_node.specs.declared.fault.CallFault.TheVariants as call
use Rattle.client_node.specs.Requesting.{first_out, IsFirstOut}
use Rattle.client_node.proofs.Serving.{looks_none}
use Rattle.client_node.proofs.strong.first_out.Goals as goal

pub returns-in_err-rows-clause-looks : goal.returns-in_err-rows-clause-looks
returns-in_err-rows-clause-looks g c =
    let p = err_from_is_err_and c.from_residual.result c.from_residual.ensures.1 in
    rw (p.1, p.2) (looks_none g.D.Disk.state g.D.Disk.images g.met.D.Disk.only_now c.args.devs.now c.requires.up c.requires.ready (Err call.Memory) (λ no. cc))

pub returns-clause-first : goal.returns-clause-first
returns-clause-first g c =
    let rows = c.in_ok-rows.rows.items in
    let is = c.as_slice.ensures.value in
    IfOk-weaker c.first_of.result _ (IsFirstOut (devs g.D.Disk.state c.args.devs.now) c.args.table c.args.outs.now)
    (λ found same. record { rows = rows; noted = c.in_ok-rows.ensures; is = same ∙ ap (λ (l : List (List ℕ)). option_map (λ out. out.number) (first_out (devs g.D.Disk.state c.args.devs.now) c.args.table l)) is })
    c.first_of.ensures.found
