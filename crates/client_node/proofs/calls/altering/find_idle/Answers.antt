use Rattle.std.proofs.Common.{inl, inr}
use Rattle.std.proofs.lemmas.Result.{err_from_is_err_and, IfErr-weaker}
use Rattle.client_node.proofs.Serving.{looks_none}
use Rattle.client_node.proofs.Syncs.{on_ok}
use Rattle.client_node.proofs.calls.altering.find_idle.Goals as goal

pub returns-in_err-check_idle-clause-looks : goal.returns-in_err-check_idle-clause-looks
returns-in_err-check_idle-clause-looks g c =
    let p = err_from_is_err_and c.from_residual.result c.from_residual.ensures.1 in
    let is = c.in_err-check_idle.ensures.busy.1 in
    rw (p.1, p.2, is) (looks_none g.D.Disk.state g.D.Disk.images g.met.D.Disk.only_now c.args.devs.now c.requires.up c.requires.ready _ (λ no. cc))

pub returns-in_err-check_idle-clause-refused : goal.returns-in_err-check_idle-clause-refused
returns-in_err-check_idle-clause-refused g c =
    let p = err_from_is_err_and c.from_residual.result c.from_residual.ensures.1 in
    rw (p.1, p.2) (inl c.in_err-check_idle.ensures.busy)

pub returns-clause-idle : goal.returns-clause-idle
returns-clause-idle g c = on_ok c.find_table.result c.in_ok-check_idle.ensures.idle

pub returns-clause-refused : goal.returns-clause-refused
returns-clause-refused g c = IfErr-weaker c.find_table.result _ _ (λ e fault. inr fault) c.find_table.ensures.refused
