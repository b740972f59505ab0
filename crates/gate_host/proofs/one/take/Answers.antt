use Rattle.std.proofs.Common.{refl, ap}
use Rattle.std.proofs.lemmas.Result.{err_from_is_err_and}
use Rattle.gateway_core.specs.declared.gate_fault.GateFault.TheVariants.{Spent}
use Rattle.gate_tables.specs.Gate.{Gateway}
use Rattle.gate_host.proofs.Standing.{fault_alike, none_alike}
use Rattle.gate_host.proofs.one.take.Goals as goal

pub returns-in_err-deliver-clause-spent : goal.returns-in_err-deliver-clause-spent
returns-in_err-deliver-clause-spent c directory number starts running at last =
    let p = err_from_is_err_and c.from_residual.result c.from_residual.ensures.1 in
    fault_alike _ c.from_residual.result _ (Spent last) _ refl (rw (p.1, p.2) refl) (c.in_err-deliver.ensures.spent running (ap (λ (s : Gateway). s.running) at.stands) last)

pub returns-clause-spent : goal.returns-clause-spent
returns-clause-spent c directory number starts running at last =
    none_alike _ _ _ c.take_out.result.messages (Spent last) _ refl refl (c.in_ok-deliver.ensures.spent running (ap (λ (s : Gateway). s.running) at.stands) last)
