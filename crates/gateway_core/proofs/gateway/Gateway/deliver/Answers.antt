use Rattle.std.proofs.Common.{◌≡◌, Some, sym, ◌∙◌}
use Rattle.gateway_core.proofs.gateway.Gateway.deliver.Goals as goal

pub returns-clause-spent : goal.returns-clause-spent
returns-clause-spent c = λ running is last.
    let both : Some running ≡ Some c.in-Some.running = sym is ∙ c.in-Some.is in
    let same : running ≡ c.in-Some.running = cc in
    rw same (c.deliver.ensures.spent last)
