use Rattle.std.proofs.Common.{◌∙◌}
use Rattle.store_host.proofs.Renewing.{owner_found}
use Rattle.store_host.proofs.joining.owner_in.Goals as goal

pub returns : goal.returns
returns c stores is = c.unwrap_or.ensures ∙ owner_found stores c.args.name.now c.args.ring.now c.owner.result is c.owner.ensures.none c.owner.ensures.owner
