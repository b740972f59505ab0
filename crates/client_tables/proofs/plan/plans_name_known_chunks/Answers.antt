use Rattle.client_tables.proofs.KnownNames.{known_behind}
use Rattle.client_tables.proofs.plan.plans_name_known_chunks.Goals as goal

pub returns : goal.returns
returns c = known_behind
