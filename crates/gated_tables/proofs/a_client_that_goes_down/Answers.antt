use Rattle.std.proofs.Common.{refl}
use Rattle.gated_tables.proofs.a_client_that_goes_down.Goals as goal

pub returns : goal.returns
returns c = refl
