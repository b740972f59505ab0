use Rattle.device_laws.proofs.Empty.{nothing_stands}
use Rattle.device_laws.proofs.a_table_without_a_row_stands.Goals as goal

pub returns : goal.returns
returns c = nothing_stands
