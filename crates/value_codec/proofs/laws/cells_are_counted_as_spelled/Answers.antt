use Rattle.value_codec.proofs.Counts.{cells_counted}
use Rattle.value_codec.proofs.laws.cells_are_counted_as_spelled.Goals as goal

pub returns : goal.returns
returns c = cells_counted
