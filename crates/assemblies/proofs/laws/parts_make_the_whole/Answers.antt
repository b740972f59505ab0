use Rattle.assemblies.proofs.Joins.{parts_whole}
use Rattle.assemblies.proofs.laws.parts_make_the_whole.Goals as goal

pub returns : goal.returns
returns c = parts_whole
