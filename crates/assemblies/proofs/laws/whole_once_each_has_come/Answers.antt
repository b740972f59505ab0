use Rattle.assemblies.proofs.Mixes.{whole_when_brought}
use Rattle.assemblies.proofs.laws.whole_once_each_has_come.Goals as goal

pub returns : goal.returns
returns c = whole_when_brought
