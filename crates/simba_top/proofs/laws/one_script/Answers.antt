use Rattle.simba_top.proofs.Fronts.{same_script}
use Rattle.simba_top.proofs.Grammars.{grammar}
use Rattle.simba_top.proofs.laws.one_script.Goals as goal

pub returns : goal.returns
returns c = same_script grammar
