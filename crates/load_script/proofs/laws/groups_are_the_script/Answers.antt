use Rattle.load_script.proofs.InOrder.{groups_are}
use Rattle.load_script.proofs.laws.groups_are_the_script.Goals as goal

pub returns : goal.returns
returns c = groups_are
