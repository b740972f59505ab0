use Rattle.gate_host.proofs.Declared.{made_is}
use Rattle.gate_host.proofs.placing.directory.Goals as goal

pub returns : goal.returns
returns c stores schemas d = made_is stores schemas c.args.ring.now c.args.tables.now d c.new.result c.new.ensures.placed c.new.ensures.owners c.new.ensures.ordered
