use Rattle.std.proofs.Common.{arith}
use Rattle.load_script.proofs.Declaring.{all_made}
use Rattle.load_script.proofs.groups.declarations.Goals as goal

pub returns : goal.returns
returns c = all_made _ c.loop-client.client (omega arith) c.loop-client.invariant
