use Rattle.device_laws.proofs.Beside.{state_follows, sub_follows}
use Rattle.device_laws.proofs.puts_beside_follow_the_table.Goals as goal

pub returns-clause-state : goal.returns-clause-state
returns-clause-state c = state_follows

pub returns-clause-sub : goal.returns-clause-sub
returns-clause-sub c = sub_follows
