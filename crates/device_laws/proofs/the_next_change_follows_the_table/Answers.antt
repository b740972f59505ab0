use Rattle.device_laws.proofs.Next.{changed_is, next_stands}
use Rattle.device_laws.proofs.the_next_change_follows_the_table.Goals as goal

pub returns-clause-next : goal.returns-clause-next
returns-clause-next c = λ schema d disk position next st k. changed_is position schema d disk st next k

pub returns-clause-last : goal.returns-clause-last
returns-clause-last c = λ schema d disk position item st is. next_stands position schema d disk st item is
