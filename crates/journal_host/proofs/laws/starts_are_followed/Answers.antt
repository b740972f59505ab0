use Rattle.journal_host.proofs.Alone.{start_follows, start_up}
use Rattle.journal_host.proofs.laws.starts_are_followed.Goals as goal

pub returns-clause-down : goal.returns-clause-down
returns-clause-down c = λ w c shape luck h. start_follows w c shape luck h

pub returns-clause-up : goal.returns-clause-up
returns-clause-up c = λ w c shape luck h. start_up w c shape luck h
