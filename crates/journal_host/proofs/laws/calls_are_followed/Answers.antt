use Rattle.journal_host.proofs.Alone.{call_follows, call_held, call_busy, call_idle}
use Rattle.journal_host.proofs.laws.calls_are_followed.Goals as goal

pub returns-clause-follows : goal.returns-clause-follows
returns-clause-follows c = λ w c move shape luck. call_follows w c move shape luck

pub returns-clause-held : goal.returns-clause-held
returns-clause-held c = λ w c move shape luck h. call_held w c move shape luck h

pub returns-clause-busy : goal.returns-clause-busy
returns-clause-busy c = λ w c move shape luck h. call_busy w c move shape luck h

pub returns-clause-idle : goal.returns-clause-idle
returns-clause-idle c = λ w c move shape luck h k. call_idle w c move shape luck h k
