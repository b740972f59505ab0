use Rattle.journal_host.proofs.Alone.{take_follows, take_held, take_busy, take_idle}
use Rattle.journal_host.proofs.laws.messages_are_followed.Goals as goal

pub returns-clause-follows : goal.returns-clause-follows
returns-clause-follows c = λ w c message shape luck. take_follows w c message shape luck

pub returns-clause-held : goal.returns-clause-held
returns-clause-held c = λ w c message shape luck h. take_held w c message shape luck h

pub returns-clause-busy : goal.returns-clause-busy
returns-clause-busy c = λ w c message shape luck h. take_busy w c message shape luck h

pub returns-clause-idle : goal.returns-clause-idle
returns-clause-idle c = λ w c message shape luck h k. take_idle w c message shape luck h k
