use Rattle.std.proofs.Common.{List, sym, subst}
use Rattle.client_journal.specs.Devs.{Write}
use Rattle.step_tables.specs.ClientMoves.{resumed}
use Rattle.journal_laws.specs.Holds.{Follows}
use Rattle.journal_laws.specs.Moves.{tasks_of}
use Rattle.journal_laws.proofs.Starts.{start_follows}
use Rattle.journal_laws.proofs.a_recovery_follows.Goals as goal

pub returns : goal.returns
returns k = λ c meaning d disk writes shape st recovery s.
    subst (λ (ws : List Write). Follows c meaning d ws disk (tasks_of (resumed c shape disk disk.plan))) (sym recovery.2) (start_follows c meaning d disk recovery.0 shape _ st recovery.1 s)
