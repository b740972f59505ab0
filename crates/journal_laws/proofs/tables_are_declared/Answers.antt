use Rattle.journal_laws.proofs.Declares.{declared}
use Rattle.journal_laws.proofs.tables_are_declared.Goals as goal

pub returns-clause-declared : goal.returns-clause-declared
returns-clause-declared k = declared
