use Rattle.journal_laws.proofs.Stays.{stays}
use Rattle.journal_laws.proofs.slots_stay_held.Goals as goal

pub returns : goal.returns
returns k = stays
