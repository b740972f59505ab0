use Rattle.journal_laws.proofs.Seen.{seen_held}
use Rattle.journal_laws.proofs.what_is_redone_is_what_is_seen.Goals as goal

pub returns : goal.returns
returns k = seen_held
