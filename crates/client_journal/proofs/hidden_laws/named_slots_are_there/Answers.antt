use Rattle.client_journal.proofs.Wholes.{whole_shown}
use Rattle.client_journal.proofs.hidden_laws.named_slots_are_there.Goals as goal

pub returns : goal.returns
returns c meaning d named whole rising = whole_shown meaning d named whole rising
