use Rattle.send_laws.proofs.Gathering.{gathered_at_store, gathered_at_client}
use Rattle.send_laws.proofs.framed_parts_may_be_gathered.Goals as goal

pub returns : goal.returns
returns k = λ p f. (gathered_at_store p f, gathered_at_client p f)
