use Rattle.part_laws.proofs.Answers.{answered_alike}
use Rattle.part_laws.proofs.some_requests_are_answered_by_lengths.Goals as goal

pub returns : goal.returns
returns c = λ store size table g d from q other same is. answered_alike g size table d from q other same is
