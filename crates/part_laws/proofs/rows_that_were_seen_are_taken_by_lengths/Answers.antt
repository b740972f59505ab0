use Rattle.part_laws.proofs.Answers.{seen_alike}
use Rattle.part_laws.proofs.rows_that_were_seen_are_taken_by_lengths.Goals as goal

pub returns : goal.returns
returns c = λ c shape d opened p h other same there is. seen_alike c shape d opened p h other same is there
