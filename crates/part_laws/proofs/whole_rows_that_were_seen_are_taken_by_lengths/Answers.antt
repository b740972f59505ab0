use Rattle.part_laws.proofs.Answers.{whole_alike}
use Rattle.part_laws.proofs.whole_rows_that_were_seen_are_taken_by_lengths.Goals as goal

pub returns : goal.returns
returns c = λ c shape d opened t h other same there is. whole_alike c shape d opened t h other same is there
