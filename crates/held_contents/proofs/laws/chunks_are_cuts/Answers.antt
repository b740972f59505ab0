use Rattle.held_contents.proofs.HeldCuts.{content_cut, shadow_read, content_count}
use Rattle.held_contents.proofs.laws.chunks_are_cuts.Goals as goal

pub returns-clause-cut : goal.returns-clause-cut
returns-clause-cut k = λ meaning size held some right. content_cut meaning size some held right

pub returns-clause-read : goal.returns-clause-read
returns-clause-read k = λ meaning size shadow some right. shadow_read meaning size some shadow right

pub returns-clause-count : goal.returns-clause-count
returns-clause-count k = content_count
