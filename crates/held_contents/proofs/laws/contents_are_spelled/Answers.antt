use Rattle.held_contents.proofs.HeldCuts.{held_spelled, content_spelled, cut_count_held}
use Rattle.held_contents.proofs.laws.contents_are_spelled.Goals as goal

pub returns-clause-held : goal.returns-clause-held
returns-clause-held k = held_spelled

pub returns-clause-content : goal.returns-clause-content
returns-clause-content k = content_spelled

pub returns-clause-count : goal.returns-clause-count
returns-clause-count k = cut_count_held
