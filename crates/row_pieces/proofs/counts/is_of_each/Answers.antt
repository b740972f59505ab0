use Rattle.std.proofs.Common.{◌∙◌}
use Rattle.row_pieces.proofs.Countings.{of_none}
use Rattle.row_pieces.proofs.counts.is_of_each.Goals as goal

pub returns-in-Gone : goal.returns-in-Gone
returns-in-Gone g c = rw c.in-Gone.is (c.is_empty.ensures ∙ of_none c.args.size c.args.said.now)
