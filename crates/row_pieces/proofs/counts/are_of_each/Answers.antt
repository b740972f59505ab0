use Rattle.std.proofs.Common.{sym}
use Rattle.row_pieces.proofs.Countings.{other_count}
use Rattle.row_pieces.proofs.counts.are_of_each.Goals as goal

pub returns-then-said-objects : goal.returns-then-said-objects
returns-then-said-objects g c = sym (other_count c.args.size c.args.said.now c.args.objects.now c.if-said-objects.true)
