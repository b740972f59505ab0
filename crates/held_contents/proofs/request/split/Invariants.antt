use Rattle.std.proofs.Common.{◌≡◌, ◌++◌, drop}
use Rattle.journal_laws.specs.Whole.{split_by}
use Rattle.held_contents.proofs.request.split.Given as goal

abbrev pub invariant-loop-object : goal.invariant-loop-object
invariant-loop-object l = l.made ++ split_by (drop l.object-index l.objects) l.left ≡ split_by l.objects l.fn.pieces
