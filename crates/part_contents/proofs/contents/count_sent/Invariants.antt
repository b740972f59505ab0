use Rattle.std.proofs.Common.{◌≡◌, ◌≤◌, take}
use Rattle.std.specs.Prelude.{count_by}
use Rattle.assemblies.specs.Travel.{is_sent}
use Rattle.part_contents.proofs.contents.count_sent.Given as goal

abbrev pub invariant-loop-piece : goal.invariant-loop-piece
invariant-loop-piece l = (l.count ≡ count_by (is_sent l.sent) (take l.piece-index l.pieces)) × (l.count ≤ l.piece-index)
