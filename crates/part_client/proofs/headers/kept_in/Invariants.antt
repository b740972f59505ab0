use Rattle.std.proofs.Common.{◌≡◌, ◌++◌, drop}
use Rattle.step_tables.specs.Chunks.{kept_in}
use Rattle.part_client.proofs.headers.kept_in.Given as goal

abbrev pub invariant-loop-piece : goal.invariant-loop-piece
invariant-loop-piece l = l.kept ++ kept_in (drop l.piece-index l.pieces) ≡ kept_in l.pieces
