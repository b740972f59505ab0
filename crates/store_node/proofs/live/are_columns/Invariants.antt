use Rattle.std.proofs.Common.{◌≡◌, take, length}
use Rattle.store_node.proofs.live.are_columns.Given as goal

abbrev pub invariant-loop-place : goal.invariant-loop-place
invariant-loop-place l = (take l.place l.found ≡ take l.place l.columns) × (length l.found ≡ length l.columns)
