use Rattle.std.proofs.Common.{◌-◌, length}
use Rattle.frame_bench.proofs.feed_pieces.Given as goal

abbrev pub decreases-loop-place : goal.decreases-loop-place
decreases-loop-place l = length l.bytes - l.place
