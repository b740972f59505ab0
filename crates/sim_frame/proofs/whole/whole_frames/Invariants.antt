use Rattle.std.proofs.Common.{length, ◌-◌}
use Rattle.sim_frame.specs.Opening.{AreFrames}
use Rattle.sim_frame.proofs.whole.whole_frames.Given as goal

abbrev pub invariant-frames : goal.invariant-frames
invariant-frames l = AreFrames l.bytes l.frames.items l.behind

abbrev pub decreases-frames : goal.decreases-frames
decreases-frames l = length l.bytes - l.behind
