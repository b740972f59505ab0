use Rattle.chunk_store.specs.Standing.{IsLookedAt}
use Rattle.device_tests.proofs.chunks.holds.Given as goal

abbrev pub invariant-loop-name : goal.invariant-loop-name
invariant-loop-name g l = IsLookedAt g.D.Disk.state l.dev
