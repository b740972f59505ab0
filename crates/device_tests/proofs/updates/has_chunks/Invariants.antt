use Rattle.chunk_store.specs.Standing.{IsLookedAt}
use Rattle.device_tests.proofs.updates.has_chunks.Given as goal

abbrev pub invariant-loop-pair : goal.invariant-loop-pair
invariant-loop-pair g l = IsLookedAt g.D.Disk.state l.dev
