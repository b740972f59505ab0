use Rattle.disk_trait.specs.Fuse.{behind}
use Rattle.slot_store.specs.Standing.{IsLookedAt}
use Rattle.device_tests.proofs.slots.run_steps.Given as goal

abbrev pub invariant-loop-index : goal.invariant-loop-index
invariant-loop-index g l = IsLookedAt (behind g.D.Disk.state) l.dev
