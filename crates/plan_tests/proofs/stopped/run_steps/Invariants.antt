use Rattle.disk_trait.specs.Fuse.{behind}
use Rattle.plan_log.specs.Standing.{IsLookedAt}
use Rattle.plan_tests.proofs.stopped.run_steps.Given as goal

abbrev pub invariant-loop-index : goal.invariant-loop-index
invariant-loop-index g l = IsLookedAt (behind g.D.Disk.state) l.log
