use Rattle.std.proofs.Common.{ℕ, subst}
use Rattle.disk_trait.specs.Fuse.{behind}
use Rattle.plan_log.specs.Standing.{HasRoom}
use Rattle.plan_tests.proofs.stopped.stop_commit.Goals as goal

pub commit-requires-clause-room : goal.commit-requires-clause-room
commit-requires-clause-room g c up =
    let n : ℕ = c.in_ok-size.size in
    subst (HasRoom (behind g.D.Disk.state) c.stop_after.new.self 0 1) c.in_ok-size.ensures (c.stop_after.ensures.stays.room 0 1 n (c.in_ok-open_write.ensures.room 0 1 n c.in_ok-reserve.ensures.room))
