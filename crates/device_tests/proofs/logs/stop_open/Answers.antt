use Rattle.std.proofs.Common.{◌≡◌, ◌+◌, ◌*◌, subst, arith}
use Rattle.disk_trait.specs.Fuse.{behind}
use Rattle.status_log.specs.Entry.{entry_of, size_of}
use Rattle.status_log.specs.Standing.{HasRoom}
use Rattle.device_tests.proofs.logs.stop_open.Goals as goal

pub open_entry-requires-clause-room : goal.open_entry-requires-clause-room
open_entry-requires-clause-room g c up =
    let n = 53 + 12 * c.len.result in
    let same : n ≡ size_of (entry_of c.args.entry.now) = omega (arith, c.len.ensures) in
    subst (HasRoom (behind g.D.Disk.state) c.stop_after.new.self 0 1) same (c.stop_after.ensures.stays.room 0 1 n (c.in_ok-open_write.ensures.room 0 1 n c.in_ok-reserve.ensures.room))
