use Rattle.std.proofs.Common.{arith}
use Rattle.disk_trait.specs.Fuse.{behind}
use Rattle.vault.proofs.Uppers.{less_room}
use Rattle.vault_tests.proofs.tests.break_down.Goals as goal

pub append-requires-clause-room : goal.append-requires-clause-room
append-requires-clause-room g c up =
    less_room (behind g.D.Disk.state) c.stop_after.new.self 1 1 1 0 1 1 (omega arith) (omega arith) (omega arith) (c.stop_after.ensures.stays.room 1 1 1 c.in_ok-reserve.ensures.room)
