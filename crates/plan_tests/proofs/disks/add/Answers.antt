use Rattle.std.proofs.Common.{length}
use Rattle.plan_tests.proofs.disks.add.Goals as goal

pub append-requires-clause-room : goal.append-requires-clause-room
append-requires-clause-room g c up = c.in_ok-open_write.ensures.room 0 1 (length c.args.payload.now) c.in_ok-reserve.ensures.room
