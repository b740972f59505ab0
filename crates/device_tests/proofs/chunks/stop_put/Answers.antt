use Rattle.std.proofs.Common.{◌+◌, length}
use Rattle.device_tests.proofs.chunks.stop_put.Goals as goal

pub put-requires-clause-room : goal.put-requires-clause-room
put-requires-clause-room g c up =
    let n = 13 + length c.args.bytes.now in
    c.stop_after.ensures.stays.room 0 1 n (c.in_ok-open_write.ensures.room 0 1 n c.in_ok-reserve.ensures.room)
