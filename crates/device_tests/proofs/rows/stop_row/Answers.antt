use Rattle.std.proofs.Common.{◌≡◌, length, subst}
use Rattle.disk_trait.specs.Fuse.{behind}
use Rattle.row_store.specs.Spelling.{row_payload}
use Rattle.row_store.specs.Standing.{HasRoom}
use Rattle.device_tests.proofs.rows.stop_row.Goals as goal

pub put_row-requires-clause-room : goal.put_row-requires-clause-room
put_row-requires-clause-room g c up =
    let n = c.in-Some.size in
    let same : n ≡ length (row_payload c.args.stored) = c.in-Some.ensures.0 in
    subst (HasRoom (behind g.D.Disk.state) c.stop_after.new.self 0 1) same (c.stop_after.ensures.stops.stays.room 0 1 n (c.in_ok-open_write.ensures.opens.room 0 1 n c.in_ok-reserve.ensures.reserves.room))
