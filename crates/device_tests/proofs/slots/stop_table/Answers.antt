use Rattle.std.proofs.Common.{subst}
use Rattle.disk_trait.specs.Fuse.{behind}
use Rattle.slot_store.specs.Standing.{HasRoom}
use Rattle.device_tests.proofs.slots.stop_table.Goals as goal

pub put_record-requires-clause-room : goal.put_record-requires-clause-room
put_record-requires-clause-room g c up =
    let n = c.in_ok-size.size in
    subst (HasRoom (behind g.D.Disk.state) c.stop_after.new.self 0 1) c.in_ok-size.ensures
    (c.stop_after.ensures.stops.stays.room 0 1 n (c.in_ok-open_write.ensures.opens.room 0 1 n c.in_ok-reserve.ensures.reserves.room))
