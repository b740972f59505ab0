use Rattle.device_tests.proofs.rows.stop_sub.Goals as goal

pub put_sub-requires-clause-room : goal.put_sub-requires-clause-room
put_sub-requires-clause-room g c up = c.stop_after.ensures.stops.stays.room 0 1 18 (c.in_ok-open_write.ensures.opens.room 0 1 18 c.in_ok-reserve.ensures.reserves.room)
