use Rattle.device_tests.proofs.logs.stop_close.Goals as goal

pub close_entry-requires-clause-room : goal.close_entry-requires-clause-room
close_entry-requires-clause-room g c up = c.stop_after.ensures.stays.room 0 1 9 (c.in_ok-open_write.ensures.room 0 1 9 c.in_ok-reserve.ensures.room)
