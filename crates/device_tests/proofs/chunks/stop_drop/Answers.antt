use Rattle.device_tests.proofs.chunks.stop_drop.Goals as goal

pub drop_chunk-requires-clause-room : goal.drop_chunk-requires-clause-room
drop_chunk-requires-clause-room g c up = c.stop_after.ensures.stays.room 0 1 13 (c.in_ok-open_write.ensures.room 0 1 13 c.in_ok-reserve.ensures.room)
