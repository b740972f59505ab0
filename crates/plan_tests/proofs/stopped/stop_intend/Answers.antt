use Rattle.plan_tests.proofs.stopped.stop_intend.Goals as goal

pub intend-requires-clause-room : goal.intend-requires-clause-room
intend-requires-clause-room g c up = c.stop_after.ensures.stays.room 0 1 34 (c.in_ok-open_write.ensures.room 0 1 34 c.in_ok-reserve.ensures.room)
