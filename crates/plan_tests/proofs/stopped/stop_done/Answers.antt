use Rattle.plan_tests.proofs.stopped.stop_done.Goals as goal

pub done-requires-clause-room : goal.done-requires-clause-room
done-requires-clause-room g c up = c.stop_after.ensures.stays.room 0 1 9 (c.in_ok-open_write.ensures.room 0 1 9 c.in_ok-reserve.ensures.room)
