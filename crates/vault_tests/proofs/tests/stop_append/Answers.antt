use Rattle.vault_tests.proofs.tests.stop_append.Goals as goal

pub append-answer-requires-clause-room : goal.append-answer-requires-clause-room
append-answer-requires-clause-room g c up = c.stop_after.ensures.stays.room 0 1 5 (c.in_ok-open_write.ensures.room 0 1 5 c.in_ok-reserve.ensures.room)
