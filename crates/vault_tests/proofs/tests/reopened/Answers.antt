use Rattle.vault_tests.proofs.tests.reopened.Goals as goal

pub append-requires-clause-room : goal.append-requires-clause-room
append-requires-clause-room c up = c.in_ok-open_write.ensures.room 0 1 1 c.in_ok-reserve.ensures.room
