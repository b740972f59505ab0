use Rattle.store_commit.specs.Standing.{AreUp}
use Rattle.device_tests.proofs.updates.start_recovery.Goals as goal

pub recover-requires : goal.recover-requires
recover-requires g c up =
    let look = c.in_ok-look.ensures in
    record { looked = look.looked; sound = look.sound c.requires.sound; openings = look.room; idle = cc (look.agenda, c.requires.idle) }

pub returns : goal.returns
returns g c =
    let looked = c.in_ok-look.ensures.looked in
    let up : AreUp c.look.new.self = record { chunks = looked.chunks.vault.up; rows = looked.rows.vault.up; log = looked.log.vault.up } in
    let recovers = c.in_ok-recover.ensures.recovers up in
    record { up = recovers.up; ready = recovers.ready }
