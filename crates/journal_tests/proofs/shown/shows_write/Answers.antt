use Rattle.journal_tests.proofs.Moves.{known_stays}
use Rattle.journal_tests.proofs.shown.shows_write.Goals as goal

pub slots-requires : goal.slots-requires
slots-requires g c up = c.requires.starting.looked

pub returns : goal.returns
returns g c = known_stays g.D.Disk.state g.D.Disk.images c.args.client.now c.slots.new.self _ c.in_ok-found.ensures.asks c.requires
