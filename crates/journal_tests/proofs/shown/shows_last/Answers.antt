use Rattle.journal_tests.proofs.Moves.{known_stays}
use Rattle.journal_tests.proofs.shown.shows_last.Goals as goal

pub last_number-requires : goal.last_number-requires
last_number-requires g c up = c.requires.starting.looked

pub returns : goal.returns
returns g c = known_stays g.D.Disk.state g.D.Disk.images c.args.client.now c.last_number.new.self _ c.in_ok-last.ensures.asks c.requires
