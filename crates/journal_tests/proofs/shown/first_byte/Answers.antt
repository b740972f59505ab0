use Rattle.journal_tests.proofs.Moves.{known_stays}
use Rattle.journal_tests.proofs.shown.first_byte.Goals as goal

pub chunk-requires : goal.chunk-requires
chunk-requires g c up = c.requires.starting.looked

pub returns-in-Some : goal.returns-in-Some
returns-in-Some g c = known_stays g.D.Disk.state g.D.Disk.images c.args.client.now c.chunk.new.self _ c.in_ok-found.ensures.asks c.requires

pub returns : goal.returns
returns g c = known_stays g.D.Disk.state g.D.Disk.images c.args.client.now c.chunk.new.self _ c.in_ok-found.ensures.asks c.requires
