use Rattle.journal_tests.proofs.Moves.{known_stays}
use Rattle.journal_tests.proofs.shown.shows_rows.Goals as goal

pub rows_of-requires : goal.rows_of-requires
rows_of-requires g c up = c.requires.starting.looked

pub returns : goal.returns
returns g c = known_stays g.D.Disk.state g.D.Disk.images c.args.client.now c.rows_of.new.self _ c.in_ok-rows.ensures.asks c.requires
