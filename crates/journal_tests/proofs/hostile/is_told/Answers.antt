use Rattle.journal_tests.proofs.Looked.{still_looked}
use Rattle.journal_tests.proofs.hostile.is_told.Goals as goal

pub shown_rows_of-requires : goal.shown_rows_of-requires
shown_rows_of-requires g c up = c.requires

pub returns : goal.returns
returns g c = still_looked g.D.Disk.state g.D.Disk.images c.args.client.now c.shown_rows_of.new.self _ c.in_ok-rows.ensures.asks c.requires
