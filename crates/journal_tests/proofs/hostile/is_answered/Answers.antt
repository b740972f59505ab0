use Rattle.journal_tests.proofs.Looked.{still_looked}
use Rattle.journal_tests.proofs.hostile.is_answered.Goals as goal

pub shown_slots-requires : goal.shown_slots-requires
shown_slots-requires g c up = c.requires

pub returns : goal.returns
returns g c = still_looked g.D.Disk.state g.D.Disk.images c.args.client.now c.shown_slots.new.self _ c.in_ok-found.ensures.asks c.requires
