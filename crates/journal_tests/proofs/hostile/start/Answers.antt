use Rattle.journal_tests.proofs.Looked.{still_looked}
use Rattle.journal_tests.proofs.hostile.start.Goals as goal

pub scan-requires : goal.scan-requires
scan-requires g c up = c.in_ok-look.ensures.looked

pub returns : goal.returns
returns g c = still_looked g.D.Disk.state g.D.Disk.images c.look.new.self c.scan.new.self c.scan.result c.scan.ensures.asks c.in_ok-look.ensures.looked
