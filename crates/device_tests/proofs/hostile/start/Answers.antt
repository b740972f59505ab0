use Rattle.device_tests.proofs.Stands.{known, known_stays}
use Rattle.device_tests.proofs.hostile.start.Goals as goal

pub scan-requires : goal.scan-requires
scan-requires g c up = c.in_ok-look.ensures.looked

pub returns : goal.returns
returns g c = known_stays g.D.Disk.state g.D.Disk.images c.look.new.self c.scan.new.self c.scan.result c.scan.ensures.asks (known g.D.Disk.state g.D.Disk.images c.look.new.self c.in_ok-look.ensures.looked)
