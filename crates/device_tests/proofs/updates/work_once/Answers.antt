use Rattle.std.proofs.Common.{refl}
use Rattle.device_tests.proofs.Stands.{works_on}
use Rattle.device_tests.proofs.updates.work_once.Goals as goal

pub returns : goal.returns
returns g c = works_on g.D.Disk.state g.D.Disk.images _ c.work.new.self c.work.result _ refl (c.work.ensures.works c.requires.up) c.requires
