use Rattle.vault.proofs.Renewals.{renews_as}
use Rattle.slot_store.specs.Memory.{Fits, HasSpare}
use Rattle.slot_store.specs.Data.{data_of}
use Rattle.slot_store.proofs.fused.SlotDev+FuseDisk+D.renew.Goals as goal

pub returns-clause-renews : goal.returns-clause-renews
returns-clause-renews g c = renews_as g.D.Disk.state g.D.Disk.images Fits HasSpare data_of c.args.self.now.inner _ c.renew.ensures
