use Rattle.vault.proofs.Renewals.{renews_as}
use Rattle.status_log.specs.Memory.{Fits, HasSpare}
use Rattle.status_log.specs.Payload.{pending_of}
use Rattle.status_log.proofs.fused.StatusLog+FuseDisk+D.renew.Goals as goal

pub returns : goal.returns
returns g c = renews_as g.D.Disk.state g.D.Disk.images Fits HasSpare pending_of c.args.self.now.inner _ c.renew.ensures
