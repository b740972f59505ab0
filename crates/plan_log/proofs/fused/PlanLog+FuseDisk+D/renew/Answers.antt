use Rattle.vault.proofs.Renewals.{renews_as}
use Rattle.plan_log.specs.Memory.{Fits, HasSpare}
use Rattle.plan_log.specs.Journal.{journal_of}
use Rattle.plan_log.proofs.fused.PlanLog+FuseDisk+D.renew.Goals as goal

pub returns : goal.returns
returns g c = renews_as g.D.Disk.state g.D.Disk.images Fits HasSpare journal_of c.args.self.now.inner _ c.renew.ensures
