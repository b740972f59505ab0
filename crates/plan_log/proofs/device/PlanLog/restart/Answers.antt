use Rattle.plan_log.specs.Journal.{journal_of}
use Rattle.plan_log.specs.Memory.{Fits, HasSpare}
use Rattle.vault.proofs.Devices.{restarts_as}
use Rattle.plan_log.proofs.device.PlanLog.restart.Goals as goal

pub returns-clause-restarts : goal.returns-clause-restarts
returns-clause-restarts g c =
    restarts_as g.D.Disk.state g.D.Disk.images Fits HasSpare journal_of g.met.D.Disk.counts_now c.args.self.now.inner c.restart.new.self c.restart.ensures.image c.restart.ensures.time
    c.restart.ensures.restarts
