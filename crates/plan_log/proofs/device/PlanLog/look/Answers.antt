use Rattle.std.proofs.Common.{ap}
use Rattle.plan_log.specs.Journal.{journal_of}
use Rattle.plan_log.specs.Memory.{Fits, HasSpare}
use Rattle.plan_log.specs.Fault.{fault_of}
use Rattle.plan_log.proofs.Faults.{apart}
use Rattle.vault.proofs.Devices.{looks_as}
use Rattle.plan_log.proofs.device.PlanLog.look.Goals as goal

pub returns : goal.returns
returns g c =
    let old = c.args.self.now in
    rw c.told.ensures (looks_as g.D.Disk.state g.D.Disk.images Fits HasSpare journal_of fault_of apart old.inner c.look.new.self old _ (λ same. ap (λ inner. record old { inner = inner }) same)
    c.look.result c.look.ensures)
