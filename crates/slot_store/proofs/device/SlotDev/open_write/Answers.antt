use Rattle.std.proofs.Common.{ap}
use Rattle.slot_store.specs.Data.{data_of}
use Rattle.slot_store.specs.Memory.{Fits, HasSpare}
use Rattle.slot_store.specs.Fault.{fault_of}
use Rattle.slot_store.proofs.Faults.{apart}
use Rattle.vault.proofs.Devices.{opens_as}
use Rattle.slot_store.proofs.device.SlotDev.open_write.Goals as goal

pub returns-clause-opens : goal.returns-clause-opens
returns-clause-opens g c =
    let old = c.args.self.now in
    rw c.told.ensures (opens_as g.D.Disk.state g.D.Disk.images Fits HasSpare data_of fault_of apart old.inner c.open_write.new.self old _ (λ same. ap (λ inner. record old { inner = inner }) same)
    c.open_write.result c.open_write.ensures.opens)
