use Rattle.std.proofs.Common.{ap}
use Rattle.slot_store.specs.Data.{data_of}
use Rattle.slot_store.specs.Memory.{Fits, HasSpare}
use Rattle.slot_store.specs.Fault.{fault_of}
use Rattle.slot_store.proofs.Faults.{apart}
use Rattle.vault.proofs.Devices.{formats_as}
use Rattle.slot_store.proofs.device.SlotDev.format.Goals as goal

pub returns-clause-formats : goal.returns-clause-formats
returns-clause-formats g c =
    let old = c.args.self.now in
    rw c.told.ensures (formats_as g.D.Disk.state g.D.Disk.images Fits HasSpare data_of fault_of apart old.inner c.format.new.self old _ (λ same. ap (λ inner. record old { inner = inner }) same)
    c.format.result c.format.ensures)
