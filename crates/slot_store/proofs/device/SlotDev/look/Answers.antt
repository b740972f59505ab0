use Rattle.std.proofs.Common.{ap}
use Rattle.slot_store.specs.Data.{data_of}
use Rattle.slot_store.specs.Memory.{Fits, HasSpare}
use Rattle.slot_store.specs.Fault.{fault_of}
use Rattle.slot_store.proofs.Faults.{apart}
use Rattle.vault.proofs.Devices.{looks_as}
use Rattle.slot_store.proofs.device.SlotDev.look.Goals as goal

pub returns-clause-looks : goal.returns-clause-looks
returns-clause-looks g c =
    let old = c.args.self.now in
    rw c.told.ensures (looks_as g.D.Disk.state g.D.Disk.images Fits HasSpare data_of fault_of apart old.inner c.look.new.self old _ (λ same. ap (λ inner. record old { inner = inner }) same)
    c.look.result c.look.ensures)
