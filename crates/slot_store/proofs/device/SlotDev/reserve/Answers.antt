use Rattle.std.proofs.Common.{ap}
use Rattle.slot_store.specs.Data.{data_of}
use Rattle.slot_store.specs.Memory.{Fits, HasSpare}
use Rattle.slot_store.specs.Fault.{fault_of}
use Rattle.slot_store.proofs.Faults.{apart}
use Rattle.vault.proofs.Devices.{reserves_as}
use Rattle.slot_store.proofs.device.SlotDev.reserve.Goals as goal

pub returns-clause-reserves : goal.returns-clause-reserves
returns-clause-reserves g c =
    let old = c.args.self.now in
    rw c.told.ensures (reserves_as g.D.Disk.state g.D.Disk.images Fits HasSpare data_of fault_of apart old.inner c.reserve.new.self old _ (λ same. ap (λ inner. record old { inner = inner }) same)
    c.args.puts c.args.bytes c.reserve.result c.reserve.ensures)
