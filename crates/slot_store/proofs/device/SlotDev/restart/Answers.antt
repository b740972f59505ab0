use Rattle.slot_store.specs.Data.{data_of}
use Rattle.slot_store.specs.Memory.{Fits, HasSpare}
use Rattle.vault.proofs.Devices.{restarts_as}
use Rattle.slot_store.proofs.device.SlotDev.restart.Goals as goal

pub returns-clause-restarts : goal.returns-clause-restarts
returns-clause-restarts g c =
    restarts_as g.D.Disk.state g.D.Disk.images Fits HasSpare data_of g.met.D.Disk.counts_now c.args.self.now.inner c.restart.new.self c.restart.ensures.image c.restart.ensures.time
    c.restart.ensures.restarts
