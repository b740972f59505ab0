use Rattle.std.proofs.Common.{ap}
use Rattle.chunk_store.specs.Payload.{chunks_of}
use Rattle.chunk_store.specs.Index.{IsIndex, HasSpare}
use Rattle.chunk_store.specs.Fault.{fault_of}
use Rattle.chunk_store.proofs.Faults.{apart}
use Rattle.vault.proofs.Devices.{reserves_as}
use Rattle.chunk_store.proofs.device.ChunkDev.reserve.Goals as goal

pub returns : goal.returns
returns g c =
    let old = c.args.self.now in
    rw c.told.ensures (reserves_as g.D.Disk.state g.D.Disk.images IsIndex HasSpare chunks_of fault_of apart old.inner c.reserve.new.self old _ (λ same. ap (λ inner. record old { inner = inner }) same) c.args.puts c.args.bytes c.reserve.result c.reserve.ensures)
