use Rattle.chunk_store.specs.Payload.{chunks_of}
use Rattle.chunk_store.specs.Index.{IsIndex, HasSpare}
use Rattle.vault.proofs.Devices.{restarts_as}
use Rattle.chunk_store.proofs.device.ChunkDev.restart.Goals as goal

pub returns-clause-restarts : goal.returns-clause-restarts
returns-clause-restarts g c =
    restarts_as g.D.Disk.state g.D.Disk.images IsIndex HasSpare chunks_of g.met.D.Disk.counts_now c.args.self.now.inner c.restart.new.self c.restart.ensures.image c.restart.ensures.time c.restart.ensures.restarts
