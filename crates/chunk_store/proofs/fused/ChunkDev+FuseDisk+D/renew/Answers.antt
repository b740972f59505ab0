use Rattle.vault.proofs.Renewals.{renews_as}
use Rattle.chunk_store.specs.Index.{IsIndex, HasSpare}
use Rattle.chunk_store.specs.Payload.{chunks_of}
use Rattle.chunk_store.proofs.fused.ChunkDev+FuseDisk+D.renew.Goals as goal

pub returns : goal.returns
returns g c = renews_as g.D.Disk.state g.D.Disk.images IsIndex HasSpare chunks_of c.args.self.now.inner _ c.renew.ensures
