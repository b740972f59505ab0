use Rattle.client_journal.proofs.Asking.{chunk_read}
use Rattle.client_journal.proofs.Behind.{chunk_there}
use Rattle.client_journal.specs.Devs.{chunk_of}
use Rattle.client_journal.specs.Standing.{devs}
use Rattle.client_journal.proofs.devs.Journal.read_chunk.Goals as goal

pub returns-clause-reads : goal.returns-clause-reads
returns-clause-reads g c =
    rw c.found_chunk.ensures (chunk_read g.D.Disk.state g.D.Disk.images g.met.D.Disk.only_now c.args.self.now c.requires.up c.requires.looked c.get.new.self c.get.result c.get.ensures.reads c.get.ensures.absent_unchanged)

pub returns-clause-chunk : goal.returns-clause-chunk
returns-clause-chunk g c =
    let e = c.get.ensures in
    rw c.found_chunk.ensures (chunk_there (devs g.D.Disk.state c.args.self.now).chunks (chunk_of c.args.name) c.get.result e.chunk (λ is. (e.absent.0 is).1))
