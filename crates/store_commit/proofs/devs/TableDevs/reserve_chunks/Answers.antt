use Rattle.store_commit.proofs.Waiting.{chunk_reserved}
use Rattle.store_commit.proofs.devs.TableDevs.reserve_chunks.Goals as goal

pub returns-clause-waits : goal.returns-clause-waits
returns-clause-waits g c =
    rw c.of_chunks.ensures (chunk_reserved g.D.Disk.state g.D.Disk.images g.met.D.Disk.only_now c.args.self.now c.requires.up c.requires.rests c.reserve.new.self c.args.puts c.args.bytes c.reserve.result c.reserve.ensures)
