use Rattle.store_commit.proofs.Waiting.{row_reserved}
use Rattle.store_commit.proofs.Fusing.{row_same}
use Rattle.store_commit.proofs.devs.TableDevs.reserve_rows.Goals as goal

pub returns-clause-waits : goal.returns-clause-waits
returns-clause-waits g c =
    rw c.of_rows.ensures (row_reserved g.D.Disk.state g.D.Disk.images g.met.D.Disk.only_now c.args.self.now c.requires.up c.requires.rests c.reserve.new.self c.args.puts c.args.bytes c.reserve.result c.reserve.ensures.reserves)

pub returns-clause-fuse : goal.returns-clause-fuse
returns-clause-fuse g c = row_same g.D.Disk.state c.args.self.now c.reserve.new.self c.reserve.ensures.reserves.fuse
