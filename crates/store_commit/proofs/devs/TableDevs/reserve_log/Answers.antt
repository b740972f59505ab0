use Rattle.store_commit.proofs.Waiting.{log_reserved}
use Rattle.store_commit.proofs.devs.TableDevs.reserve_log.Goals as goal

pub returns-clause-waits : goal.returns-clause-waits
returns-clause-waits g c =
    rw c.of_log.ensures (log_reserved g.D.Disk.state g.D.Disk.images g.met.D.Disk.only_now c.args.self.now c.requires.up c.requires.rests c.reserve.new.self c.args.puts c.args.bytes c.reserve.result c.reserve.ensures)
