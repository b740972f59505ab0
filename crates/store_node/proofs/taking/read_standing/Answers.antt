use Rattle.store_node.proofs.Onlys.{only_none}
use Rattle.store_node.proofs.taking.read_standing.Goals as goal

pub returns-in-None-clause-reads : goal.returns-in-None-clause-reads
returns-in-None-clause-reads g c = only_none g.D.Disk.state g.D.Disk.images g.met.D.Disk.only_now c.args.table.now c.new.result c.requires.up c.requires.looked
