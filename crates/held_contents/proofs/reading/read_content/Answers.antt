use Rattle.held_contents.proofs.Readings.{reads_nothing}
use Rattle.held_contents.proofs.reading.read_content.Goals as goal

pub returns-in-Gone-clause-asks : goal.returns-in-Gone-clause-asks
returns-in-Gone-clause-asks g c = reads_nothing g.D.Disk.state g.D.Disk.images g.met.D.Disk.only_now c.args.devs.now c.requires.up c.requires.looked c.new.result
