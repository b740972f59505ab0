use Rattle.client_journal.specs.Standing.{devs}
use Rattle.client_node.proofs.Again.{written_main, written_other, written_alone}
use Rattle.client_node.proofs.telling.written_content.Goals as goal

pub returns-then-main-number-clause-content : goal.returns-then-main-number-clause-content
returns-then-main-number-clause-content g c = written_main (devs g.D.Disk.state c.args.devs.now) c.args.number c.args.slots.now c.read_content.result c.in-Some.main c.in-Some.is c.if-main-number.true c.read_content.ensures.whole

pub returns-else-main-number-clause-content : goal.returns-else-main-number-clause-content
returns-else-main-number-clause-content g c = written_other (devs g.D.Disk.state c.args.devs.now) c.args.number c.args.slots.now c.waiting_content.result c.in-Some.main c.in-Some.is c.if-main-number.false c.waiting_content.ensures.content

pub returns-in-None-clause-content : goal.returns-in-None-clause-content
returns-in-None-clause-content g c = written_alone (devs g.D.Disk.state c.args.devs.now) c.args.number c.args.slots.now c.waiting_content-in-None.result c.in-None.is c.waiting_content-in-None.ensures.content
