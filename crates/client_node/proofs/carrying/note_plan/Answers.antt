use Rattle.client_node.proofs.CarriedOut.{notes_none, notes_it}
use Rattle.client_node.proofs.carrying.note_plan.Goals as goal

pub returns-in-None : goal.returns-in-None
returns-in-None c = notes_none c.args.waiting.now c.args.plan.now c.in-None.is

pub returns-in-Some : goal.returns-in-Some
returns-in-Some c = notes_it c.args.waiting.now c.note_row.new.waiting c.args.plan.now c.in-Some.change c.in-Some.is c.note_row.result c.note_row.ensures.more c.note_row.ensures.noted
