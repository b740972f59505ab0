use Rattle.part_tables.specs.StoreParts.{parted}
use Rattle.wire_steps.proofs.Maps.{put_here, put_other, none_gathered, taken_here}
use Rattle.wire_steps.proofs.memory.gather_first.Goals as goal

pub returns-clause-taken : goal.returns-clause-taken
returns-clause-taken c items gs p none e view =
    taken_here (parted c.args.scheme c.args.chunk items gs p) c.take.new.self c.in_ok-taken.taken _
    (put_here c.args.gathered.now c.insert.new.self c.args.table c.take.new.self c.in_ok-insert.ensures.updates.0)
    (c.in_ok-taken.ensures.taken items gs p (none_gathered c.new-it.result gs c.new-it.ensures.nothing none) e view)

pub returns-clause-others : goal.returns-clause-others
returns-clause-others c q apart =
    put_other c.args.gathered.now c.insert.new.self c.args.table c.take.new.self c.in_ok-insert.ensures.updates.0 q apart
