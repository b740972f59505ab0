use Rattle.part_tables.specs.Arriving.{arrived}
use Rattle.wire_steps.proofs.Maps.{put_here, put_other, none_kept, came_here}
use Rattle.wire_steps.proofs.memory.arrive_first.Goals as goal

pub returns-clause-taken : goal.returns-clause-taken
returns-clause-taken c opened a p none e held =
    came_here (arrived opened a p) c.take.new.self c.in_ok-taken.taken _
    (put_here c.args.arriving.now c.insert.new.self c.args.client c.take.new.self c.in_ok-insert.ensures.updates.0)
    (c.in_ok-taken.ensures.taken opened a p (none_kept c.new-it.result a c.new-it.ensures.nothing none) e held)

pub returns-clause-others : goal.returns-clause-others
returns-clause-others c q apart =
    put_other c.args.arriving.now c.insert.new.self c.args.client c.take.new.self c.in_ok-insert.ensures.updates.0 q apart
