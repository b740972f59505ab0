use Rattle.std.proofs.Common.{refl}
use Rattle.table_model.specs.declared.event.Event.TheVariants as events
use Rattle.wire_tables.specs.Wire.{wire_step}
use Rattle.wire_steps.specs.Calls.{pull_step}
use Rattle.wire_steps.proofs.Answered.{comes_as, ends_as}
use Rattle.wire_steps.proofs.Delivered.{wire_reached}
use Rattle.wire_steps.proofs.Pulled.{asks_none}
use Rattle.wire_steps.proofs.world.World.ask.Goals as goal

pub pull_rows-requires-clause-held : goal.pull_rows-requires-clause-held
pull_rows-requires-clause-held g c = let k = c.requires.held in record { kept = k.0; reached = wire_reached k.0 k.1; held = k.2 }

pub returns-clause-done : goal.returns-clause-done
returns-clause-done g c v r h =
    comes_as g.D.Disk.state g.D.Disk.images v v (wire_step v (events.Ask c.args.client c.args.table)) (pull_step v c.args.client c.args.table c.new-none.result c.new-next.result) c.pull_rows.result
    c.args.self.now c.args.self.now c.pull_rows.new.self refl refl refl
    (asks_none v c.args.client c.args.table c.new-none.result c.new-next.result c.new-none.ensures c.new-next.ensures)
    (c.pull_rows.ensures.done (record { kept = v; reached = wire_reached v r; held = h }))

pub returns-clause-ends : goal.returns-clause-ends
returns-clause-ends g c v r h =
    ends_as g.D.Disk.state g.D.Disk.images v v (wire_step v (events.Ask c.args.client c.args.table)) (pull_step v c.args.client c.args.table c.new-none.result c.new-next.result) c.pull_rows.result
    c.args.self.now c.args.self.now c.pull_rows.new.self refl refl
    (asks_none v c.args.client c.args.table c.new-none.result c.new-next.result c.new-none.ensures c.new-next.ensures)
    (c.pull_rows.ensures.ends (record { kept = v; reached = wire_reached v r; held = h }))

pub returns-clause-limit : goal.returns-clause-limit
returns-clause-limit g c v n r h below = c.pull_rows.ensures.limit (record { kept = v; reached = wire_reached v r; held = h }) n below
