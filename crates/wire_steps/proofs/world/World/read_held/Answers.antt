use Rattle.wire_steps.proofs.Seen.{left_alone, held_seen, fall_lost}
use Rattle.world_tables.specs.World.{client_falls}
use Rattle.wire_steps.proofs.world.World.read_held.Goals as goal

pub returns-in-Found-clause-seen : goal.returns-in-Found-clause-seen
returns-in-Found-clause-seen g c v r h ready =
    let k = c.in_ok-found.ensures in
    let read = rw c.in-Found.is at (k.read v.world h.nodes) in
    held_seen g.D.Disk.state g.D.Disk.images v c.args.self.now c.held_row.new.self
    (left_alone g.D.Disk.state g.D.Disk.images g.met.D.Disk.only_now v c.args.self.now h c.held_row.new.self k.store)
    c.args.client c.args.table c.args.row.now c.in-Found.found c.held_of.result r read c.held_of.ensures.held c.held_of.ensures.chunk

pub returns-in-Fallen-clause-seen : goal.returns-in-Fallen-clause-seen
returns-in-Fallen-clause-seen g c v r h ready =
    let k = c.in_ok-found.ensures in
    let read = rw c.in-Fallen.is at (k.read v.world h.nodes) in
    fall_lost g.D.Disk.state g.D.Disk.images v c.args.self.now c.held_row.new.self
    (left_alone g.D.Disk.state g.D.Disk.images g.met.D.Disk.only_now v c.args.self.now h c.held_row.new.self k.store)
    (client_falls c.args.client v.world) c.in-Fallen.told read
