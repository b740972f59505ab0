use Rattle.std.proofs.Common.{sym, ap}
use Rattle.step_tables.specs.Travels.{message_of}
use Rattle.part_client.specs.Keeping.{taken_of}
use Rattle.wire_steps.proofs.Brought.{limited_to}
use Rattle.wire_steps.proofs.Ended.{arrived_carry, arrived_comes, arrived_ends, arrived_pull, tears_comes, tears_ends, arrived_waits}
use Rattle.wire_steps.proofs.world.World.end_arrival.Goals as goal

pub bring-requires : goal.bring-requires
bring-requires g c =
    record { carried = arrived_carry g.D.Disk.state c.args.self.now c.args.client c.args.from c.args.table c.args.taken c.requires.taken (message_of c.in-Whole.message) (sym (ap taken_of c.in-Whole.is)) }

pub tear-requires : goal.tear-requires
tear-requires g c = record { held = arrived_pull g.D.Disk.state c.args.self.now c.args.client c.args.from c.args.table c.args.taken c.requires.taken }

pub returns-in-Whole-clause-done : goal.returns-in-Whole-clause-done
returns-in-Whole-clause-done g c x =
    let is = sym (ap taken_of c.in-Whole.is) in
    arrived_comes g.D.Disk.state c.args.self.now c.args.client c.args.from c.args.table c.args.taken x (message_of c.in-Whole.message) is g.D.Disk.images c.bring.result c.bring.new.self
    (c.bring.ensures.done (arrived_carry g.D.Disk.state c.args.self.now c.args.client c.args.from c.args.table c.args.taken x (message_of c.in-Whole.message) is))

pub returns-in-Whole-clause-ends : goal.returns-in-Whole-clause-ends
returns-in-Whole-clause-ends g c x =
    let is = sym (ap taken_of c.in-Whole.is) in
    arrived_ends g.D.Disk.state c.args.self.now c.args.client c.args.from c.args.table c.args.taken x (message_of c.in-Whole.message) is g.D.Disk.images c.bring.result c.bring.new.self
    (c.bring.ensures.ends (arrived_carry g.D.Disk.state c.args.self.now c.args.client c.args.from c.args.table c.args.taken x (message_of c.in-Whole.message) is))

pub returns-in-Whole-clause-limit : goal.returns-in-Whole-clause-limit
returns-in-Whole-clause-limit g c x n below =
    c.bring.ensures.limit
    (arrived_carry g.D.Disk.state c.args.self.now c.args.client c.args.from c.args.table c.args.taken x (message_of c.in-Whole.message) (sym (ap taken_of c.in-Whole.is))) n below

pub returns-in-Tears-clause-done : goal.returns-in-Tears-clause-done
returns-in-Tears-clause-done g c x =
    tears_comes g.D.Disk.state c.args.self.now c.args.client c.args.from c.args.table c.args.taken x c.in-Tears.row (sym (ap taken_of c.in-Tears.is)) g.D.Disk.images c.tear.result c.tear.new.self
    (c.tear.ensures.done (arrived_pull g.D.Disk.state c.args.self.now c.args.client c.args.from c.args.table c.args.taken x))

pub returns-in-Tears-clause-ends : goal.returns-in-Tears-clause-ends
returns-in-Tears-clause-ends g c x =
    tears_ends g.D.Disk.state c.args.self.now c.args.client c.args.from c.args.table c.args.taken x c.in-Tears.row (sym (ap taken_of c.in-Tears.is)) g.D.Disk.images c.tear.result c.tear.new.self
    (c.tear.ensures.ends (arrived_pull g.D.Disk.state c.args.self.now c.args.client c.args.from c.args.table c.args.taken x))

pub returns-in-Tears-clause-limit : goal.returns-in-Tears-clause-limit
returns-in-Tears-clause-limit g c x n below =
    limited_to n x.v.world c.args.client c.tear.result (c.tear.ensures.limit (arrived_pull g.D.Disk.state c.args.self.now c.args.client c.args.from c.args.table c.args.taken x) n below)

pub returns-in-Waits-clause-done : goal.returns-in-Waits-clause-done
returns-in-Waits-clause-done g c x =
    arrived_waits g.D.Disk.state c.args.self.now c.args.client c.args.from c.args.table c.args.taken x g.D.Disk.images g.met.D.Disk.only_now (sym (ap taken_of c.in-Waits.is)) c.only.result
    c.only.ensures.lines
