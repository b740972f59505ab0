use Rattle.std.proofs.Common.{sym, ap}
use Rattle.step_tables.specs.Travels.{message_of}
use Rattle.part_store.specs.Calls.{taken_of}
use Rattle.wire_steps.proofs.Ended.{gathered_carry, gathered_comes, gathered_ends, gathered_waits}
use Rattle.wire_steps.proofs.world.World.end_gathering.Goals as goal

pub bring-requires : goal.bring-requires
bring-requires g c = record { carried = gathered_carry g.D.Disk.state c.args.self.now c.args.store c.args.from c.args.taken c.requires.taken (message_of c.in-Whole.message) (sym (ap taken_of c.in-Whole.is)) }

pub returns-in-Whole-clause-done : goal.returns-in-Whole-clause-done
returns-in-Whole-clause-done g c x =
    let is = sym (ap taken_of c.in-Whole.is) in
    gathered_comes g.D.Disk.state c.args.self.now c.args.store c.args.from c.args.taken x (message_of c.in-Whole.message) is g.D.Disk.images c.bring.result c.bring.new.self
    (c.bring.ensures.done (gathered_carry g.D.Disk.state c.args.self.now c.args.store c.args.from c.args.taken x (message_of c.in-Whole.message) is))

pub returns-in-Whole-clause-ends : goal.returns-in-Whole-clause-ends
returns-in-Whole-clause-ends g c x =
    let is = sym (ap taken_of c.in-Whole.is) in
    gathered_ends g.D.Disk.state c.args.self.now c.args.store c.args.from c.args.taken x (message_of c.in-Whole.message) is g.D.Disk.images c.bring.result c.bring.new.self
    (c.bring.ensures.ends (gathered_carry g.D.Disk.state c.args.self.now c.args.store c.args.from c.args.taken x (message_of c.in-Whole.message) is))

pub returns-in-Whole-clause-limit : goal.returns-in-Whole-clause-limit
returns-in-Whole-clause-limit g c x n below =
    c.bring.ensures.limit (gathered_carry g.D.Disk.state c.args.self.now c.args.store c.args.from c.args.taken x (message_of c.in-Whole.message) (sym (ap taken_of c.in-Whole.is))) n below

pub returns-in-Waits-clause-done : goal.returns-in-Waits-clause-done
returns-in-Waits-clause-done g c x =
    gathered_waits g.D.Disk.state c.args.self.now c.args.store c.args.from c.args.taken x g.D.Disk.images g.met.D.Disk.only_now (sym (ap taken_of c.in-Waits.is)) c.only.result c.only.ensures.lines
