use Rattle.std.proofs.lemmas.Result.{err_from_is_err_and}
use Rattle.wire_tables.specs.Wire.{wire_step}
use Rattle.net_steps.specs.Askers.{asker_of}
use Rattle.net_steps.proofs.Brought.{counted_apart, send_apart}
use Rattle.net_steps.proofs.Carried.{wire_of}
use Rattle.net_steps.proofs.Passing.{wire_stood}
use Rattle.net_steps.proofs.Tabled.{alters_built, alters_carried, alters_ended, alters_short, askers_put, stood_in, to_send, with}
use Rattle.net_steps.proofs.world.World.alter.Goals as goal

pub step-requires-clause-built : goal.step-requires-clause-built
step-requires-clause-built g c = alters_built c.args.event.now c.requires.alters

pub step-requires-clause-held : goal.step-requires-clause-held
step-requires-clause-held g c =
    let is_out = (g.P.Depot.state c.args.depot.now).is_out in
    let k = c.requires.here in
    wire_stood g.D.Disk.state g.D.Disk.images k.1 c.args.event.now is_out is_out c.args.self.now (stood_in g.D.Disk.state is_out k.0 k.1 c.args.self.now k.2)

pub returns-in_err-lines-clause-comes : goal.returns-in_err-lines-clause-comes
returns-in_err-lines-clause-comes g c to n x asks =
    let before = (g.P.Depot.state c.args.depot.now).is_out in
    let s = stood_in g.D.Disk.state before to n c.args.self.now x in
    let p = err_from_is_err_and c.from_residual.result c.from_residual.ensures.1 in
    let k = c.in_err-lines.ensures in
    let r = wire_of n x.reached in
    rw (p.1, p.2) (alters_ended g.D.Disk.state g.D.Disk.images n c.args.event.now c.requires.alters before (g.P.Depot.state c.step.new.depot).is_out c.args.self.now s c.args.table
    (asker_of c.args.asker) c.step.new.self c.in_err-lines.field-0.0 (k.over n.wire r x.held.wire x.out) (λ m below. k.limit n.wire m r x.held.wire below)
    (λ m below. k.plans n.wire m r x.held.wire below) (k.left n.wire r x.held.wire x.out))

pub returns-in_err-insert-clause-comes : goal.returns-in_err-insert-clause-comes
returns-in_err-insert-clause-comes g c to n x asks =
    let before = (g.P.Depot.state c.args.depot.now).is_out in
    let s = stood_in g.D.Disk.state before to n c.args.self.now x in
    let p = err_from_is_err_and c.from_residual-in_err-insert.result c.from_residual-in_err-insert.ensures.1 in
    rw p.1 (alters_short g.D.Disk.state g.D.Disk.images n c.args.event.now c.requires.alters before (g.P.Depot.state c.step.new.depot).is_out c.args.self.now s c.args.table
    (asker_of c.args.asker) _ p.0 p.2 (λ m below. c.in_ok-lines.ensures.plans n.wire m (wire_of n x.reached) x.held.wire below))

pub carry-requires : goal.carry-requires
carry-requires g c =
    let before = (g.P.Depot.state c.args.depot.now).is_out in
    let is_out = (g.P.Depot.state c.step.new.depot).is_out in
    let x = c.requires.here in
    let n = x.1 in
    let s = stood_in g.D.Disk.state before x.0 n c.args.self.now x.2 in
    let k = c.in_ok-lines.ensures.done n.wire (wire_of n x.2.reached) x.2.held.wire x.2.out in
    let by = asker_of c.args.asker in (
      with g.D.Disk.state g.D.Disk.images n c.args.event.now c.requires.alters before is_out c.args.self.now s c.args.table by,
      n.wire,
      wire_step n.wire c.args.event.now k.lucks,
      to_send g.D.Disk.state g.D.Disk.images n c.args.event.now c.requires.alters before is_out c.args.self.now s c.args.table by x.3 c.insert.new.self
          (askers_put n.askers c.args.self.now.askers c.insert.new.self c.args.table c.args.asker x.2.held.askers c.in_ok-insert.ensures.updates.0) c.in_ok-lines.lines c.step.new.self k,
    )

pub returns-clause-comes : goal.returns-clause-comes
returns-clause-comes g c to n x asks =
    let before = (g.P.Depot.state c.args.depot.now).is_out in
    let is_out = (g.P.Depot.state c.step.new.depot).is_out in
    let s = stood_in g.D.Disk.state before to n c.args.self.now x in
    let k = c.in_ok-lines.ensures.done n.wire (wire_of n x.reached) x.held.wire x.out in
    let by = asker_of c.args.asker in
    let put = askers_put n.askers c.args.self.now.askers c.insert.new.self c.args.table c.args.asker x.held.askers c.in_ok-insert.ensures.updates.0 in
    let m = with g.D.Disk.state g.D.Disk.images n c.args.event.now c.requires.alters before is_out c.args.self.now s c.args.table by in
    let t = to_send g.D.Disk.state g.D.Disk.images n c.args.event.now c.requires.alters before is_out c.args.self.now s c.args.table by asks c.insert.new.self put c.in_ok-lines.lines c.step.new.self k in
    alters_carried g.D.Disk.state g.D.Disk.images n c.args.event.now c.requires.alters before is_out c.args.self.now s c.args.table by asks c.insert.new.self put c.in_ok-lines.lines
    c.step.new.self k c.carry.new.self c.carry.ensures.same c.carry.result (c.carry.ensures.done m n.wire (wire_step n.wire c.args.event.now k.lucks) t)
    (c.carry.ensures.over m n.wire (wire_step n.wire c.args.event.now k.lucks) t) c.carry.ensures.only (λ j below. c.in_ok-lines.ensures.plans n.wire j (wire_of n x.reached) x.held.wire below)

pub returns-clause-depot : goal.returns-clause-depot
returns-clause-depot g c = counted_apart _ _ c.in_ok-lines.ensures.depot c.carry.result (send_apart c.carry.result c.carry.ensures.only)
