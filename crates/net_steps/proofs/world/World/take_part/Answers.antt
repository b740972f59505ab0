use Rattle.std.proofs.Common.{refl, sym, ◌∙◌}
use Rattle.stab_base.specs.declared.node.Node.TheVariants as nodes
use Rattle.message_parts.specs.Parts.{part_of}
use Rattle.gated_tables.specs.Net.{to_store, turned_away}
use Rattle.net_steps.specs.Delivering.{step_brought}
use Rattle.net_steps.proofs.Brought.{counted_apart}
use Rattle.net_steps.proofs.Delivered.{delivers_as, wire_brings, wire_delivers}
use Rattle.net_steps.proofs.TurnedAway.{away_step, of_client, taken_step}
use Rattle.net_steps.proofs.world.World.take_part.Goals as goal

pub turn_away-requires : goal.turn_away-requires
turn_away-requires g c =
    let is_out = (g.P.Depot.state c.args.depot.now).is_out in
    let k = c.requires.coming in
    let x = k.1 in
    record {
      here = (is_out, nodes.Store c.args.store, x.n, x.here, of_client g.D.Disk.state is_out k.0 c.args.from c.args.part c.args.self.now c.args.store x c.args.asked k.2);
    }

pub bring-requires : goal.bring-requires
bring-requires g c =
    let x = c.requires.coming.1 in
    record { here = (x.n, x.n.wire, wire_brings g.D.Disk.state (g.P.Depot.state c.args.depot.now).is_out (nodes.Store c.args.store) x.n c.args.self.now x.here) }

pub returns-then-is_asked_shut-clause-delivers : goal.returns-then-is_asked_shut-clause-delivers
returns-then-is_asked_shut-clause-delivers g c number x asked =
    let is_out = (g.P.Depot.state c.args.depot.now).is_out in
    delivers_as g.D.Disk.state g.D.Disk.images x.n (λ lucks. to_store x.n c.args.store x.one lucks (part_of x.one.message)) (λ lucks. turned_away x.n x.one c.args.asked)
    (away_step g.D.Disk.state is_out number c.args.from c.args.part c.args.self.now c.args.store x c.args.asked asked
    (sym (c.is_asked_shut.ensures is_out x.n x.here) ∙ c.if-is_asked_shut.true))
    c.turn_away.result is_out c.args.self.now c.turn_away.new.self
    (c.turn_away.ensures is_out (nodes.Store c.args.store) x.n x.one x.here
    (of_client g.D.Disk.state is_out number c.args.from c.args.part c.args.self.now c.args.store x c.args.asked asked) x.from_is)

pub returns-then-is_asked_shut-clause-depot : goal.returns-then-is_asked_shut-clause-depot
returns-then-is_asked_shut-clause-depot g c =
    let is_out = (g.P.Depot.state c.args.depot.now).is_out in
    let k = c.requires.coming in
    let x = k.1 in
    counted_apart _ _ refl c.turn_away.result
    (c.turn_away.ensures is_out (nodes.Store c.args.store) x.n x.one x.here
    (of_client g.D.Disk.state is_out k.0 c.args.from c.args.part c.args.self.now c.args.store x c.args.asked k.2) x.from_is).apart

pub returns-clause-delivers : goal.returns-clause-delivers
returns-clause-delivers g c number x asked =
    let is_out = (g.P.Depot.state c.args.depot.now).is_out in
    let is_after = (g.P.Depot.state c.bring.new.depot).is_out in
    delivers_as g.D.Disk.state g.D.Disk.images x.n (λ lucks. to_store x.n c.args.store x.one lucks (part_of x.one.message)) (step_brought x.n x.n.wire c.args.part.0)
    (taken_step g.D.Disk.state is_out number c.args.from c.args.part c.args.self.now c.args.store x c.args.asked asked
    (sym (c.is_asked_shut.ensures is_out x.n x.here) ∙ c.if-is_asked_shut.false))
    c.bring.result is_after c.args.self.now c.bring.new.self
    (wire_delivers g.D.Disk.state g.D.Disk.images x.n c.args.part.0 is_after c.args.self.now c.bring.new.self c.bring.result
    (c.bring.ensures.brings x.n x.n.wire (wire_brings g.D.Disk.state is_out (nodes.Store c.args.store) x.n c.args.self.now x.here)))
