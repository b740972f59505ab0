use Rattle.std.proofs.Common.{refl}
use Rattle.wire_steps.specs.Delivering.{delivery}
use Rattle.wire_steps.proofs.Answered.{comes_as, ends_as}
use Rattle.wire_steps.proofs.Ended.{held_places, held_arrives}
use Rattle.wire_steps.proofs.world.World.arrive_part.Goals as goal

pub arrive-requires-clause-chunk : goal.arrive-requires-clause-chunk
arrive-requires-clause-chunk g c = c.requires.held.held.chunk

pub arrive-requires-clause-places : goal.arrive-requires-clause-places
arrive-requires-clause-places g c = held_places g.D.Disk.state c.args.self.now c.args.client c.args.from c.args.table c.args.held.now c.args.part c.requires.held

pub end_arrival-requires : goal.end_arrival-requires
end_arrival-requires g c =
    record {
      taken = held_arrives g.D.Disk.state c.args.self.now c.args.client c.args.from c.args.table c.args.held.now c.args.part c.requires.held c.in_ok-taken.taken c.arrive.new.arriving
          c.in_ok-taken.ensures.taken c.in_ok-taken.ensures.others;
    }

pub returns-clause-done : goal.returns-clause-done
returns-clause-done g c x =
    let b = x.of_opened.of_client.brought in
    comes_as g.D.Disk.state g.D.Disk.images b.v b.v (delivery b.v b.sent) (delivery b.v b.sent) c.end_arrival.result c.args.self.now _ c.end_arrival.new.self refl refl refl (λ lucks. refl)
    (c.end_arrival.ensures.done (held_arrives g.D.Disk.state c.args.self.now c.args.client c.args.from c.args.table c.args.held.now c.args.part x c.in_ok-taken.taken c.arrive.new.arriving
    c.in_ok-taken.ensures.taken c.in_ok-taken.ensures.others))

pub returns-clause-ends : goal.returns-clause-ends
returns-clause-ends g c x =
    let b = x.of_opened.of_client.brought in
    ends_as g.D.Disk.state g.D.Disk.images b.v b.v (delivery b.v b.sent) (delivery b.v b.sent) c.end_arrival.result c.args.self.now _ c.end_arrival.new.self refl refl (λ lucks. refl)
    (c.end_arrival.ensures.ends (held_arrives g.D.Disk.state c.args.self.now c.args.client c.args.from c.args.table c.args.held.now c.args.part x c.in_ok-taken.taken c.arrive.new.arriving
    c.in_ok-taken.ensures.taken c.in_ok-taken.ensures.others))

pub returns-clause-limit : goal.returns-clause-limit
returns-clause-limit g c x n below =
    c.end_arrival.ensures.limit (held_arrives g.D.Disk.state c.args.self.now c.args.client c.args.from c.args.table c.args.held.now c.args.part x c.in_ok-taken.taken c.arrive.new.arriving
    c.in_ok-taken.ensures.taken c.in_ok-taken.ensures.others) n below
