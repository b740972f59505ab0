use Rattle.std.proofs.Common.{◌<◌, ℕ, refl, sym, subst}
use Rattle.wire_steps.specs.Delivering.{delivery}
use Rattle.wire_steps.proofs.Answered.{comes_as, ends_as}
use Rattle.wire_steps.proofs.Ended.{seen_places, seen_gathers}
use Rattle.wire_steps.proofs.Viewed.{chunk_there, takes_both}
use Rattle.wire_steps.proofs.world.World.gather_part.Goals as goal

pub gather-requires-clause-chunk : goal.gather-requires-clause-chunk
gather-requires-clause-chunk g c =
    let x = c.requires.seen in
    let b = x.of_table.brought in
    subst (λ (n : ℕ). 0 < n) (sym (c.chunk_of-chunk.ensures b.v.world b.held.nodes)) (chunk_there b.v b.sent.reached c.args.table (takes_both b.v.world c.args.store c.args.table x.of_table.takes).1)

pub gather-requires-clause-places : goal.gather-requires-clause-places
gather-requires-clause-places g c = seen_places g.D.Disk.state c.args.self.now c.args.store c.args.from c.args.table c.args.view.now c.args.part c.requires.seen

pub end_gathering-requires : goal.end_gathering-requires
end_gathering-requires g c =
    let x = c.requires.seen in
    let b = x.of_table.brought in
    record {
      taken = seen_gathers g.D.Disk.state c.args.self.now c.args.store c.args.from c.args.table c.args.view.now c.args.part x c.scheme_of-scheme.result c.chunk_of-chunk.result c.in_ok-taken.taken c.gather.new.gathered
          (c.scheme_of-scheme.ensures b.v.world b.held.nodes) (c.chunk_of-chunk.ensures b.v.world b.held.nodes) c.in_ok-taken.ensures.taken c.in_ok-taken.ensures.others;
    }

pub returns-clause-done : goal.returns-clause-done
returns-clause-done g c x =
    let b = x.of_table.brought in
    comes_as g.D.Disk.state g.D.Disk.images b.v b.v (delivery b.v b.sent) (delivery b.v b.sent) c.end_gathering.result c.args.self.now _ c.end_gathering.new.self refl refl refl (λ lucks. refl)
    (c.end_gathering.ensures.done
    (seen_gathers g.D.Disk.state c.args.self.now c.args.store c.args.from c.args.table c.args.view.now c.args.part x c.scheme_of-scheme.result c.chunk_of-chunk.result c.in_ok-taken.taken c.gather.new.gathered
    (c.scheme_of-scheme.ensures b.v.world b.held.nodes) (c.chunk_of-chunk.ensures b.v.world b.held.nodes) c.in_ok-taken.ensures.taken c.in_ok-taken.ensures.others))

pub returns-clause-ends : goal.returns-clause-ends
returns-clause-ends g c x =
    let b = x.of_table.brought in
    ends_as g.D.Disk.state g.D.Disk.images b.v b.v (delivery b.v b.sent) (delivery b.v b.sent) c.end_gathering.result c.args.self.now _ c.end_gathering.new.self refl refl (λ lucks. refl)
    (c.end_gathering.ensures.ends
    (seen_gathers g.D.Disk.state c.args.self.now c.args.store c.args.from c.args.table c.args.view.now c.args.part x c.scheme_of-scheme.result c.chunk_of-chunk.result c.in_ok-taken.taken c.gather.new.gathered
    (c.scheme_of-scheme.ensures b.v.world b.held.nodes) (c.chunk_of-chunk.ensures b.v.world b.held.nodes) c.in_ok-taken.ensures.taken c.in_ok-taken.ensures.others))

pub returns-clause-limit : goal.returns-clause-limit
returns-clause-limit g c x n below =
    let b = x.of_table.brought in
    c.end_gathering.ensures.limit
    (seen_gathers g.D.Disk.state c.args.self.now c.args.store c.args.from c.args.table c.args.view.now c.args.part x c.scheme_of-scheme.result c.chunk_of-chunk.result c.in_ok-taken.taken c.gather.new.gathered
    (c.scheme_of-scheme.ensures b.v.world b.held.nodes) (c.chunk_of-chunk.ensures b.v.world b.held.nodes) c.in_ok-taken.ensures.taken c.in_ok-taken.ensures.others) n below
