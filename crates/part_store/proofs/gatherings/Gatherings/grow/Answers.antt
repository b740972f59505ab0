use Rattle.message_parts.specs.Parts.{fragment_of}
use Rattle.part_store.proofs.Finds.{grown_has}
use Rattle.part_store.proofs.gatherings.Gatherings.grow.Goals as goal

pub returns-in-Some-clause-grown : goal.returns-in-Some-clause-grown
returns-in-Some-clause-grown c gs h = record {
  each = grown_has (fragment_of c.args.f) c.args.self.now.waiting (c.get_mut.follows.lender c.take.new.self) gs h.each c.in-Some.x.now c.take.new.self c.in-Some.ensures.value c.take.ensures.grown
      (c.get_mut.follows.holds c.take.new.self);
}
