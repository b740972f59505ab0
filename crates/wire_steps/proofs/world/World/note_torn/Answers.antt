use Rattle.std.proofs.Common.{refl, rules}
use Rattle.part_tables.specs.Arriving.{nothing_arriving}
use Rattle.wire_steps.proofs.world.World.note_torn.Goals as goal

pub returns-clause-notes : goal.returns-clause-notes
returns-clause-notes g c = record {
  it = c.note_outs.new.it;
  at = search rules;
  keeps = λ owners. c.in_ok-note_outs.ensures owners nothing_arriving c.new-it.ensures.nothing;
  rest = refl;
}
