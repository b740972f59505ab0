use Rattle.std.proofs.Common.{Option, ap, ◌∙◌}
use Rattle.std.specs.Prelude.{filter, option_map, option_to_list}
use Rattle.part_tables.specs.ClientParts.{is_of_table}
use Rattle.message_parts.specs.Parts.{fragment_of}
use Rattle.part_client.specs.declared.pulls.Pulling.{Pulling}
use Rattle.part_client.specs.Weighing.{answering_of}
use Rattle.part_client.specs.Calls.{pulls_grown}
use Rattle.part_client.proofs.Bringing.{pull_grows}
use Rattle.part_client.proofs.table.grow_pull.Goals as goal

pub returns-in-Some-clause-grown : goal.returns-in-Some-clause-grown
returns-in-Some-clause-grown c xs keeps =
    ap (λ (o : Option Pulling). filter (is_of_table c.args.f.table) (pulls_grown (fragment_of c.args.f) xs (option_map answering_of o))) c.in-Some.is
    ∙ pull_grows (fragment_of c.args.f) xs c.in-Some.x c.take_chunk.new.came (keeps ∙ ap (λ (o : Option Pulling). option_to_list (option_map answering_of o)) c.in-Some.is) c.take_chunk.ensures.came
