use Rattle.std.proofs.Common.{◌∙◌, Option, None, sym, ap}
use Rattle.std.specs.Prelude.{◌||◌}
use Rattle.std.specs.List.{find}
use Rattle.part_tables.specs.ClientParts.{Answering, is_of_table}
use Rattle.part_tables.specs.Arriving.{is_of_row}
use Rattle.message_parts.specs.Parts.{fragment_of}
use Rattle.part_client.specs.Calls.{may_complete, may_end}
use Rattle.part_contents.proofs.Filters.{find_of_filter}
use Rattle.part_client.proofs.Keepings.{nothing_there}
use Rattle.part_client.proofs.arriving.Arriving.fragment_needs_row.Goals as goal

pub returns-in-None : goal.returns-in-None
returns-in-None c a k =
    let f = fragment_of c.args.f.now in
    let none = nothing_there c.args.self.now a c.args.f.now.table k (sym c.in-None.ensures.value) in
    sym (ap (λ (o : Option Answering). may_complete (fragment_of c.args.f.now) o || may_end (fragment_of c.args.f.now) (find (is_of_row c.args.f.now.table c.args.f.now.row) a.rows))
    (find_of_filter (is_of_table c.args.f.now.table) a.pulls None none.pull)
    ∙ ap (may_end (fragment_of c.args.f.now)) (none.rows c.args.f.now.row))
