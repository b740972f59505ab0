use Rattle.std.proofs.Common.{◌∙◌, sym}
use Rattle.std.specs.Prelude.{option_map}
use Rattle.message_parts.specs.Parts.{fragment_of}
use Rattle.part_client.specs.Weighing.{answering_of}
use Rattle.part_client.proofs.Bringing.{row_comes, row_needs, row_left, not_for}
use Rattle.part_client.proofs.table.TableParts.bring.Goals as goal

pub returns-else-pulls-clause-taken : goal.returns-else-pulls-clause-taken
returns-else-pulls-clause-taken c opened a k h =
    let missed = not_for (fragment_of c.args.f) (option_map answering_of c.args.self.now.pull) (sym c.pulls.ensures ∙ c.if-pulls.false) in
    row_comes a c.args.self.now (fragment_of c.args.f) k missed opened c.bring_row.result c.bring_row.new.self
    (c.bring_row.ensures.taken opened a k (row_needs a c.args.self.now (fragment_of c.args.f) k missed opened c.args.held.now h))

pub returns-else-pulls-clause-memory : goal.returns-else-pulls-clause-memory
returns-else-pulls-clause-memory c a k =
    let missed = not_for (fragment_of c.args.f) (option_map answering_of c.args.self.now.pull) (sym c.pulls.ensures ∙ c.if-pulls.false) in
    row_left a c.args.self.now (fragment_of c.args.f) k missed c.bring_row.result c.bring_row.new.self (c.bring_row.ensures.memory a k)
