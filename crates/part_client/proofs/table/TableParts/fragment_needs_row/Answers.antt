use Rattle.std.proofs.Common.{◌∙◌, Bool, Option, sym, ap}
use Rattle.std.specs.Prelude.{◌||◌}
use Rattle.std.specs.List.{find}
use Rattle.part_tables.specs.ClientParts.{Answering}
use Rattle.part_tables.specs.Arriving.{is_of_row}
use Rattle.message_parts.specs.Parts.{fragment_of}
use Rattle.part_client.specs.Calls.{may_complete, may_end}
use Rattle.part_client.proofs.Settled.{pull_found}
use Rattle.part_client.proofs.table.TableParts.fragment_needs_row.Goals as goal

pub returns-then-may_complete : goal.returns-then-may_complete
returns-then-may_complete c a k =
    c.if-may_complete.true
    ∙ sym (ap (λ (o : Option Answering). may_complete (fragment_of c.args.f.now) o || may_end (fragment_of c.args.f.now) (find (is_of_row c.args.f.now.table c.args.f.now.row) a.rows))
    (pull_found c.args.f.now.table a c.args.self.now k)
    ∙ ap (λ (b : Bool). b || may_end (fragment_of c.args.f.now) (find (is_of_row c.args.f.now.table c.args.f.now.row) a.rows)) (sym c.may_complete.ensures ∙ c.if-may_complete.true))

pub returns-else-may_complete : goal.returns-else-may_complete
returns-else-may_complete c a k =
    sym (ap (λ (o : Option Answering). may_complete (fragment_of c.args.f.now) o || may_end (fragment_of c.args.f.now) (find (is_of_row c.args.f.now.table c.args.f.now.row) a.rows))
    (pull_found c.args.f.now.table a c.args.self.now k)
    ∙ (ap (λ (b : Bool). b || may_end (fragment_of c.args.f.now) (find (is_of_row c.args.f.now.table c.args.f.now.row) a.rows)) (sym c.may_complete.ensures ∙ c.if-may_complete.false)
    ∙ (ap (may_end (fragment_of c.args.f.now)) (k.rows c.args.f.now.row) ∙ sym c.may_end.ensures)))
