use Rattle.std.proofs.Common.{◌≡◌, ◌∙◌, Bool, true, sym, ap}
use Rattle.std.specs.Prelude.{◌==◌, ◌&&◌}
use Rattle.std.specs.List.{list_all}
use Rattle.std.proofs.lemmas.Result.{IfOk-weaker}
use Rattle.table_model.specs.History.{same_row}
use Rattle.step_tables.proofs.Lists.{same_row-refl}
use Rattle.step_tables.specs.ClientMoves.{slots_at}
use Rattle.part_tables.specs.Arriving.{is_of_row}
use Rattle.part_client.specs.Gathered.{GatheredRow}
use Rattle.part_client.specs.Weighing.{WholeTaken, whole_of, row_weighed_of, row_weighed}
use Rattle.part_client.proofs.Stands.{same_number}
use Rattle.part_client.proofs.Settled.{taken_as}
use Rattle.part_client.proofs.Arrivals.{row_at, row_kept, of_its_row}
use Rattle.part_client.proofs.table.TableParts.answer_torn.Goals as goal

pub returns-clause-taken : goal.returns-clause-taken
returns-clause-taken c opened a k h =
    let view = c.args.held.now in
    let is : row_weighed_of c.in_ok-weighed.weighed ≡ row_weighed view.read (row_at c.args.head c.args.row view.chunk) =
    c.in_ok-weighed.ensures ∙ ap (λ (g : GatheredRow). row_weighed view.read (whole_of (record { head = c.args.head; came = g }))) c.in_ok-came.ensures in
    let its : ((c.args.head.table == c.args.head.table) && same_row c.args.head.row c.args.head.row) ≡ true =
    ap (λ (b : Bool). b && same_row c.args.head.row c.args.head.row) (same_number c.args.head.table) ∙ same_row-refl c.args.head.row in
    let all : list_all (is_of_row c.args.head.table c.args.head.row) (row_weighed_of c.in_ok-weighed.weighed).rows ≡ true =
    ap (λ (w : WholeTaken). list_all (is_of_row c.args.head.table c.args.head.row) w.rows) is
    ∙ of_its_row c.args.head.table c.args.head.row a (slots_at opened c.args.row.row) (row_at c.args.head c.args.row view.chunk) its view.read in
    IfOk-weaker c.settle_row.result _ _
    (λ told got. taken_as c.args.head.table _ _ c.settle_row.new.self told
    (row_kept opened view a c.args.head c.args.row h (row_weighed_of c.in_ok-weighed.weighed) its (sym c.in_ok-is_named.ensures ∙ c.if-not-branch.false) is) got)
    (c.settle_row.ensures.settled c.args.head.table a k all)
