use Rattle.std.proofs.Common.{◌≡◌, ◌∙◌, true, sym, ap}
use Rattle.std.specs.List.{list_all}
use Rattle.std.proofs.lemmas.Result.{IfOk-weaker}
use Rattle.assemblies.specs.Gathering.{is_whole}
use Rattle.step_tables.specs.ClientMoves.{slots_at}
use Rattle.part_tables.specs.Arriving.{is_of_row, without_row}
use Rattle.part_client.specs.Weighing.{WholeTaken, whole_of, row_weighed_of, row_weighed}
use Rattle.part_client.specs.Calls.{is_row_whole}
use Rattle.part_contents.proofs.Filters.{passes}
use Rattle.part_client.proofs.Settled.{taken_as, no_row_stands, same_whole, always_err}
use Rattle.part_client.proofs.Arrivals.{complete_row_kept, of_its_row}
use Rattle.part_client.proofs.table.TableParts.complete_row.Goals as goal

pub returns-in_err-weighed-in-Some-clause-memory : goal.returns-in_err-weighed-in-Some-clause-memory
returns-in_err-weighed-in-Some-clause-memory c table a k =
    always_err c.from_residual.result _ (no_row_stands table a c.args.self.now k c.args.row c.whole_row.new.rows c.in-Some.ensures.2)

pub returns-in_ok-weighed-in-Some-clause-taken : goal.returns-in_ok-weighed-in-Some-clause-taken
returns-in_ok-weighed-in-Some-clause-taken c opened table a x k found h =
    let view = c.args.held.now in
    let same : whole_of c.in-Some.x ≡ x = same_whole table a c.args.self.now k c.args.row x c.in-Some.x found c.in-Some.ensures.0 in
    let whole : is_whole x.slots ≡ true = sym (ap is_row_whole (sym (k.rows c.args.row) ∙ found)) ∙ c.in-Some.ensures.1 in
    let its : is_of_row table c.args.row x ≡ true = passes (is_of_row table c.args.row) a.rows x found in
    let is : row_weighed_of c.in_ok-weighed-in-Some.weighed ≡ row_weighed view.read x = c.in_ok-weighed-in-Some.ensures ∙ ap (row_weighed view.read) same in
    let all : list_all (is_of_row table c.args.row) (row_weighed_of c.in_ok-weighed-in-Some.weighed).rows ≡ true =
    ap (λ (w : WholeTaken). list_all (is_of_row table c.args.row) w.rows) is ∙ of_its_row table c.args.row a (slots_at opened c.args.row) x its view.read in
    IfOk-weaker c.settle_row.result _ _
    (λ told got. taken_as table _ _ c.settle_row.new.self told (complete_row_kept opened view table c.args.row a x (row_weighed_of c.in_ok-weighed-in-Some.weighed) (h whole) its whole is) got)
    (c.settle_row.ensures.settled table (record a { rows = without_row table c.args.row a.rows })
    (no_row_stands table a c.args.self.now k c.args.row c.whole_row.new.rows c.in-Some.ensures.2) all)

pub returns-in_ok-weighed-in-Some-clause-memory : goal.returns-in_ok-weighed-in-Some-clause-memory
returns-in_ok-weighed-in-Some-clause-memory c table a k =
    c.settle_row.ensures.memory table (record a { rows = without_row table c.args.row a.rows })
    (no_row_stands table a c.args.self.now k c.args.row c.whole_row.new.rows c.in-Some.ensures.2)
