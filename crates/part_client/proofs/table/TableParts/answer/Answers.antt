use Rattle.std.proofs.Common.{◌≡◌, ◌∙◌, ℕ, true, sym, ap}
use Rattle.std.specs.Prelude.{◌==◌}
use Rattle.std.specs.List.{list_all}
use Rattle.std.proofs.lemmas.Result.{IfOk-weaker}
use Rattle.part_tables.specs.ClientParts.{ClientTaken, is_of_table}
use Rattle.part_client.specs.Gathered.{GatheredRow}
use Rattle.part_client.specs.Weighing.{answering_of, weighed_of, pull_weighed}
use Rattle.part_client.proofs.Stands.{same_number}
use Rattle.part_client.proofs.Settled.{taken_as}
use Rattle.part_client.proofs.Arrivals.{answering_at, answer_kept, of_its_table}
use Rattle.part_client.proofs.table.TableParts.answer.Goals as goal

pub returns-clause-taken : goal.returns-clause-taken
returns-clause-taken c opened a k h =
    let view = c.args.held.now in
    let is : weighed_of c.in_ok-weighed.weighed ≡ pull_weighed view.chunk view.read view.held.items (answering_at c.args.head c.args.row view.chunk) =
    c.in_ok-weighed.ensures ∙ ap (λ (g : GatheredRow). pull_weighed view.chunk view.read view.held.items (answering_of (record { head = c.args.head; came = g }))) c.in_ok-came.ensures in
    let all : list_all (is_of_table c.args.head.table) (weighed_of c.in_ok-weighed.weighed).answerings ≡ true =
    ap (λ (w : ClientTaken). list_all (is_of_table c.args.head.table) w.answerings) is
    ∙ of_its_table c.args.head.table view.chunk view.read view.held.items (answering_at c.args.head c.args.row view.chunk) (same_number c.args.head.table) in
    let there : (c.args.head.from == view.position) ≡ true = ap (λ (p : ℕ). c.args.head.from == p) (sym c.if-head-held.false) ∙ same_number c.args.head.from in
    IfOk-weaker c.settle_pull.result _ _
    (λ told got. taken_as c.args.head.table _ _ c.settle_pull.new.self told
    (answer_kept opened view a c.args.head c.args.row (weighed_of c.in_ok-weighed.weighed) h there (sym c.in_ok-is_named.ensures ∙ c.if-not-branch.false) is) got)
    (c.settle_pull.ensures.settled c.args.head.table a k all)
