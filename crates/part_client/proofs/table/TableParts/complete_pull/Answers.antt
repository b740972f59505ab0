use Rattle.std.proofs.Common.{◌≡◌, ◌∙◌, Option, true, sym, ap, subst}
use Rattle.std.specs.List.{list_all}
use Rattle.std.proofs.lemmas.Result.{IfOk-weaker}
use Rattle.assemblies.specs.Gathering.{is_whole}
use Rattle.part_tables.specs.ClientParts.{Answering, ClientTaken, is_of_table, without_table}
use Rattle.part_client.specs.declared.pulls.Pulling.{Pulling}
use Rattle.part_client.specs.declared.table.TableParts.{TableParts}
use Rattle.part_client.specs.Weighing.{answering_of, weighed_of, pull_weighed}
use Rattle.part_client.specs.Calls.{is_pull_whole}
use Rattle.part_client.specs.Keeping.{KeepsTable}
use Rattle.part_contents.proofs.Filters.{passes}
use Rattle.part_client.proofs.Settled.{taken_as, nothing_changes, no_pull_stands, pull_found, same_pull, always_err}
use Rattle.part_client.proofs.Arrivals.{complete_kept, still_waits, of_its_table}
use Rattle.part_client.proofs.table.TableParts.complete_pull.Goals as goal

pub returns-in_err-weighed-in-Some-clause-memory : goal.returns-in_err-weighed-in-Some-clause-memory
returns-in_err-weighed-in-Some-clause-memory c table a k =
    always_err c.from_residual.result _
    (subst (λ (o : Option Pulling). KeepsTable table (record a { pulls = without_table table a.pulls }) (record { pull = o; rows = c.args.self.now.rows; torn = c.args.self.now.torn }))
    (sym c.in-Some.ensures.2) (no_pull_stands table a c.args.self.now k))

pub returns-in-None-clause-taken : goal.returns-in-None-clause-taken
returns-in-None-clause-taken c opened table row a x k found h =
    let parts : TableParts = record { pull = c.whole_pull.new.pull; rows = c.args.self.now.rows; torn = c.args.self.now.torn } in
    taken_as table _ _ parts _
    (sym (still_waits opened table row a x (ap is_pull_whole (sym found ∙ pull_found table a c.args.self.now k) ∙ c.in-None.ensures.0)))
    (nothing_changes table a parts (subst (λ (o : Option Pulling). KeepsTable table a (record { pull = o; rows = c.args.self.now.rows; torn = c.args.self.now.torn })) (sym c.in-None.ensures.1) k))

pub returns-in_ok-weighed-in-Some-clause-taken : goal.returns-in_ok-weighed-in-Some-clause-taken
returns-in_ok-weighed-in-Some-clause-taken c opened table row a x k found h =
    let view = c.args.held.now in
    let same : answering_of c.in-Some.x ≡ x = same_pull table a c.args.self.now k x c.in-Some.x found c.in-Some.ensures.0 in
    let whole : is_whole x.slots ≡ true = ap (λ (y : Answering). is_whole y.slots) (sym same) ∙ c.in-Some.ensures.1 in
    let is : weighed_of c.in_ok-weighed-in-Some.weighed ≡ pull_weighed view.chunk view.read view.held.items x =
    c.in_ok-weighed-in-Some.ensures ∙ ap (pull_weighed view.chunk view.read view.held.items) same in
    let all : list_all (is_of_table table) (weighed_of c.in_ok-weighed-in-Some.weighed).answerings ≡ true =
    ap (λ (w : ClientTaken). list_all (is_of_table table) w.answerings) is ∙ of_its_table table view.chunk view.read view.held.items x (passes (is_of_table table) a.pulls x found) in
    let left = subst (λ (o : Option Pulling). KeepsTable table (record a { pulls = without_table table a.pulls }) (record { pull = o; rows = c.args.self.now.rows; torn = c.args.self.now.torn }))
    (sym c.in-Some.ensures.2) (no_pull_stands table a c.args.self.now k) in
    IfOk-weaker c.settle_pull.result _ _
    (λ told got. taken_as table _ _ c.settle_pull.new.self told (complete_kept opened view table row a x (weighed_of c.in_ok-weighed-in-Some.weighed) (h whole) whole is) got)
    (c.settle_pull.ensures.settled table (record a { pulls = without_table table a.pulls }) left all)

pub returns-in_ok-weighed-in-Some-clause-memory : goal.returns-in_ok-weighed-in-Some-clause-memory
returns-in_ok-weighed-in-Some-clause-memory c table a k =
    c.settle_pull.ensures.memory table (record a { pulls = without_table table a.pulls })
    (subst (λ (o : Option Pulling). KeepsTable table (record a { pulls = without_table table a.pulls }) (record { pull = o; rows = c.args.self.now.rows; torn = c.args.self.now.torn }))
    (sym c.in-Some.ensures.2) (no_pull_stands table a c.args.self.now k))
