use Rattle.std.proofs.Common.{◌≡◌, ℕ, List, Some, sym, ap, subst, ◌∙◌}
use Rattle.std.specs.Prelude.{IfOk, option_map}
use Rattle.std.proofs.lemmas.Result.{err_from_is_err_and}
use Rattle.part_tables.specs.StoreParts.{Gathering, StoreTaken, without_client}
use Rattle.part_store.specs.View.{IsViewOf}
use Rattle.part_store.specs.Gathered.{gathering_in}
use Rattle.part_store.specs.Weighing.{made_by, settled}
use Rattle.part_store.specs.Calls.{IsTaken}
use Rattle.part_store.proofs.Finds.{client_is, removed_has, twice}
use Rattle.part_store.proofs.Views.{weighed_is}
use Rattle.part_store.proofs.gatherings.Gatherings.complete.Goals as goal

some_same : (a b : Gathering) → Some a ≡ Some b → a ≡ b
some_same a b e = cc

pub returns-in_err-weighed-in-Some-clause-memory : goal.returns-in_err-weighed-in-Some-clause-memory
returns-in_err-weighed-in-Some-clause-memory c gs h =
    let p = err_from_is_err_and c.from_residual.result c.from_residual.ensures.1 in
    rw p.1 (record { each = removed_has c.args.self.now.waiting c.remove.new.self c.args.client gs h.each c.remove.ensures.updates.0 })

pub returns-in_ok-weighed-in-Some-clause-memory : goal.returns-in_ok-weighed-in-Some-clause-memory
returns-in_ok-weighed-in-Some-clause-memory c gs h =
    c.settle.ensures.memory (without_client c.args.client gs) (record { each = removed_has c.args.self.now.waiting c.remove.new.self c.args.client gs h.each c.remove.ensures.updates.0 })

pub returns-in_ok-weighed-in-Some-clause-taken : goal.returns-in_ok-weighed-in-Some-clause-taken
returns-in_ok-weighed-in-Some-clause-taken c items gs x h found v =
    let y : Gathering = gathering_in c.in-Some.x in
    let same : y ≡ x = some_same y x (ap (option_map gathering_in) (sym c.in-Some.is ∙ c.remove.ensures.value) ∙ (sym (h.each c.args.client) ∙ found)) in
    let client : x.head.client ≡ c.args.client = client_is c.args.client gs x found in
    let others : List Gathering = without_client c.args.client gs in
    let view : IsViewOf c.args.chunk items x.head.client x.head.row c.args.view.now = subst (λ (n : ℕ). IsViewOf c.args.chunk items n x.head.row c.args.view.now) (sym client) v in
    subst (λ (t : StoreTaken). IfOk c.settle.result (IsTaken t c.settle.new.self)) (sym (weighed_is c.args.scheme c.args.chunk items x c.args.view.now view others))
    (subst (λ (l : List Gathering). IfOk c.settle.result (IsTaken (settled l x (made_by c.args.scheme c.args.chunk c.args.view.now x)) c.settle.new.self)) (twice c.args.client gs)
    (subst (λ (z : Gathering). IfOk c.settle.result (IsTaken (settled (without_client c.args.client others) z (made_by c.args.scheme c.args.chunk c.args.view.now z)) c.settle.new.self)) same
    (c.settle.ensures.taken others y (made_by c.args.scheme c.args.chunk c.args.view.now y)
    (record { each = removed_has c.args.self.now.waiting c.remove.new.self c.args.client gs h.each c.remove.ensures.updates.0 })
    (ap (λ (z : Gathering). z.head.client) same ∙ client) c.in_ok-weighed-in-Some.ensures)))
