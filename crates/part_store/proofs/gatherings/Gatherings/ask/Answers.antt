use Rattle.std.proofs.Common.{sym, ap, subst, ◌∙◌}
use Rattle.std.specs.Prelude.{IfOk}
use Rattle.part_tables.specs.StoreParts.{Gathering, StoreTaken, without_client}
use Rattle.part_store.specs.Gathered.{head_in, gathering_in}
use Rattle.part_store.specs.Weighing.{made_by, settled}
use Rattle.part_store.specs.Calls.{IsTaken}
use Rattle.part_store.proofs.Views.{asked_is}
use Rattle.part_store.proofs.gatherings.Gatherings.ask.Goals as goal

pub returns-clause-taken : goal.returns-clause-taken
returns-clause-taken c items gs h v =
    let y : Gathering = gathering_in c.in_ok-x.x in
    let spelled = sym c.in_ok-is_spelled.ensures ∙ c.if-not-branch.false in
    subst (λ (t : StoreTaken). IfOk c.settle.result (IsTaken t c.settle.new.self)) (sym (asked_is c.args.scheme c.args.chunk items gs (head_in c.args.head) c.args.view.now v spelled))
    (subst (λ (x : Gathering). IfOk c.settle.result (IsTaken (settled (without_client c.args.head.client gs) x (made_by c.args.scheme c.args.chunk c.args.view.now x)) c.settle.new.self))
    c.in_ok-x.ensures
    (c.settle.ensures.taken gs y (made_by c.args.scheme c.args.chunk c.args.view.now y) h (ap (λ (x : Gathering). x.head.client) c.in_ok-x.ensures) c.in_ok-weighed.ensures))
