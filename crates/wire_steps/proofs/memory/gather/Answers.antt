use Rattle.std.proofs.Common.{sym, ap, subst}
use Rattle.std.specs.Prelude.{is_some}
use Rattle.std.proofs.lemmas.Result.{IfOk-weaker}
use Rattle.part_tables.specs.StoreParts.{parted}
use Rattle.wire_steps.specs.Holds.{HasGatheredThere}
use Rattle.wire_steps.proofs.Maps.{put_here, put_other, any_other, taken_here}
use Rattle.wire_steps.proofs.memory.gather.Goals as goal

pub returns-in-Some-clause-taken : goal.returns-in-Some-clause-taken
returns-in-Some-clause-taken c items gs p h e view =
    let new = c.get_mut.follows.lender c.take.new.self in
    let at = ((c.get_mut.follows.holds c.take.new.self).3 (ap is_some (sym c.in-Some.ensures.value))).0 in
    IfOk-weaker c.take.result _ _
    (λ told k. taken_here (parted c.args.scheme c.args.chunk items gs p) c.take.new.self told _ (put_here c.args.gathered.now new c.args.table c.take.new.self at) k)
    (c.take.ensures.taken items gs p (subst (HasGatheredThere gs) (sym c.in-Some.ensures.value) h) e view)

pub returns-in-Some-clause-others : goal.returns-in-Some-clause-others
returns-in-Some-clause-others c q apart =
    let new = c.get_mut.follows.lender c.take.new.self in
    let at = ((c.get_mut.follows.holds c.take.new.self).3 (ap is_some (sym c.in-Some.ensures.value))).0 in
    any_other c.take.result _ (put_other c.args.gathered.now new c.args.table c.take.new.self at q apart)

pub returns-in-None-clause-taken : goal.returns-in-None-clause-taken
returns-in-None-clause-taken c items gs p h e view =
    c.gather_first.ensures.taken items gs p (subst (HasGatheredThere gs) (sym c.in-None.ensures.value) h) e view
