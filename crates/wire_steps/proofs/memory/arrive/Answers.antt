use Rattle.std.proofs.Common.{sym, ap, subst}
use Rattle.std.specs.Prelude.{is_some}
use Rattle.std.proofs.lemmas.Result.{IfOk-weaker}
use Rattle.part_tables.specs.Arriving.{arrived}
use Rattle.wire_steps.specs.Holds.{KeepsThere}
use Rattle.wire_steps.proofs.Maps.{put_here, put_other, any_other, came_here}
use Rattle.wire_steps.proofs.memory.arrive.Goals as goal

pub returns-in-Some-clause-taken : goal.returns-in-Some-clause-taken
returns-in-Some-clause-taken c opened a p h e held =
    let new = c.get_mut.follows.lender c.take.new.self in
    let at = ((c.get_mut.follows.holds c.take.new.self).3 (ap is_some (sym c.in-Some.ensures.value))).0 in
    IfOk-weaker c.take.result _ _
    (λ told k. came_here (arrived opened a p) c.take.new.self told _ (put_here c.args.arriving.now new c.args.client c.take.new.self at) k)
    (c.take.ensures.taken opened a p (subst (KeepsThere a) (sym c.in-Some.ensures.value) h) e held)

pub returns-in-Some-clause-others : goal.returns-in-Some-clause-others
returns-in-Some-clause-others c q apart =
    let new = c.get_mut.follows.lender c.take.new.self in
    let at = ((c.get_mut.follows.holds c.take.new.self).3 (ap is_some (sym c.in-Some.ensures.value))).0 in
    any_other c.take.result _ (put_other c.args.arriving.now new c.args.client c.take.new.self at q apart)

pub returns-in-None-clause-taken : goal.returns-in-None-clause-taken
returns-in-None-clause-taken c opened a p h e held =
    c.arrive_first.ensures.taken opened a p (subst (KeepsThere a) (sym c.in-None.ensures.value) h) e held
