use Rattle.std.proofs.Common.{sym, ap, subst}
use Rattle.std.specs.Prelude.{is_some}
use Rattle.std.proofs.lemmas.Result.{on_ok_weaker}
use Rattle.part_tables.specs.Arriving.{asking}
use Rattle.wire_steps.specs.Holds.{KeepsThere}
use Rattle.wire_steps.proofs.Maps.{put_here, put_other, any_other}
use Rattle.wire_steps.proofs.memory.ask.Goals as goal

pub returns-in-Some-clause-asks : goal.returns-in-Some-clause-asks
returns-in-Some-clause-asks c a h = c.ask.ensures.asks a (subst (KeepsThere a) (sym c.in-Some.ensures.value) h)

pub returns-in-Some-clause-kept : goal.returns-in-Some-clause-kept
returns-in-Some-clause-kept c a h =
    let new = c.get_mut.follows.lender c.ask.new.self in
    let at = ((c.get_mut.follows.holds c.ask.new.self).3 (ap is_some (sym c.in-Some.ensures.value))).0 in
    on_ok_weaker c.ask.result
    (λ k. subst (KeepsThere (asking c.args.table a)) (sym (put_here c.args.arriving.now new c.args.client c.ask.new.self at)) k)
    (c.ask.ensures.kept a (subst (KeepsThere a) (sym c.in-Some.ensures.value) h))

pub returns-in-Some-clause-others : goal.returns-in-Some-clause-others
returns-in-Some-clause-others c q apart =
    let new = c.get_mut.follows.lender c.ask.new.self in
    let at = ((c.get_mut.follows.holds c.ask.new.self).3 (ap is_some (sym c.in-Some.ensures.value))).0 in
    any_other c.ask.result _ (put_other c.args.arriving.now new c.args.client c.ask.new.self at q apart)

pub returns-in-None-clause-asks : goal.returns-in-None-clause-asks
returns-in-None-clause-asks c a h = c.ask_first.ensures.asks a (subst (KeepsThere a) (sym c.in-None.ensures.value) h)

pub returns-in-None-clause-kept : goal.returns-in-None-clause-kept
returns-in-None-clause-kept c a h = c.ask_first.ensures.kept a (subst (KeepsThere a) (sym c.in-None.ensures.value) h)
