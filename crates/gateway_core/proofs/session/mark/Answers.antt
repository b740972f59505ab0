use Rattle.std.proofs.Common.{sym, ap, ◌∙◌}
use Rattle.std.specs.Ordering.{nat_cmp}
use Rattle.std.specs.BTreeMap.{is_at}
use Rattle.std.specs.Map.{set_value}
use Rattle.gate_tables.specs.declared.timer.Timer.{Timer}
use Rattle.gateway_core.proofs.TimerLists.{marked_at, marked_none}
use Rattle.gateway_core.proofs.session.mark.Goals as goal

pub returns-in-Some-clause-marked : goal.returns-in-Some-clause-marked
returns-in-Some-clause-marked c = (c.get_mut.follows.holds c.marked.result).0
    ∙ ap (λ (timer : Timer). set_value (is_at (nat_cmp c.args.table)) c.args.timers.now.entries timer) c.marked.ensures
    ∙ marked_at c.args.table c.in-Some.timer.now c.args.timers.now.entries c.get_mut.ensures.ordered (sym c.in-Some.ensures.value)

pub returns-in-None-clause-marked : goal.returns-in-None-clause-marked
returns-in-None-clause-marked c = ap (λ m. m.entries) c.get_mut.follows.holds-at-none ∙ marked_none c.args.table c.args.timers.now.entries (sym c.in-None.ensures.value)
