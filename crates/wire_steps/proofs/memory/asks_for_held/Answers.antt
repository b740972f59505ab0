use Rattle.std.proofs.Common.{sym, subst}
use Rattle.wire_steps.specs.Holds.{KeepsThere}
use Rattle.wire_steps.proofs.Maps.{none_kept}
use Rattle.wire_steps.proofs.memory.asks_for_held.Goals as goal

pub returns-in-Some : goal.returns-in-Some
returns-in-Some c a p h e = c.needs_row.ensures.needs a p (subst (KeepsThere a) (sym c.in-Some.ensures.value) h) e

pub returns-in-None : goal.returns-in-None
returns-in-None c a p h e =
    c.needs_row-in-None.ensures.needs a p (none_kept c.new.result a c.new.ensures.nothing (subst (KeepsThere a) (sym c.in-None.ensures.value) h)) e
