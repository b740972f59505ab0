use Rattle.std.proofs.Common.{sym, subst}
use Rattle.wire_steps.specs.Holds.{HasGatheredThere}
use Rattle.wire_steps.proofs.Maps.{none_gathered}
use Rattle.wire_steps.proofs.memory.asks_for_row.Goals as goal

pub returns-in-Some : goal.returns-in-Some
returns-in-Some c gs p h e = c.needs_row.ensures.needs gs p (subst (HasGatheredThere gs) (sym c.in-Some.ensures.value) h) e

pub returns-in-None : goal.returns-in-None
returns-in-None c gs p h e =
    c.needs_row-in-None.ensures.needs gs p (none_gathered c.new.result gs c.new.ensures.nothing (subst (HasGatheredThere gs) (sym c.in-None.ensures.value) h)) e
