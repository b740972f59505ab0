use Rattle.std.proofs.Common.{ap}
use Rattle.client_journal.specs.NamedSlots.{names_if}
use Rattle.plan_bench.proofs.Turns.{same_names}
use Rattle.plan_bench.proofs.old_name.old_name.Goals as goal

pub returns-clause-names : goal.returns-clause-names
returns-clause-names g c = same_names _ _ c.single_of.result (ap names_if c.in_ok-found.ensures.found) c.single_of.ensures
