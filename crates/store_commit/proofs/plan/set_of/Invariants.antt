use Rattle.std.proofs.Common.{take}
use Rattle.store_commit.specs.Update.{HasNames}
use Rattle.store_commit.proofs.plan.set_of.Given as goal

abbrev pub invariant-loop-name : goal.invariant-loop-name
invariant-loop-name l = HasNames (take l.name-index l.names) l.set
