use Rattle.std.proofs.Common.{refl}
use Rattle.store_commit.proofs.Plans.{set_more}
use Rattle.store_commit.proofs.plan.set_of.Goals as goal

pub loop-name-preserved : goal.loop-name-preserved
loop-name-preserved c =
    set_more c.loop-name.set c.insert.new.self c.args.names.now c.loop-name.name-index _ _ c.loop-name-test.true refl c.loop-name.invariant c.in_ok-insert.ensures.updates.0
