use Rattle.std.proofs.Common.{refl}
use Rattle.std.specs.Prelude.{is_some}
use Rattle.chunk_store.specs.Standing.{chunks, chunk_in}
use Rattle.store_commit.proofs.Plans.{old_more}
use Rattle.store_commit.proofs.plan.old_names.Goals as goal

pub loop-name-preserved : goal.loop-name-preserved
loop-name-preserved g c =
    old_more (λ name. is_some (chunk_in (chunks g.D.Disk.state c.args.dev.now) name)) c.args.kept.now c.args.names.now c.loop-name.met c.meet.new.met c.loop-name.old.items c.meet.new.old.items c.loop-name.name-index _ _ c.loop-name-test.true refl
    c.loop-name.invariant c.in_ok-meet.ensures
