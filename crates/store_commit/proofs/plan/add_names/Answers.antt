use Rattle.std.proofs.Common.{refl}
use Rattle.store_commit.proofs.Plans.{names_more}
use Rattle.store_commit.proofs.plan.add_names.Goals as goal

pub loop-piece-preserved : goal.loop-piece-preserved
loop-piece-preserved c =
    names_more c.args.names.now.items c.loop-piece.names.items c.add_name.new.names.items c.args.pieces.now c.loop-piece.piece-index _ _ c.loop-piece-test.true refl c.loop-piece.invariant c.in_ok-add_name.ensures
