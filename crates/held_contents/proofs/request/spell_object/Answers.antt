use Rattle.held_contents.proofs.Spellings.{less_left, nothing_left}
use Rattle.held_contents.proofs.request.spell_object.Goals as goal

pub loop-piece-preserved : goal.loop-piece-preserved
loop-piece-preserved c =
    rw c.behind-left.ensures
    (less_left c.args.read.now c.args.now.now c.loop-piece.left.now c.loop-piece._piece-index c.args.next c.loop-piece.number c.args.pieces.now c.loop-piece.pieces c.loop-piece.invariant c.loop-piece-item.result
    c.loop-piece-item.result c.loop-piece-test.true c.loop-piece-item.is c.in_ok-number.number c.spell_chunk.new.pieces c.in_ok-number.ensures.next c.in_ok-number.ensures.adds c.in_ok-number.ensures.spelled)

pub returns : goal.returns
returns c =
    nothing_left c.args.read.now c.args.now.now c.loop-piece.left.now c.loop-piece._piece-index c.args.next c.loop-piece.number c.args.pieces.now c.loop-piece.pieces c.loop-piece.invariant c.loop-piece-test.false
