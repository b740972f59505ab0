use Rattle.chunker.proofs.Pieces.{kept_step, fresh_step}
use Rattle.chunker.proofs.against.pieces_against.Goals as goal
use Rattle.chunker.proofs.against.pieces_against.Goals.{in-Some+in_ok-push-in-Some, in-None+in_ok-push-in-None}

pub loop-place-preserved : goal.loop-place-preserved
loop-place-preserved c =
    let within = rw c.as_slice-chunk-items.ensures at c.loop-place-test.true in
    let item = rw c.as_slice-chunk-items.ensures at c.chunk-item.is in
    elim c.match-kept.branch [
      | in-Some+in_ok-push-in-Some w ↦ rw (w.pieces-is, w.next-is, w.in_ok-push-in-Some.ensures.ok)
          (kept_step _ _ _ _ _ _ _ within item c.loop-place.invariant _ w.in-Some.ensures)
      | in-None+in_ok-push-in-None w ↦ rw (w.pieces-is, w.next-is, w.in_ok-push-in-None.ensures.ok)
          (fresh_step _ _ _ _ _ _ _ within item c.loop-place.invariant w.in-None.ensures)
    ]
