use Rattle.std.proofs.Common.{drop}
use Rattle.std.proofs.lemmas.Result.{err_from_is_err_and}
use Rattle.value_codec.specs.Reading.{after_piece, piece_in, items_at}
use Rattle.value_codec.proofs.Items.{goes_on, ends, is_done}
use Rattle.value_codec.proofs.FreshOrder.{count_with}
use Rattle.value_codec.proofs.piece_reader.take_piece_items.Goals as goal

pub returns-in_err-piece-clause-value : goal.returns-in_err-piece-clause-value
returns-in_err-piece-clause-value c =
    let p = err_from_is_err_and c.from_residual.result c.from_residual.ensures.1 in
    rw (p.1, p.2) (ends after_piece piece_in c.in_err-piece.field-0.0 c.args.bytes.now c.loop.next c.loop.pieces c.args.count c.loop.counter (drop c.loop.place c.args.bytes.now) (items_at after_piece piece_in c.args.fresh c.args.count (drop c.args.at c.args.bytes.now)) c.loop-test.true c.in_err-piece.ensures.value c.loop.invariant.so_far)

pub loop-preserved : goal.loop-preserved
loop-preserved c = record {
  so_far = rw (c.in_ok-push.ensures.ok, c.after_piece-next.ensures) (goes_on after_piece piece_in c.loop.next c.loop.pieces c.args.count c.loop.counter (drop c.loop.place c.args.bytes.now) c.in_ok-piece.piece (drop c.in_ok-piece.behind c.args.bytes.now) (items_at after_piece piece_in c.args.fresh c.args.count (drop c.args.at c.args.bytes.now)) c.loop-test.true c.in_ok-piece.ensures.value c.loop.invariant.so_far);
  within = c.in_ok-piece.ensures.within;
  counted = rw (c.in_ok-push.ensures.ok, c.after_piece-next.ensures) (count_with c.loop.pieces c.in_ok-piece.piece c.args.fresh c.loop.next c.loop.invariant.counted);
  room = rw c.after_piece-next.ensures (c.in_ok-piece.ensures.room c.loop.invariant.room);
}

pub returns-clause-value : goal.returns-clause-value
returns-clause-value c = is_done after_piece piece_in c.loop.next c.loop.pieces c.args.count c.loop.counter (drop c.loop.place c.args.bytes.now) (items_at after_piece piece_in c.args.fresh c.args.count (drop c.args.at c.args.bytes.now)) c.loop-test.false c.loop.invariant.so_far
