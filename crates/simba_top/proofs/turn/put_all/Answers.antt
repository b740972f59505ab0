use Rattle.simba_top.proofs.Puts.{front_then, on_err}
use Rattle.simba_top.proofs.turn.put_all.Goals as goal

pub returns-in_err-put-clause-err : goal.returns-in_err-put-clause-err
returns-in_err-put-clause-err g c =
    let holds = g.K.Sink.holds in
    on_err c.from_residual.result (front_then c.args.texts.now c.loop-text.text-index c.text-item.result
    (holds c.args.sink.now) (holds c.loop-text.sink) (holds c.put.new.self)
    c.loop-text-test.true c.text-item.is c.loop-text.invariant.written (rw c.as_slice.ensures at c.in_err-put.ensures.err))
