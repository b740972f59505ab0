use Rattle.std.proofs.Common.{drop, arith}
use Rattle.value_codec.specs.Utf8.{between, utf8_rest}
use Rattle.value_codec.proofs.Utf8Places.{text_on, text_short, text_other, text_done}
use Rattle.value_codec.proofs.utf8.skip_utf8.Goals as goal

pub returns-then-place-bytes-clause-value : goal.returns-then-place-bytes-clause-value
returns-then-place-bytes-clause-value c = (c.loop-left.invariant.within, text_short c.loop-left.inside c.loop-left.left c.loop-left.place c.args.bytes.now (utf8_rest between c.args.len (drop c.args.at c.args.bytes.now)) c.loop-left-test.true c.if-place-bytes.true c.loop-left.invariant.so_far)

pub returns-in-None-clause-value : goal.returns-in-None-clause-value
returns-in-None-clause-value c = (c.loop-left.invariant.within, text_other c.loop-left.inside c.loop-left.left c.loop-left.place c.args.bytes.now (utf8_rest between c.args.len (drop c.args.at c.args.bytes.now)) c.loop-left-test.true (omega arith) c.in-None.ensures c.loop-left.invariant.so_far)

pub loop-left-preserved : goal.loop-left-preserved
loop-left-preserved c = record {
  so_far = text_on c.loop-left.inside c.in-Some.next c.loop-left.left c.loop-left.place c.args.bytes.now (utf8_rest between c.args.len (drop c.args.at c.args.bytes.now)) c.loop-left-test.true (omega arith) c.in-Some.ensures c.loop-left.invariant.so_far;
  within = omega arith;
  moved = omega arith;
}

pub returns-clause-value : goal.returns-clause-value
returns-clause-value c = text_done c.loop-left.inside c.loop-left.left (drop c.loop-left.place c.args.bytes.now) (utf8_rest between c.args.len (drop c.args.at c.args.bytes.now)) (omega arith) c.loop-left.invariant.so_far
