use Rattle.std.proofs.Common.{drop, arith}
use Rattle.value_codec.specs.Reading.{exactly_at}
use Rattle.value_codec.proofs.Items.{exactly_on, exactly_short, exactly_other, exactly_done}
use Rattle.value_codec.proofs.field_reader.skip_exactly.Goals as goal

pub loop-byte-preserved : goal.loop-byte-preserved
loop-byte-preserved c = record {
  so_far = exactly_on c.args.text.now c.args.bytes.now c.loop-byte.byte-index c.loop-byte.place (exactly_at c.args.text.now (drop c.args.at c.args.bytes.now)) c.loop-byte-test.true (omega arith) c.if-bytes-place.false c.loop-byte.invariant.so_far;
  within = omega arith;
}

pub returns-clause-value : goal.returns-clause-value
returns-clause-value c = exactly_done c.args.text.now (drop c.loop-byte.place c.args.bytes.now) c.loop-byte.byte-index (exactly_at c.args.text.now (drop c.args.at c.args.bytes.now)) c.loop-byte-test.false c.loop-byte.invariant.so_far

pub returns-then-place-bytes-clause-value : goal.returns-then-place-bytes-clause-value
returns-then-place-bytes-clause-value c = (c.loop-byte.invariant.within, exactly_short c.args.text.now c.args.bytes.now c.loop-byte.byte-index c.loop-byte.place (exactly_at c.args.text.now (drop c.args.at c.args.bytes.now)) c.loop-byte-test.true c.if-place-bytes.true c.loop-byte.invariant.so_far)

pub returns-then-bytes-place-clause-value : goal.returns-then-bytes-place-clause-value
returns-then-bytes-place-clause-value c = (c.loop-byte.invariant.within, exactly_other c.args.text.now c.args.bytes.now c.loop-byte.byte-index c.loop-byte.place (exactly_at c.args.text.now (drop c.args.at c.args.bytes.now)) c.loop-byte-test.true (omega arith) c.if-bytes-place.true c.loop-byte.invariant.so_far)
