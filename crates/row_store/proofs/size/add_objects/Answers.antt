use Rattle.std.proofs.Common.{◌≡◌, ◌+◌, length, get_or, ap, arith}
use Rattle.row_value.specs.declared.pieces.PieceObject.{PieceObject}
use Rattle.value_codec.specs.Spelling.{object_spelling}
use Rattle.row_store.proofs.Lengths.{next_len, front_len}
use Rattle.row_store.proofs.size.add_objects.Goals as goal

pub returns-in_err-sum : goal.returns-in_err-sum
returns-in_err-sum c =
    let xs = c.args.objects.now in
    let i = c.loop-object.object-index in
    let item = c.object-item.result in
    let same : length (object_spelling item) ≡ length (object_spelling (get_or xs i item)) = ap (λ (x : PieceObject). length (object_spelling x)) c.object-item.is in
    rw c.from_residual.ensures (omega (arith, c.in_err-sum.ensures, c.loop-object.invariant.sum, same, next_len object_spelling i xs item c.loop-object-test.true, front_len object_spelling (i + 1) xs))
