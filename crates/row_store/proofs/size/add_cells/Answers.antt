use Rattle.std.proofs.Common.{◌≡◌, ◌+◌, length, get_or, ap, arith}
use Rattle.row_value.specs.declared.content.Cell.{Cell}
use Rattle.value_codec.specs.Spelling.{cell_spelling}
use Rattle.row_store.proofs.Lengths.{next_len, front_len}
use Rattle.row_store.proofs.size.add_cells.Goals as goal

pub returns-in_err-sum : goal.returns-in_err-sum
returns-in_err-sum c =
    let xs = c.args.cells.now in
    let i = c.loop-cell.cell-index in
    let item = c.cell-item.result in
    let same : length (cell_spelling item) ≡ length (cell_spelling (get_or xs i item)) = ap (λ (x : Cell). length (cell_spelling x)) c.cell-item.is in
    rw c.from_residual.ensures (omega (arith, c.in_err-sum.ensures, c.loop-cell.invariant.sum, same, next_len cell_spelling i xs item c.loop-cell-test.true, front_len cell_spelling (i + 1) xs))
