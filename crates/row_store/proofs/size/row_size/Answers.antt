use Rattle.std.proofs.Common.{◌≡◌, ◌+◌, ◌*◌, ℕ, length, sym, subst, arith}
use Rattle.value_codec.specs.Spelling.{content_spelling}
use Rattle.row_store.specs.Spelling.{row_payload}
use Rattle.row_store.specs.Size.{IsSum}
use Rattle.row_store.proofs.Again.{few}
use Rattle.row_store.proofs.Lengths.{row_len}
use Rattle.row_store.proofs.size.row_size.Goals as goal

pub overflow_mul-len : goal.overflow_mul-len
overflow_mul-len c = omega (arith, few c.args.stored.now.pairs c.requires.lasts, c.len.ensures)

pub overflow_add-len : goal.overflow_add-len
overflow_add-len c = omega (arith, few c.args.stored.now.pairs c.requires.lasts, c.len.ensures)

pub add_content-requires-clause-within : goal.add_content-requires-clause-within
add_content-requires-clause-within c = omega (arith, few c.args.stored.now.pairs c.requires.lasts, c.len.ensures)

pub returns : goal.returns
returns c =
    let stored = c.args.stored.now in
    let same : length (row_payload stored) ≡ (29 + 20 * c.len.result) + length (content_spelling stored.content) = omega (arith, row_len stored, c.requires.row, c.len.ensures) in
    subst (λ (n : ℕ). IsSum n c.add_content.result) (sym same) c.add_content.ensures
