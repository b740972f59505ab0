use Rattle.std.proofs.Common.{◌≡◌, ◌+◌, ◌*◌, ℕ, length, sym, subst, arith}
use Rattle.value_codec.specs.Spelling.{object_spelling}
use Rattle.row_store.specs.Size.{IsSum}
use Rattle.row_store.proofs.Lengths.{object_len}
use Rattle.row_store.proofs.size.add_object.Goals as goal

pub returns-then-count : goal.returns-then-count
returns-then-count c = omega (arith, object_len c.args.object.now c.requires.keeps, c.len-count.ensures, c.if-count.true)

pub returns : goal.returns
returns c =
    let o = c.args.object.now in
    let same : c.args.len + length (object_spelling o) ≡ c.args.len + (8 + 13 * c.len-count.result) = omega (arith, object_len o c.requires.keeps, c.len-count.ensures) in
    subst (λ (n : ℕ). IsSum n c.add.result) (sym same) c.add.ensures
