use Rattle.std.proofs.Common.{◌≡◌, ℕ, ◌<◌, List, length, sym, ◌∙◌, ap, refl}
use Rattle.std.specs.Prelude.{◌==◌, false}
use Rattle.std.specs.Int.{div_ceil}
use Rattle.std.proofs.Common.{arith}
use Rattle.std.proofs.lemmas.Bool.Decides.{nat_tests}
use Rattle.row_value.specs.Fit.{chunk_count}
use Rattle.step_tables.specs.Chunks.{cut}
use Rattle.row_pieces.proofs.Cuts.{cut_count}
use Rattle.row_pieces.proofs.counts.chunk_count.Goals as goal

counts : (size n count : ℕ) (object : List ℕ) → 0 < size → n ≡ length object → count ≡ div_ceil n size → count ≡ length (cut size object)
counts size n count object some at is =
    let sized : (size == 0) ≡ false = grind (arith, nat_tests) in
    let whole : chunk_count size object ≡ div_ceil (length object) size = rw sized refl in
    is ∙ (ap (λ (k : ℕ). div_ceil k size) at ∙ (sym whole ∙ sym (cut_count size object some)))

pub returns : goal.returns
returns c = counts c.args.size c.len.result c.div_ceil.result c.args.object.now c.requires c.len.ensures c.div_ceil.ensures
