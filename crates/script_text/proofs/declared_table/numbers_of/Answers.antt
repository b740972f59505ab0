use Rattle.std.proofs.Common.{sym}
use Rattle.script_text.proofs.NumberLemmas.{finds-more}
use Rattle.script_text.proofs.declared_table.numbers_of.Goals as goal

pub loop-number-preserved : goal.loop-number-preserved
loop-number-preserved c =
    finds-more c.loop-number.numbers.entries c.put_number.new.numbers.entries c.args.columns.now c.loop-number.number _ c.index-columns-number.result
    c.loop-number-test.true (sym c.index-columns-number.is) c.loop-number.invariant
    (rw c.as_slice.ensures at c.in_ok-put_number.ensures)
