use Rattle.std.proofs.lemmas.Result.{err_from_is_err_and}
use Rattle.script_text.specs.Names.{columns_of}
use Rattle.script_text.specs.Places.{next_change, with_change}
use Rattle.script_text.proofs.Each.{each-turn, each-fault, each-end}
use Rattle.script_text.proofs.edits.changes_of.Goals as goal

pub returns-in_err-change : goal.returns-in_err-change
returns-in_err-change c =
    let p = err_from_is_err_and c.from_residual.result c.from_residual.ensures.1 in
    rw (p.1, p.2)
    (each-fault (next_change (columns_of c.args.names.now c.args.table)) with_change c.args.at c.loop-i.i c.args.words.now _ c.loop-i.changes _ c.loop-i-test.true c.loop-i.invariant
    c.in_err-change.field-0.0 c.in_err-change.ensures)

pub loop-i-preserved : goal.loop-i-preserved
loop-i-preserved c =
    rw c.in_ok-push.ensures.ok
    (each-turn (next_change (columns_of c.args.names.now c.args.table)) with_change c.args.at c.loop-i.i c.args.words.now _ c.loop-i.changes _ c.loop-i-test.true c.loop-i.invariant
    c.in_ok-change.change c.in_ok-change.ensures)

pub returns : goal.returns
returns c =
    each-end (next_change (columns_of c.args.names.now c.args.table)) with_change c.args.at c.loop-i.i c.args.words.now c.loop-i.changes _ c.loop-i-test.false c.loop-i.invariant
