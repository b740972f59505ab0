use Rattle.std.proofs.Common.{◌+◌, ◌∙◌, sym, ap}
use Rattle.std.proofs.lemmas.Result.{err_from_is_err_and}
use Rattle.script_text.specs.Places.{Values, value_behind, with_value}
use Rattle.script_text.proofs.Each.{left, each-turn, each-fault, each-end}
use Rattle.script_text.proofs.contents.values_of.Goals as goal

pub returns-in_err-value : goal.returns-in_err-value
returns-in_err-value c =
    let p = err_from_is_err_and c.from_residual.result c.from_residual.ensures.1 in
    rw (p.1, p.2)
    (each-fault value_behind with_value c.args.at c.loop-i.i c.args.words.now _ (c.loop-i.cells, c.loop-i.objects) _ c.loop-i-test.true c.loop-i.invariant c.in_err-value.field-0.0 c.in_err-value.ensures)

pub loop-i-preserved : goal.loop-i-preserved
loop-i-preserved c =
    let turn = each-turn value_behind with_value c.args.at c.loop-i.i c.args.words.now _ (c.loop-i.cells, c.loop-i.objects) _ c.loop-i-test.true c.loop-i.invariant c.in_ok-value.value c.in_ok-value.ensures in
    turn ∙ ap (λ (row : Values). left value_behind with_value c.args.at c.args.words.now (c.loop-i.i + 1) row) (sym c.in_ok-put_value.ensures)

pub returns : goal.returns
returns c = each-end value_behind with_value c.args.at c.loop-i.i c.args.words.now (c.loop-i.cells, c.loop-i.objects) _ c.loop-i-test.false c.loop-i.invariant
