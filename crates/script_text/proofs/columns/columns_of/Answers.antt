use Rattle.std.proofs.Common.{◌∙◌, sym, ap, Bool}
use Rattle.std.specs.Prelude.{◌||◌}
use Rattle.row_value.specs.Fit.{is_object}
use Rattle.std.proofs.lemmas.Result.{err_from_is_err_and}
use Rattle.script_text.specs.Names.{texts_of}
use Rattle.script_text.specs.Places.{new_column_at, with_column, has_object}
use Rattle.script_text.proofs.Each.{each-turn, each-fault, each-end}
use Rattle.script_text.proofs.ColumnLemmas.{set-next, has_object-push}
use Rattle.script_text.proofs.columns.columns_of.Goals as goal

pub returns-in_err-column : goal.returns-in_err-column
returns-in_err-column c =
    let p = err_from_is_err_and c.from_residual.result c.from_residual.ensures.1 in
    rw (p.1, p.2)
    (each-fault new_column_at with_column c.args.at c.loop-i.i c.args.words.now _ c.loop-i.columns _ c.loop-i-test.true c.loop-i.invariant.read c.in_err-column.field-0.0
    (c.in_err-column.ensures.read c.loop-i.columns c.loop-i.invariant.named c.loop-i.invariant.objects))

pub loop-i-preserved : goal.loop-i-preserved
loop-i-preserved c = record {
  read = rw c.in_ok-push.ensures.ok
      (each-turn new_column_at with_column c.args.at c.loop-i.i c.args.words.now _ c.loop-i.columns _ c.loop-i-test.true c.loop-i.invariant.read c.in_ok-column.column
      (c.in_ok-column.ensures.read c.loop-i.columns c.loop-i.invariant.named c.loop-i.invariant.objects));
  named = set-next (texts_of c.column_at.new.named) c.loop-i.columns _ c.in_ok-column.column c.in_ok-push.ensures.ok
      (c.in_ok-column.ensures.named c.loop-i.columns c.loop-i.invariant.named);
  objects = c.with_object-objects.ensures ∙ ap (λ (b : Bool). b || is_object c.in_ok-column.column.kind) c.loop-i.invariant.objects
      ∙ sym (has_object-push c.loop-i.columns c.in_ok-column.column) ∙ ap has_object (sym c.in_ok-push.ensures.ok);
}

pub returns : goal.returns
returns c = each-end new_column_at with_column c.args.at c.loop-i.i c.args.words.now c.loop-i.columns _ c.loop-i-test.false c.loop-i.invariant.read
