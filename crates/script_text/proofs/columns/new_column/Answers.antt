use Rattle.std.proofs.Common.{◌≡◌, ◌∙◌, sym, ap, true, false, Bool}
use Rattle.std.specs.Prelude.{not, ◌&&◌}
use Rattle.row_value.specs.Fit.{is_object}
use Rattle.script_text.specs.Names.{texts_of}
use Rattle.script_text.proofs.ColumnLemmas.{column-twice, column-new, set-named, no_column}
use Rattle.script_text.proofs.columns.new_column.Goals as goal

pub returns-in_default-clause-judged : goal.returns-in_default-clause-judged
returns-in_default-clause-judged c = λ before set objects. rw c.into.ensures (no_column before c.args.word.now c.in_default.ensures)

pub returns-then-not-branch-clause-judged : goal.returns-then-not-branch-clause-judged
returns-then-not-branch-clause-judged c = λ before set objects.
    rw c.into-then-not-branch.ensures
    (column-twice before (texts_of c.args.named.now) c.args.word.now (c.in-Some.name.now, c.in-Some.kind) c.in_ok-put_name.field-0 c.in-Some.ensures
    (rw c.as_bytes.ensures.value at c.in_ok-put_name.ensures.added) set c.if-not-branch.true)

pub returns-then-is_late-clause-judged : goal.returns-then-is_late-clause-judged
returns-then-is_late-clause-judged c = λ before set objects.
    rw c.into-then-is_late.ensures
    (column-new before (texts_of c.args.named.now) c.args.word.now (c.in-Some.name.now, c.in-Some.kind) c.in_ok-put_name.field-0 c.in-Some.ensures
    (rw c.as_bytes.ensures.value at c.in_ok-put_name.ensures.added) set c.if-not-branch.false true
    (ap (λ (b : Bool). b && not (is_object c.in-Some.kind)) (sym objects) ∙ sym c.is_late.ensures ∙ c.if-is_late.true))

pub returns-clause-judged : goal.returns-clause-judged
returns-clause-judged c = λ before set objects.
    let name : c.in_ok-name.name ≡ c.in-Some.name.now = c.in_ok-name.ensures ∙ c.as_bytes-2.ensures.value in
    rw name
    (column-new before (texts_of c.args.named.now) c.args.word.now (c.in-Some.name.now, c.in-Some.kind) c.in_ok-put_name.field-0 c.in-Some.ensures
    (rw c.as_bytes.ensures.value at c.in_ok-put_name.ensures.added) set c.if-not-branch.false false
    (ap (λ (b : Bool). b && not (is_object c.in-Some.kind)) (sym objects) ∙ sym c.is_late.ensures ∙ c.if-is_late.false))

pub returns-clause-named : goal.returns-clause-named
returns-clause-named c = λ before set.
    let name : c.in_ok-name.name ≡ c.in-Some.name.now = c.in_ok-name.ensures ∙ c.as_bytes-2.ensures.value in
    rw name
    (set-named before (texts_of c.args.named.now) (texts_of c.put_name.new.names) (record { name = c.in-Some.name.now; kind = c.in-Some.kind })
    (rw c.as_bytes.ensures.value at c.in_ok-put_name.ensures.put) set)
