use Rattle.std.proofs.Common.{◌∙◌, refl, sym}
use Rattle.std.proofs.lemmas.Result.{err_from_is_err_and}
use Rattle.script_text.specs.Names.{texts_of}
use Rattle.script_text.proofs.TableLemmas.{tables_in-init, tables_in-turn, tables_in-twice, tables_in-fault, tables_in-end, named-turn}
use Rattle.script_text.proofs.Distinct.{met, unmet}
use Rattle.script_text.proofs.places.opened.Goals as goal

pub loop-word-init : goal.loop-word-init
loop-word-init c = record { read = tables_in-init c.args.names.now c.args.words.now c.new.result c.new.ensures; named = λ w. rw c.new-named.ensures.empty refl }

pub returns-in_err-table : goal.returns-in_err-table
returns-in_err-table c =
    let p = err_from_is_err_and c.from_residual.result c.from_residual.ensures.1 in
    rw (p.1, p.2)
    (tables_in-fault c.args.names.now c.args.words.now c.loop-word.word-index _ c.loop-word.tables c.loop-word-test.true c.loop-word.invariant.read c.in_err-table.field-0.0 (sym c.in_err-table.ensures))

pub returns-then-not-branch : goal.returns-then-not-branch
returns-then-not-branch c =
    let again = met _ _ c.in_ok-put_name.ensures.added c.if-not-branch.true in
    rw c.into.ensures
    (tables_in-twice c.args.names.now c.args.words.now c.loop-word.word-index _ c.loop-word.tables c.loop-word-test.true c.loop-word.invariant.read c.in_ok-table.table (sym c.in_ok-table.ensures)
    (rw c.as_bytes.ensures.value at (sym (c.loop-word.invariant.named c.as_bytes.result.now) ∙ again)))

pub loop-word-preserved : goal.loop-word-preserved
loop-word-preserved c =
    let part = c.as_bytes.result.now in
    let fresh = unmet _ _ c.in_ok-put_name.ensures.added c.if-not-branch.false in
    record {
      read = rw c.in_ok-tables.ensures
          (tables_in-turn c.args.names.now c.args.words.now c.loop-word.word-index _ c.loop-word.tables c.loop-word-test.true c.loop-word.invariant.read c.in_ok-table.table (sym c.in_ok-table.ensures)
          (rw c.as_bytes.ensures.value at (sym (c.loop-word.invariant.named part) ∙ fresh)));
      named = named-turn c.args.words.now c.loop-word.word-index _ (texts_of c.loop-word.named) (texts_of c.put_name.new.names) c.loop-word-test.true
          (rw c.as_bytes.ensures.value at c.in_ok-put_name.ensures.put) c.loop-word.invariant.named;
    }

pub returns : goal.returns
returns c = tables_in-end c.args.names.now c.args.words.now c.loop-word.word-index c.loop-word.tables c.loop-word-test.false c.loop-word.invariant.read
