use Rattle.std.proofs.Common.{◌∙◌, sym}
use Rattle.script_text.proofs.NumberLemmas.{kept-number, new-number}
use Rattle.script_text.proofs.declared_table.put_number.Goals as goal

pub returns-then-contains_key : goal.returns-then-contains_key
returns-then-contains_key c = kept-number c.args.numbers.now.entries c.args.name.now c.args.number (sym c.contains_key.ensures ∙ c.if-contains_key.true)

pub returns : goal.returns
returns c = λ w.
    rw c.in_ok-_none.ensures.entries
    (new-number c.args.numbers.now.entries c.args.name.now c.args.number c.in_ok-name.name c.in_ok-name.ensures.items (sym c.contains_key.ensures ∙ c.if-contains_key.false) w)
