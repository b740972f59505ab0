use Rattle.std.proofs.Common.{◌∙◌, sym, ap, Some, true, false, to_z-of_z}
use Rattle.script_words.proofs.IntLemmas.{int_of-none, int_of-read, int_of-test}
use Rattle.script_words.proofs.values.int_of.Goals as goal

pub returns-in_default : goal.returns-in_default
returns-in_default c = int_of-none c.args.word.now c.in_default.field-0 (rw c.in_default.is at c.parse.ensures.value.0)

pub returns-then-eq : goal.returns-then-eq
returns-then-eq c =
    let h = int_of-read c.args.word.now c.in-Ok.number c.parse.result c.in-Ok.is c.parse.ensures.value.0 in
    let same = to_z-of_z h.1 in
    ap Some same ∙ sym (int_of-test c.args.word.now c.in-Ok.number c.parse.result c.in-Ok.is c.parse.ensures.value.0 true (rw (c.format.ensures.text, same) at c.if-eq.ensures))

pub returns-else-eq : goal.returns-else-eq
returns-else-eq c =
    let h = int_of-read c.args.word.now c.in-Ok.number c.parse.result c.in-Ok.is c.parse.ensures.value.0 in
    let same = to_z-of_z h.1 in
    sym (int_of-test c.args.word.now c.in-Ok.number c.parse.result c.in-Ok.is c.parse.ensures.value.0 false (rw (c.format.ensures.text, same) at c.if-eq.ensures))
