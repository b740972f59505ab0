use Rattle.std.proofs.Common.{◌≡◌, ◌∙◌, sym, arith, leb, true, false}
use Rattle.std.proofs.lemmas.Bool.{le-leb, lt-leb}
use Rattle.script_words.proofs.WordLemmas.{length-read, length-none}
use Rattle.script_words.proofs.values.length_in.Goals as goal

pub returns-in-Ok : goal.returns-in-Ok
returns-in-Ok c =
    let h = length-read c.args.digits.now c.parse.result c.in-Ok.length (sym c.is_length.ensures ∙ c.if-not-is_length.false) c.parse.ensures.value.0 c.in-Ok.is in
    let most : leb c.in-Ok.length 33554432 ≡ true = le-leb _ _ c.if-length-le-REPEAT_MOST.true in
    sym (rw most at h)

pub returns-in_default : goal.returns-in_default
returns-in_default c =
    let h = length-read c.args.digits.now c.parse.result c.in-Ok.length (sym c.is_length.ensures ∙ c.if-not-is_length.false) c.parse.ensures.value.0 c.in-Ok.is in
    let more : leb c.in-Ok.length 33554432 ≡ false = lt-leb _ _ c.if-length-le-REPEAT_MOST.false in
    sym (rw more at h)

pub returns-in_default-2 : goal.returns-in_default-2
returns-in_default-2 c =
    sym (length-none c.args.digits.now c.parse.result c.in_default.field-0 (sym c.is_length.ensures ∙ c.if-not-is_length.false) c.parse.ensures.value.0 c.in_default.is)
