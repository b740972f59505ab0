use Rattle.std.proofs.Common.{◌≡◌, List, ℕ, sym, ap, refl, ◌∙◌, true}
use Rattle.std.specs.Str.{is_utf8}
use Rattle.std.proofs.lemmas.Str.{is_utf8-from_IsUtf8}
use Rattle.select_lang.specs.Words.{cell_at, cell_of, value_of}
use Rattle.script_words.specs.Values.{value_at}
use Rattle.select_lang.proofs.Names.{not_utf8}
use Rattle.select_lang.proofs.words.cell_at.Goals as goal

pub returns-in_default : goal.returns-in_default
unfolding cell_at
returns-in_default c = rw (not_utf8 c.args.word.now c.in_default.ensures.cases.0) refl

pub returns-in-Some : goal.returns-in-Some
unfolding cell_at
returns-in-Some c =
    let h = c.in-Ok.ensures.cases in
    let k = c.in_ok-value.ensures in
    let utf8 : is_utf8 c.args.word.now ≡ true = is_utf8-from_IsUtf8 c.args.word.now h.1 in
    rw utf8 (c.of_kind.ensures ∙ ap (cell_of c.args.kind) (sym c.in-Some.is ∙ k ∙ ap (λ (w : List ℕ). value_of (value_at w)) h.0))
