use Rattle.std.proofs.Common.{◌≡◌, ◌∙◌, Option, Some, None, List, ℕ, option_map, sym, ap, rules, codes}
use Rattle.std.specs.Prelude.{option_and_then}
use Rattle.command_words.specs.declared.command.Command.TheVariants.{Load}
use Rattle.command_words.specs.Commands.{number_of}
use Rattle.command_words.proofs.Found.{load_in}
use Rattle.command_words.proofs.command.command_in.Goals as goal

pub returns-in_err-get_str-in-load : goal.returns-in_err-get_str-in-load
returns-in_err-get_str-in-load c =
    let name : c.in_ok-name.name.now ≡ codes "load" = search rules in
    c.from_residual-in_err-get_str-in-load.ensures
    ∙ load_in c.args.matches.now c.in_ok-name.words.now None (ap Some (sym name) ∙ c.in_ok-name.ensures.name) c.in_ok-name.ensures.rows c.in_err-get_str-in-load.ensures

pub returns-in_err-number-in-load : goal.returns-in_err-number-in-load
returns-in_err-number-in-load c =
    let name : c.in_ok-name.name.now ≡ codes "load" = search rules in
    c.from_residual-in_err-number-in-load.ensures ∙ ap (option_map Load) c.in_err-number-in-load.ensures
    ∙ load_in c.args.matches.now c.in_ok-name.words.now (Some c.in_ok-get_str-in-load.field-0.now) (ap Some (sym name) ∙ c.in_ok-name.ensures.name) c.in_ok-name.ensures.rows
    c.in_ok-get_str-in-load.ensures

pub returns-in_ok-number-in-load : goal.returns-in_ok-number-in-load
returns-in_ok-number-in-load c =
    let name : c.in_ok-name.name.now ≡ codes "load" = search rules in
    ap (option_map Load) c.in_ok-number-in-load.ensures
    ∙ load_in c.args.matches.now c.in_ok-name.words.now (Some c.in_ok-get_str-in-load.field-0.now) (ap Some (sym name) ∙ c.in_ok-name.ensures.name) c.in_ok-name.ensures.rows
    c.in_ok-get_str-in-load.ensures
