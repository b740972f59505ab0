use Rattle.std.proofs.Common.{◌≡◌, ◌∙◌, map, sym, false, rules}
use Rattle.std.specs.List.{list_any}
use Rattle.clap.proofs.WalkLemmas.{list_any-map}
use Rattle.command_words.specs.Program.{is_flag}
use Rattle.command_words.proofs.Reading.{parse_answers}
use Rattle.command_words.proofs.command.parsed.Goals as goal

pub returns : goal.returns
returns g c =
    let plain : list_any is_flag (map g.S.AsStr.text c.args.words.now) ≡ false = sym (list_any-map is_flag g.S.AsStr.text c.args.words.now) ∙ c.requires in
    parse_answers (map g.S.AsStr.text c.args.words.now) plain _ c.try_get_matches_from.result c.in_ok-program.ensures c.try_get_matches_from.ensures.kinds
    c.try_get_matches_from.ensures.matches
