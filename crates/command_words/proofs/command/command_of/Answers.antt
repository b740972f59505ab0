use Rattle.std.proofs.Common.{◌≡◌, ◌∙◌, map, sym, true, None, rules, inr}
use Rattle.std.specs.List.{list_any}
use Rattle.clap.proofs.WalkLemmas.{list_any-map}
use Rattle.command_words.specs.Program.{is_flag}
use Rattle.command_words.specs.Commands.{command_of}
use Rattle.command_words.proofs.Reading.{fault_caused, flagged, none_caused}
use Rattle.command_words.proofs.command.command_of.Goals as goal

pub returns-then-has_flag-clause-usage : goal.returns-then-has_flag-clause-usage
returns-then-has_flag-clause-usage g c =
    let some : list_any is_flag (map g.S.AsStr.text c.args.words.now) ≡ true = sym (list_any-map is_flag g.S.AsStr.text c.args.words.now) ∙ sym c.if-has_flag.ensures in
    none_caused (map g.S.AsStr.text c.args.words.now) c.told.result (flagged (map g.S.AsStr.text c.args.words.now) some)

pub returns-then-has_flag-clause-memory : goal.returns-then-has_flag-clause-memory
returns-then-has_flag-clause-memory g c =
    let some : list_any is_flag (map g.S.AsStr.text c.args.words.now) ≡ true = sym (list_any-map is_flag g.S.AsStr.text c.args.words.now) ∙ sym c.if-has_flag.ensures in
    inr (flagged (map g.S.AsStr.text c.args.words.now) some)
