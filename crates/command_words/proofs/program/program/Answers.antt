use Rattle.std.proofs.Common.{◌≡◌, ◌∙◌, ap, ap₂, rules, codes, true, false}
use Rattle.std.proofs.lemmas.Result.{IfOk-weaker}
use Rattle.clap.specs.Words.{App, app_of, new_app, new_rule, rule_of, with_rule, with_subcommand}
use Rattle.clap.specs.Simple.{Shape, app_of_fields, on_top}
use Rattle.clap.specs.declared.builder.command.Command.TheViews.{out-Command}
use Rattle.command_words.specs.Program.{load, program, start}
use Rattle.command_words.proofs.program.program.Goals as goal

pub returns : goal.returns
returns c =
    let number_is : rule_of c.required-number.result ≡ record (new_rule (codes "N")) { required = true } = search rules in
    let load_is : app_of c.in_ok-load.load ≡ load = c.in_ok-load.ensures.shape (search rules) ∙ ap₂ with_rule c.new-2.ensures.app number_is in
    let local : (out-Command c.in_ok-load.load).has_globals ≡ false = search rules in
    let no_name = ap app_of_fields c.no_binary_name.ensures ∙ ap (on_top (λ (s : Shape). record s { no_binary_name = true })) c.new-3.ensures.app in
    let no_flag = ap app_of_fields c.disable_help_flag.ensures ∙ ap (on_top (λ (s : Shape). record s { disable_help_flag = true })) no_name in
    let no_help = ap app_of_fields c.disable_help_subcommand.ensures ∙ ap (on_top (λ (s : Shape). record s { disable_help_subcommand = true })) no_flag in
    let start_is : app_of c.subcommand_required.result ≡ start =
    ap app_of_fields c.subcommand_required.ensures ∙ ap (on_top (λ (s : Shape). record s { subcommand_required = true })) no_help in
    let first = c.in_ok-subcommand.ensures.shape c.new-4.ensures.local ∙ ap₂ with_subcommand start_is (ap (λ (a : App). a.top) c.new-4.ensures.app) in
    let second = c.in_ok-subcommand-2.ensures.shape c.new-5.ensures.local ∙ ap₂ with_subcommand first (ap (λ (a : App). a.top) c.new-5.ensures.app) in
    IfOk-weaker c.subcommand-3.result _ _ (λ made h. h.shape local ∙ ap₂ with_subcommand second (ap (λ (a : App). a.top) load_is)) c.subcommand-3.ensures
