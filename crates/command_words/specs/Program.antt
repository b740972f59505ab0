-- The program's words as the parse has them.
use Rattle.std.specs.Prelude.{◌≡◌, ◌⊎◌, ℕ, ◌==◌, Bool, true, false, List, [], ◌∷◌, if◌then◌else◌, codes}
use Rattle.std.specs.Prelude.{Option, Some, None, option_map, option_and_then}
use Rattle.std.specs.Str.{bytes_eq}
use Rattle.clap.specs.Words.{App, Row, Text, first_of, kind_of, new_app, new_rule, subcommand_rows_of, with_rule}
use Rattle.clap.specs.Words.{with_subcommand}
use Rattle.clap.specs.declared.error.Error.{Error}
use Rattle.clap.specs.declared.error.kind.ErrorKind.TheVariants.{OutOfMemory}
use Rattle.clap.specs.declared.parser.matches.ArgMatches.{ArgMatches}
use Rattle.command_words.specs.declared.command.Command.{Command}
use Rattle.command_words.specs.declared.command.Command.TheVariants.{Run, Report, Load}
use Rattle.command_words.specs.Commands.{command_of, number_of}

abbrev pub load : App
load = with_rule (new_app (codes "load")) (record (new_rule (codes "N")) { required = true })

abbrev pub start : App
start = record (new_app (codes "simba")) {
  top = record (new_app (codes "simba")).top {
    no_binary_name = true;
    disable_help_flag = true;
    disable_help_subcommand = true;
    subcommand_required = true;
  };
}

-- the program and its subcommands
abbrev pub program : App
program = with_subcommand (with_subcommand (with_subcommand start (new_app (codes "run")).top)
    (new_app (codes "report")).top) load.top

abbrev pub is_flag : Text → Bool
is_flag [] = false
is_flag (b ∷ bytes) = b == 45

abbrev pub named : Text → List Row → Option Command
named name rows = if bytes_eq name (codes "run") then Some Run
    else (if bytes_eq name (codes "report") then Some Report
    else (if bytes_eq name (codes "load") then option_map Load (option_and_then number_of (first_of (codes "N") rows))
    else None))

-- the command that a subcommand and its words name
abbrev pub command_in : Option (Text × List Row) → Option Command
command_in found = option_and_then (λ f. named f.0 f.1) found

-- a parse found the command that the words are
abbrev pub IsFoundIn : List Text → ArgMatches → Type 0
IsFoundIn words matches = command_of words ≡ command_in (subcommand_rows_of matches)

-- a parse fails for want of memory, or because the words are no command
abbrev pub FailsAt : List Text → Error → Type 0
FailsAt words error = (kind_of error ≡ OutOfMemory) ⊎ (command_of words ≡ None)
