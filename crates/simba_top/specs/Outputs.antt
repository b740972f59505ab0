-- What the words of the program ask for, and what is written then.
use Rattle.std.specs.Prelude.{ℕ, ◌-◌, ◌^◌, min, List, [], length, option_to_list, Option, Some, None}
use Rattle.std.specs.List.{flat_map, range_with_len}
use Rattle.row_value.specs.declared.schema.Schema.{Schema}
use Rattle.table_model.specs.declared.line.TextLine.{TextLine}
use Rattle.table_model.specs.declared.entry.Entry.{Entry}
use Rattle.world_tables.specs.Turns.{Happening}
use Rattle.world_tables.specs.World.{World, Hosted, schema_at}
use Rattle.gated_tables.specs.Net.{start}
use Rattle.gated_tables.specs.Runs.{net_from}
use Rattle.transcript_text.specs.Text.{transcript_text}
use Rattle.command_words.specs.declared.command.Command.{Command}
use Rattle.command_words.specs.declared.command.Command.TheVariants as commands
use Rattle.command_words.specs.Commands.{command_of}
use Rattle.run_report.specs.declared.report.Report.{Report}
use Rattle.run_report.specs.declared.table.TableReport.{TableReport}
use Rattle.run_report.specs.Rows.{table_report}
use Rattle.run_report.specs.Text.{report_text}
use Rattle.simba_top.specs.Faults.{told_history}
use Rattle.simba_top.specs.declared.output.Output.{Output}
use Rattle.simba_top.specs.declared.output.Output.TheVariants as outputs

-- a command that is built
abbrev pub output_of : Option Command → Option Output
output_of None = None
output_of (Some commands.Run) = Some outputs.Transcript
output_of (Some commands.Report) = Some outputs.Report
output_of (Some (commands.Load number)) = None

abbrev pub asked : List (List ℕ) → Option Output
asked words = output_of (command_of words)

-- ---- a report

-- what is told of a declared table, by a history of each
abbrev pub table_told : ℕ → List Entry → Option Schema → Option TableReport
table_told table history None = None
table_told table history (Some schema) = Some (table_report table schema.name schema.scheme history)

abbrev pub history_in : Option Hosted → List Entry
history_in None = []
history_in (Some hosted) = hosted.history

-- the declared tables, whose numbers end at 64, by rising number
abbrev pub tables_told : World → (ℕ → List Entry) → List TableReport
tables_told w history =
    flat_map (λ table. option_to_list (table_told table (history table) (schema_at w table))) (range_with_len 1 64)

-- how many lines there are; the count stands still at its type's end
abbrev pub lines_counted : List TextLine → ℕ
lines_counted lines = min (length lines) (2 ^ 64 - 1)

abbrev pub report_of : List Happening → List TextLine → Report
report_of run lines = record {
  lines = lines_counted lines;
  tables = tables_told (net_from start run).wire.world (told_history run);
}

-- ---- what is written

-- of the lines of a run so far: each of them, or nothing
abbrev pub text_so_far : Output → List TextLine → List ℕ
text_so_far outputs.Transcript lines = transcript_text lines
text_so_far outputs.Report lines = []

-- of a run that came to its end
abbrev pub text_at_end : Output → List Happening → List TextLine → List ℕ
text_at_end outputs.Transcript run lines = transcript_text lines
text_at_end outputs.Report run lines = report_text (report_of run lines)
