-- The text of a report: JSON without a blank, the members of each object by rising name.
use Rattle.std.specs.Prelude.{ℕ, List, ◌++◌, map, codes, decimal}
use Rattle.std.specs.List.{AllByRecursion, join_with_byte}
use Rattle.std.specs.Str.{IsUtf8}
use Rattle.json.specs.Print.{quoted}
use Rattle.row_value.specs.declared.schema.Scheme.{Scheme}
use Rattle.row_value.specs.declared.schema.Scheme.TheVariants.{Strong, Causal, Eventual}
use Rattle.run_report.specs.declared.table.TableReport.{TableReport}
use Rattle.run_report.specs.declared.report.Report.{Report}

-- the names of the tables are text
abbrev pub AreNamed : List TableReport → Type 0
AreNamed tables = AllByRecursion (λ table. IsUtf8 table.name) tables

abbrev pub scheme_word : Scheme → List ℕ
scheme_word Strong = codes "strong"
scheme_word Causal = codes "causal"
scheme_word Eventual = codes "eventual"

abbrev pub table_text : TableReport → List ℕ
table_text report =
    codes "{\"name\":" ++ (quoted report.name
    ++ (codes ",\"rows\":" ++ (decimal report.rows
    ++ (codes ",\"scheme\":\"" ++ (scheme_word report.scheme
    ++ (codes "\",\"table\":" ++ (decimal report.table
    ++ (codes ",\"version\":" ++ (decimal report.version
    ++ codes "}")))))))))

-- the tables with a comma (44) between each two
abbrev pub report_line : Report → List ℕ
report_line report =
    codes "{\"lines\":" ++ (decimal report.lines
    ++ (codes ",\"tables\":[" ++ (join_with_byte 44 (map table_text report.tables)
    ++ codes "]}")))

abbrev pub report_text : Report → List ℕ
report_text report = report_line report ++ codes "\n"
