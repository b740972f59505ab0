-- The JSON value that a report is.
use Rattle.std.specs.Prelude.{map, codes}
use Rattle.serde_json.specs.Data.{Data, number, unsigned, string, array, object, member, no_members}
use Rattle.serde_json.specs.View.{items_of}
use Rattle.run_report.specs.Text.{scheme_word}
use Rattle.run_report.specs.declared.table.TableReport.{TableReport}
use Rattle.run_report.specs.declared.report.Report.{Report}

abbrev pub table_data : TableReport → Data
table_data report =
    object
    (member (codes "name") (string report.name)
    (member (codes "rows") (number (unsigned report.rows))
    (member (codes "scheme") (string (scheme_word report.scheme))
    (member (codes "table") (number (unsigned report.table))
    (member (codes "version") (number (unsigned report.version)) no_members)))))

abbrev pub report_data : Report → Data
report_data report =
    object
    (member (codes "lines") (number (unsigned report.lines))
    (member (codes "tables") (array (items_of (map table_data report.tables))) no_members))
