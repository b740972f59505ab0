-- The compact text of a report's value is the report's text.
use Rattle.std.specs.Prelude.{◌≡◌, ℕ, true, false, List, [], ◌∷◌, ◌++◌, map, codes, decimal}
use Rattle.std.specs.List.{join_with_byte}
use Rattle.std.proofs.Common.{refl, sym, ap, ◌∙◌, append_assoc}
use Rattle.json.specs.Print.{quoted}
use Rattle.row_value.specs.declared.schema.Scheme.{Scheme}
use Rattle.row_value.specs.declared.schema.Scheme.TheVariants.{Strong, Causal, Eventual}
use Rattle.serde_json.specs.Data.{number, unsigned, string, Members, member, no_members}
use Rattle.serde_json.specs.View.{items_of}
use Rattle.serde_json.specs.Written.{compact_text, items_text, members_text}
use Rattle.serde_json.proofs.OnLiterals.{serde_json_on_literals}
use Rattle.run_report.specs.Plain.{is_plain}
use Rattle.run_report.specs.Text.{scheme_word, table_text, report_line}
use Rattle.run_report.specs.Meaning.{table_data, report_data}
use Rattle.run_report.proofs.Plain.{escape_plain}
use Rattle.run_report.specs.declared.table.TableReport.{TableReport}
use Rattle.run_report.specs.declared.report.Report.{Report}

quoted_then : (text rest : List ℕ) → is_plain text ≡ true → quoted text ++ rest ≡ 34 ∷ (text ++ (34 ∷ rest))
quoted_then text rest h =
    ap (λ (inner : List ℕ). 34 ∷ ((inner ++ 34 ∷ []) ++ rest)) (escape_plain text h) ∙ ap (λ (more : List ℕ). 34 ∷ more) (append_assoc text (34 ∷ []) rest)

plain_scheme : (scheme : Scheme) → is_plain (scheme_word scheme) ≡ true
plain_scheme Strong = refl
plain_scheme Causal = refl
plain_scheme Eventual = refl

table_compact : (table : TableReport) → compact_text (table_data table) ≡ table_text table
unfolding serde_json_on_literals
table_compact table =
    let last : Members = member (codes "table") (number (unsigned table.table)) (member (codes "version") (number (unsigned table.version)) no_members) in
    ap (λ (text : List ℕ). codes "{\"name\":" ++ (quoted table.name ++ (codes ",\"rows\":" ++ (decimal table.rows ++ (codes ",\"scheme\":" ++ text)))))
    (quoted_then (scheme_word table.scheme) (members_text true last) (plain_scheme table.scheme))

tables_joined : (table : TableReport) (tables : List TableReport)
    → items_text false (items_of (map table_data (table ∷ tables))) ≡ join_with_byte 44 (map table_text (table ∷ tables)) ++ 93 ∷ []
tables_joined table [] = ap (λ (text : List ℕ). text ++ 93 ∷ []) (table_compact table)
tables_joined table (next ∷ tables) =
    ap (λ (text : List ℕ). text ++ (44 ∷ items_text false (items_of (map table_data (next ∷ tables))))) (table_compact table)
    ∙ ap (λ (text : List ℕ). table_text table ++ (44 ∷ text)) (tables_joined next tables)
    ∙ sym (append_assoc (table_text table) (44 ∷ join_with_byte 44 (map table_text (next ∷ tables))) (93 ∷ []))

joined : (tables : List TableReport) → items_text false (items_of (map table_data tables)) ≡ join_with_byte 44 (map table_text tables) ++ 93 ∷ []
joined [] = refl
joined (table ∷ tables) = tables_joined table tables

pub report_compact : (report : Report) → compact_text (report_data report) ≡ report_line report
unfolding serde_json_on_literals
report_compact report =
    ap (λ (text : List ℕ). codes "{\"lines\":" ++ (decimal report.lines ++ (codes ",\"tables\":[" ++ (text ++ 125 ∷ [])))) (joined report.tables)
    ∙ ap (λ (text : List ℕ). codes "{\"lines\":" ++ (decimal report.lines ++ (codes ",\"tables\":[" ++ text)))
    (append_assoc (join_with_byte 44 (map table_text report.tables)) (93 ∷ []) (125 ∷ []))
