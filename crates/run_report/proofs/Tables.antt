-- The values of tables, one after the other.
use Rattle.std.specs.Prelude.{◌≡◌, ℕ, zero, suc, ◌+◌, ◌<◌, List, [], ◌∷◌, ◌++◌, length, take, map}
use Rattle.std.proofs.Common.{sym, ap, ◌∙◌, arith, get_or, add-one}
use Rattle.std.proofs.Math.Seq.{take-suc}
use Rattle.std.proofs.lemmas.List.{map-append}
use Rattle.serde_json.specs.Data.{Data}
use Rattle.serde_json.specs.View.{view}
use Rattle.serde_json.specs.declared.value.Value.{Value}
use Rattle.std.specs.Str.{IsUtf8}
use Rattle.run_report.specs.Text.{AreNamed}
use Rattle.run_report.specs.Meaning.{table_data}
use Rattle.run_report.specs.declared.table.TableReport.{TableReport}

pub named_at : (tables : List TableReport) (i : ℕ) (d : TableReport) → AreNamed tables → i < length tables → IsUtf8 (get_or tables i d).name
named_at [] i d h lt = absurd (omega (arith, lt))
named_at (table ∷ tables) zero d h lt = h.0
named_at (table ∷ tables) (suc i) d h lt = named_at tables i d h.1 (omega (arith, lt))

pub one_more : (tables : List TableReport) (i : ℕ) (table d : TableReport) (values : List Value) (value : Value) → i < length tables
    → table ≡ get_or tables i d → view value ≡ table_data table → map view values ≡ map table_data (take i tables)
    → map view (values ++ value ∷ []) ≡ map table_data (take (i + 1) tables)
one_more tables i table d values value lt here is before =
    let more : take (i + 1) tables ≡ take i tables ++ get_or tables i d ∷ [] = rw add-one (take-suc tables i d lt) in
    map-append view values (value ∷ [])
    ∙ ap (λ (front : List Data). front ++ view value ∷ []) before
    ∙ ap (λ (data' : Data). map table_data (take i tables) ++ data' ∷ []) (is ∙ ap table_data here)
    ∙ sym (map-append table_data (take i tables) (get_or tables i d ∷ []))
    ∙ ap (map table_data) (sym more)
