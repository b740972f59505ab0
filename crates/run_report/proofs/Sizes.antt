-- A report's value has no float, and nests three deep.
use Rattle.std.specs.Prelude.{◌≡◌, ℕ, ◌≤◌, Bool, false, ◌||◌, max, suc, List, [], ◌∷◌, map}
use Rattle.std.proofs.Common.{refl, ap, arith}
use Rattle.std.proofs.Math.Nat.{max-le}
use Rattle.serde_json.specs.Data.{depth, items_depth}
use Rattle.serde_json.specs.View.{items_of}
use Rattle.serde_json.specs.Written.{has_float, items_have_float}
use Rattle.serde_json.specs.Read.{max_depth}
use Rattle.run_report.specs.Meaning.{table_data, report_data}
use Rattle.run_report.specs.declared.table.TableReport.{TableReport}
use Rattle.run_report.specs.declared.report.Report.{Report}

tables_without : (tables : List TableReport) → items_have_float (items_of (map table_data tables)) ≡ false
tables_without [] = refl
tables_without (table ∷ tables) = tables_without tables

pub no_float : (report : Report) → has_float (report_data report) ≡ false
no_float report = ap (λ (b : Bool). b || false) (tables_without report.tables)

tables_depth : (tables : List TableReport) → items_depth (items_of (map table_data tables)) ≤ 1
tables_depth [] = omega arith
tables_depth (table ∷ tables) = max-le (omega arith) (tables_depth tables)

shallow : (n : ℕ) → n ≤ 1 → suc (max 0 (max (suc n) 0)) ≤ 127
shallow n h =
    let inner : max 0 (max (suc n) 0) ≤ 2 = max-le (omega arith) (max-le (omega (arith, h)) (omega arith)) in
    omega (arith, inner)

pub is_shallow : (report : Report) → depth (report_data report) ≤ max_depth
is_shallow report = shallow (items_depth (items_of (map table_data report.tables))) (tables_depth report.tables)
