-- What is told of the tables, one after the other.
use Rattle.std.proofs.Common.{◌≡◌, ℕ, zero, suc, ◌+◌, ◌≤◌, [], ◌++◌, List, Option, Some, refl, sym, ap, subst, ◌∙◌, arith}
use Rattle.std.specs.Prelude.{option_to_list}
use Rattle.std.specs.List.{flat_map, range_with_len}
use Rattle.std.specs.Str.{IsUtf8}
use Rattle.row_value.specs.declared.schema.Schema.{Schema}
use Rattle.row_value.specs.declared.schema.Scheme.{Scheme}
use Rattle.table_model.specs.declared.entry.Entry.{Entry}
use Rattle.world_tables.specs.World.{World, schema_at, hosted_at}
use Rattle.fair_laws.specs.Reached.{IsReached}
use Rattle.fair_laws.proofs.Worlds.{reached_fair}
use Rattle.run_report.specs.Rows.{table_report}
use Rattle.run_report.specs.Text.{AreNamed}
use Rattle.run_report.specs.declared.table.TableReport.{TableReport}
use Rattle.simba_top.specs.Outputs.{table_told, tables_told, history_in}
use Rattle.simba_top.proofs.Reports.{tables_more}

-- ---- names

pub is_named : (w : World) → IsReached w → (table : ℕ) (schema : Schema) → schema_at w table ≡ Some schema → (name : List ℕ) → name ≡ schema.name
    → (scheme : Scheme) (history : List Entry) (report : TableReport) → report ≡ table_report table name scheme history → IsUtf8 report.name
is_named w r table schema at name same scheme history report is =
    subst IsUtf8 (sym (ap (λ (x : TableReport). x.name) is ∙ same)) ((reached_fair w r).made table schema at).spelled.text.1

-- ---- the tables below a number

abbrev pub one_told : World → ℕ → List TableReport
one_told w table = option_to_list (table_told table (history_in (hosted_at w table)) (schema_at w table))

-- what was told before the table of this number, of each world with P
pub record HaveTold (P : World → Type 0) (next : ℕ) (tables : List TableReport) : Type 0 where
  pub least : 1 ≤ next
  pub most : next ≤ 65
  pub told : (w : World) → P w → (n : ℕ) → next ≡ n + 1 → tables ≡ flat_map (one_told w) (range_with_len 1 n)
  pub named : AreNamed tables

module _ (P : World → Type 0) where
  pub none_told : (tables : List TableReport) → tables ≡ [] → HaveTold P 1 tables
  none_told tables none = record {
    least = omega arith;
    most = omega arith;
    told = λ w p n is. none ∙ go w n is;
    named = subst AreNamed (sym none) tt;
  }
    where
      go : (w : World) (n : ℕ) → 1 ≡ n + 1 → [] ≡ flat_map (one_told w) (range_with_len 1 n)
      go w zero is = refl
      go w (suc n) is = absurd (omega (arith, is))

  pub more_told : (next : ℕ) (tables new : List TableReport) (found : Option TableReport) → HaveTold P next tables → next ≤ 64
      → ((w : World) → P w → found ≡ table_told next (history_in (hosted_at w next)) (schema_at w next))
      → new ≡ tables ++ option_to_list found → AreNamed new → HaveTold P (next + 1) new
  more_told next tables new found h most is more named = record {
    least = omega arith;
    most = omega (arith, most);
    told = λ w p n at. go w p n at;
    named = named;
  }
    where
      go : (w : World) → P w → (n : ℕ) → next + 1 ≡ n + 1 → new ≡ flat_map (one_told w) (range_with_len 1 n)
      go w p zero at = let least = h.least in absurd (omega (arith, least, at))
      go w p (suc n) at =
          let here : next ≡ 1 + n = omega (arith, at) in
          more
          ∙ ap (λ list. list ++ option_to_list found) (h.told w p n (omega (arith, here)))
          ∙ ap (λ o. flat_map (one_told w) (range_with_len 1 n) ++ option_to_list o) (is w p)
          ∙ ap (λ (k : ℕ). flat_map (one_told w) (range_with_len 1 n) ++ one_told w k) here
          ∙ sym (tables_more (one_told w) 1 n)

  pub all_told : (next : ℕ) (tables : List TableReport) → HaveTold P next tables → 65 ≤ next → (w : World) → P w → tables ≡ tables_told w (λ table. history_in (hosted_at w table))
  all_told next tables h over w p = let most = h.most in h.told w p 64 (omega (arith, most, over))
