-- Whether two schemas are the same.
use Rattle.std.specs.Prelude.{◌==◌, ◌&&◌, Bool, true, false, List, length, zip}
use Rattle.std.specs.List.{list_all}
use Rattle.std.specs.Str.{bytes_eq}
use Rattle.row_value.specs.declared.schema.Column.{Column}
use Rattle.row_value.specs.declared.schema.ColumnKind.{ColumnKind}
use Rattle.row_value.specs.declared.schema.ColumnKind.TheVariants as kinds
use Rattle.row_value.specs.declared.schema.Schema.{Schema}
use Rattle.row_value.specs.declared.schema.Scheme.{Scheme}
use Rattle.row_value.specs.declared.schema.Scheme.TheVariants as schemes

abbrev pub same_scheme : Scheme → Scheme → Bool
same_scheme schemes.Strong schemes.Strong = true
same_scheme schemes.Causal schemes.Causal = true
same_scheme schemes.Eventual schemes.Eventual = true
same_scheme a b = false

abbrev pub same_kind : ColumnKind → ColumnKind → Bool
same_kind kinds.Int kinds.Int = true
same_kind kinds.Bool kinds.Bool = true
same_kind kinds.Text kinds.Text = true
same_kind kinds.Object kinds.Object = true
same_kind a b = false

abbrev pub same_column : Column × Column → Bool
same_column (a, b) = bytes_eq a.name b.name && same_kind a.kind b.kind

abbrev pub same_columns : List Column → List Column → Bool
same_columns columns others = length columns == length others && list_all same_column (zip columns others)

abbrev pub same_schema : Schema → Schema → Bool
same_schema a b = bytes_eq a.name b.name
    && (same_scheme a.scheme b.scheme && (a.chunk == b.chunk && same_columns a.columns b.columns))
