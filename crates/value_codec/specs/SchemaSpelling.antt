-- Which schemas have a spelling, and the one spelling of each.
use Rattle.std.specs.Prelude.{◌≡◌, ℕ, ◌<◌, ◌≤◌, ◌^◌, ◌⊎◌, true, List, [], ◌∷◌, ◌++◌, length, IsUtf8}
use Rattle.std.specs.List.{AllByRecursion}
use Rattle.std.specs.Int.{w32, to_be_bytes}
use Rattle.stab_base.specs.Codec.{counted}
use Rattle.row_value.specs.declared.schema.ColumnKind.{ColumnKind}
use Rattle.row_value.specs.declared.schema.ColumnKind.TheVariants as kinds
use Rattle.row_value.specs.declared.schema.Scheme.{Scheme}
use Rattle.row_value.specs.declared.schema.Scheme.TheVariants.{Strong, Causal, Eventual}
use Rattle.row_value.specs.declared.schema.Column.{Column}
use Rattle.row_value.specs.declared.schema.Schema.{Schema}
use Rattle.row_value.specs.Fit.{is_object}
use Rattle.value_codec.specs.Spelling.{list_spelling}

abbrev pub kind_code : ColumnKind → ℕ
kind_code kinds.Int = 1
kind_code kinds.Bool = 2
kind_code kinds.Text = 3
kind_code kinds.Object = 4

abbrev pub scheme_code : Scheme → ℕ
scheme_code Strong = 1
scheme_code Causal = 2
scheme_code Eventual = 3

abbrev pub IsChunkSize : ℕ → Type 0
IsChunkSize n = (n ≡ 64) ⊎ ((n ≡ 1024) ⊎ (n ≡ 65536))

abbrev pub column_spelling : Column → List ℕ
column_spelling column = counted column.name ++ kind_code column.kind ∷ []

abbrev pub HasColumnSpelling : Column → Type 0
HasColumnSpelling column = (length column.name < 2 ^ 32) × IsUtf8 column.name

abbrev pub AreObjectColumns : List Column → Type 0
AreObjectColumns columns = AllByRecursion (λ column. is_object column.kind ≡ true) columns

-- behind an object column stand object columns alone
abbrev pub CellsFirst : List Column → Type 0
CellsFirst [] = Unit {0}
CellsFirst (column ∷ columns) = (is_object column.kind ≡ true → AreObjectColumns columns) × CellsFirst columns

abbrev pub schema_spelling : Schema → List ℕ
schema_spelling schema =
    counted schema.name ++ (scheme_code schema.scheme
    ∷ (to_be_bytes w32 schema.chunk ++ list_spelling column_spelling schema.columns))

pub record HasSchemaSpelling (schema : Schema) : Type 0 where
  pub text : (length schema.name < 2 ^ 32) × IsUtf8 schema.name
  pub size : IsChunkSize schema.chunk
  pub some : 1 ≤ length schema.columns
  pub most : length schema.columns ≤ 32
  pub each : AllByRecursion HasColumnSpelling schema.columns
  pub order : CellsFirst schema.columns
