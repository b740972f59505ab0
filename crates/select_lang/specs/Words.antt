-- The words of a test: a column, an operator and a value of the column's kind.
use Rattle.std.specs.Prelude.{◌≡◌, ℕ, ◌^◌, nat_lt, Bool, true, false, List, codes, take, position, slice_get}
use Rattle.std.specs.Prelude.{Option, Some, None, Result, Ok, Err, if◌then◌else◌}
use Rattle.std.specs.Str.{IsUtf8, bytes_eq, is_utf8}
use Rattle.row_value.specs.Fit.{cell_count}
use Rattle.row_value.specs.declared.content.Cell.{Cell}
use Rattle.row_value.specs.declared.content.Cell.TheVariants as cells
use Rattle.row_value.specs.declared.schema.Column.{Column}
use Rattle.row_value.specs.declared.schema.ColumnKind.{ColumnKind}
use Rattle.row_value.specs.declared.schema.ColumnKind.TheVariants as kinds
use Rattle.row_value.specs.declared.schema.Schema.{Schema}
use Rattle.script_words.specs.Words.{is_name}
use Rattle.script_words.specs.Values.{SpellsCell, value_at}
use Rattle.script_words.specs.declared.code.Code.{Code}
use Rattle.script_words.specs.declared.values.Value.{Value}
use Rattle.script_words.specs.declared.values.Value.TheVariants.{OfCell, OfObject}
use Rattle.select_lang.specs.declared.predicate.Comparison.{Comparison}
use Rattle.select_lang.specs.declared.predicate.Comparison.TheVariants.{Equal, NotEqual, Less, LessOrEqual, Greater}
use Rattle.select_lang.specs.declared.predicate.Comparison.TheVariants.{GreaterOrEqual}

-- ---- operators

abbrev pub comparison_word : Comparison → List ℕ
comparison_word Equal = codes "="
comparison_word NotEqual = codes "!="
comparison_word Less = codes "<"
comparison_word LessOrEqual = codes "<="
comparison_word Greater = codes ">"
comparison_word GreaterOrEqual = codes ">="

-- the operator that a word is
unfoldable pub comparison_at : List ℕ → Option Comparison
comparison_at word =
    if bytes_eq word (codes "=") then Some Equal
    else if bytes_eq word (codes "!=") then Some NotEqual
    else if bytes_eq word (codes "<") then Some Less
    else if bytes_eq word (codes "<=") then Some LessOrEqual
    else if bytes_eq word (codes ">") then Some Greater
    else if bytes_eq word (codes ">=") then Some GreaterOrEqual
    else None

-- ---- columns

-- the first of the cell columns, which stand in front, that has this name
abbrev pub number_of : List Column → List ℕ → Option ℕ
number_of columns word = position (λ column. bytes_eq column.name word) (take (cell_count columns) columns)

abbrev pub with_kind : ℕ → Option Column → Option (ℕ × ColumnKind)
with_kind n None = None
with_kind n (Some column) = if nat_lt n (2 ^ 32) then Some (n, column.kind) else None

abbrev pub numbered : List Column → Option ℕ → Option (ℕ × ColumnKind)
numbered columns None = None
numbered columns (Some n) = with_kind n (slice_get columns n)

-- the number and the kind of the cell column that a word names
unfoldable pub column_at : Schema → List ℕ → Option (ℕ × ColumnKind)
column_at schema word = if is_name word then numbered schema.columns (number_of schema.columns word) else None

-- ---- values

abbrev pub is_kind : ColumnKind → Cell → Bool
is_kind kinds.Int (cells.Int n) = true
is_kind kinds.Bool (cells.Bool b) = true
is_kind kinds.Text (cells.Text t) = true
is_kind kind cell = false

-- the word spells a cell of a kind
abbrev pub SpellsOf : ColumnKind → List ℕ → Cell → Type 0
SpellsOf kind word cell = IsUtf8 word × SpellsCell word cell × (is_kind kind cell ≡ true)

abbrev pub cell_in : ColumnKind → Value → Option Cell
cell_in kind (OfCell cell) = if is_kind kind cell then Some cell else None
cell_in kind (OfObject object) = None

abbrev pub cell_of : ColumnKind → Option Value → Option Cell
cell_of kind None = None
cell_of kind (Some value) = cell_in kind value

abbrev pub value_of : Result Value Code → Option Value
value_of (Ok value) = Some value
value_of (Err code) = None

-- the cell of a kind that a word spells
unfoldable pub cell_at : ColumnKind → List ℕ → Option Cell
cell_at kind word = if is_utf8 word then cell_of kind (value_of (value_at word)) else None
