-- When a content is a row of a table.
use Rattle.std.specs.Prelude.{ℕ, Bool, true, false, List, length, Option, Some, None, min, not, ◌==◌, ◌&&◌, nat_lt}
use Rattle.std.specs.Prelude.{nat_le, ◌+◌, ◌-◌, ◌^◌, take, unwrap_or, position, slice_get, sum_by, Result, Ok, Err}
use Rattle.std.specs.Prelude.{if◌then◌else◌}
use Rattle.std.specs.List.{range_with_len}
use Rattle.std.specs.Int.{div_ceil}
use Rattle.std.specs.Str.{is_utf8}
use Rattle.row_value.specs.declared.schema.ColumnKind.{ColumnKind}
use Rattle.row_value.specs.declared.schema.ColumnKind.TheVariants as kinds
use Rattle.row_value.specs.declared.schema.Column.{Column}
use Rattle.row_value.specs.declared.schema.Schema.{Schema}
use Rattle.row_value.specs.declared.content.Cell.{Cell}
use Rattle.row_value.specs.declared.content.Cell.TheVariants as cells
use Rattle.row_value.specs.declared.content.Content.{Content}
use Rattle.row_value.specs.declared.content.Content.TheVariants.{Gone, Row}
use Rattle.row_value.specs.declared.fit.FitFault.{FitFault}
use Rattle.row_value.specs.declared.fit.FitFault.TheVariants.{BadCell, BadObject, RowTooLarge, TooManyChunks}

-- ---- the limits, in bytes: a text, a row's cells as they are spelled, an object, a row; and the chunks of a row

abbrev pub text_most : ℕ
text_most = 65535

abbrev pub spelled_most : ℕ
spelled_most = 524288

abbrev pub object_most : ℕ
object_most = 4194304

abbrev pub row_most : ℕ
row_most = 16777216

abbrev pub chunks_most : ℕ
chunks_most = 32768

-- ---- columns

abbrev pub is_object : ColumnKind → Bool
is_object kinds.Int = false
is_object kinds.Bool = false
is_object kinds.Text = false
is_object kinds.Object = true

-- how many columns stand before the first object column
abbrev pub cell_count : List Column → ℕ
cell_count columns = unwrap_or (position (λ column. is_object column.kind) columns) (length columns)

-- ---- cells

abbrev pub is_text : List ℕ → Bool
is_text text = nat_le (length text) text_most && is_utf8 text

-- whether a cell is one of a column of this kind
abbrev pub is_of : ColumnKind → Cell → Bool
is_of kinds.Int (cells.Int n) = true
is_of kinds.Int (cells.Bool b) = false
is_of kinds.Int (cells.Text t) = false
is_of kinds.Bool (cells.Int n) = false
is_of kinds.Bool (cells.Bool b) = true
is_of kinds.Bool (cells.Text t) = false
is_of kinds.Text (cells.Int n) = false
is_of kinds.Text (cells.Bool b) = false
is_of kinds.Text (cells.Text t) = is_text t
is_of kinds.Object cell = false

-- how many bytes spell a cell: a tag, and eight bytes, one, or four of a length and the text
abbrev pub spelled_len : Cell → ℕ
spelled_len (cells.Int n) = 9
spelled_len (cells.Bool b) = 2
spelled_len (cells.Text t) = 5 + length t

-- what is left of a room behind the spelling of a cell of this kind of column
abbrev pub room_behind : ℕ → ColumnKind → Cell → Option ℕ
room_behind room kind cell = if is_of kind cell && nat_le (spelled_len cell) room then Some (room - spelled_len cell)
    else None

abbrev pub room_at : ℕ → ColumnKind → Option Cell → Option ℕ
room_at room kind None = None
room_at room kind (Some cell) = room_behind room kind cell

-- how many bytes of the row a cell is
abbrev pub cell_len : Cell → ℕ
cell_len (cells.Int n) = 8
cell_len (cells.Bool b) = 1
cell_len (cells.Text t) = length t

abbrev pub is_cell_of : Option Column → Option Cell → Bool
is_cell_of None cell = false
is_cell_of (Some column) None = false
is_cell_of (Some column) (Some cell) = is_of column.kind cell

-- whether the cell at a place is there, is of its column, and the cells up to it are within their limit
unfoldable pub has_cell : List Column → List Cell → ℕ → Bool
has_cell columns some place =
    is_cell_of (slice_get columns place) (slice_get some place)
    && nat_le (sum_by spelled_len (take (place + 1) some)) spelled_most

-- ---- objects

abbrev pub len_of : Option (List ℕ) → ℕ
len_of None = 0
len_of (Some object) = length object

abbrev pub is_short : Option (List ℕ) → Bool
is_short None = false
is_short (Some object) = nat_le (length object) object_most

-- whether the object at a place is there and within its limit
abbrev pub has_object : List (List ℕ) → ℕ → Bool
has_object objects place = is_short (slice_get objects place)

-- how many chunks of a size an object has; there are none of size 0
abbrev pub chunk_count : ℕ → List ℕ → ℕ
chunk_count size object = if size == 0 then 0 else div_ceil (length object) size

-- ---- a row

-- the first of so many places that isn't right
unfoldable pub wrong_in : (ℕ → Bool) → ℕ → Option ℕ
wrong_in right places = position (λ place. not (right place)) (range_with_len 0 places)

-- else the place behind so many, where more are given
abbrev pub or_surplus : ℕ → ℕ → Option ℕ → Option ℕ
or_surplus places given None = if nat_lt places given then Some places else None
or_surplus places given (Some place) = Some place

abbrev pub misfit : List Column → List Cell → Option ℕ
misfit columns some = or_surplus (length columns) (length some) (wrong_in (has_cell columns some) (length columns))

-- one object for each of so many columns
abbrev pub object_misfit : ℕ → List (List ℕ) → Option ℕ
object_misfit columns objects = or_surplus columns (length objects) (wrong_in (has_object objects) columns)

abbrev pub row_len : List Cell → List (List ℕ) → ℕ
row_len some objects = sum_by cell_len some + sum_by length objects

abbrev pub chunks_of : ℕ → List (List ℕ) → ℕ
chunks_of size objects = sum_by (chunk_count size) objects

-- a length of 2 ^ 64 and more is told as 2 ^ 64 - 1
abbrev pub size_fit : ℕ → List Cell → List (List ℕ) → Result (Unit {0}) FitFault
size_fit size some objects =
    if nat_lt row_most (row_len some objects) then Err (RowTooLarge (min (row_len some objects) (2 ^ 64 - 1)))
    else (if nat_lt chunks_most (chunks_of size objects) then Err (TooManyChunks (chunks_of size objects)) else Ok tt)

abbrev pub objects_fit : Schema → List Cell → List (List ℕ) → Option ℕ → Result (Unit {0}) FitFault
objects_fit schema some objects None = size_fit schema.chunk some objects
objects_fit schema some objects (Some place) =
    Err (BadObject (cell_count schema.columns + place) (len_of (slice_get objects place)))

abbrev pub cells_fit : Schema → List Cell → List (List ℕ) → Option ℕ → Result (Unit {0}) FitFault
cells_fit schema some objects None =
    objects_fit schema some objects (object_misfit (length schema.columns - cell_count schema.columns) objects)
cells_fit schema some objects (Some place) = Err (BadCell place)

-- cells first, then objects, then the size, then the chunks
unfoldable pub fit_of : Schema → Content → Result (Unit {0}) FitFault
fit_of schema Gone = Ok tt
fit_of schema (Row some objects) =
    cells_fit schema some objects (misfit (take (cell_count schema.columns) schema.columns) some)
