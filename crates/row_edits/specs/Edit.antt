-- What an edit makes of a row's cells and objects.
use Rattle.std.specs.Prelude.{ℕ, ◌+◌, ◌-◌, nat_lt, Bool, false, List, [], ◌∷◌, ◌++◌, length, map, take, drop, Option}
use Rattle.std.specs.Prelude.{Some, None, slice_get, slice_set, Result, Ok, Err, if◌then◌else◌, pos}
use Rattle.row_value.specs.declared.schema.ColumnKind.{ColumnKind}
use Rattle.row_value.specs.declared.schema.ColumnKind.TheVariants as kinds
use Rattle.row_value.specs.declared.schema.Column.{Column}
use Rattle.row_value.specs.declared.schema.Schema.{Schema}
use Rattle.row_value.specs.declared.content.Cell.{Cell}
use Rattle.row_value.specs.declared.content.Cell.TheVariants as cells
use Rattle.row_value.specs.declared.content.Content.{Content}
use Rattle.row_value.specs.declared.content.Content.TheVariants.{Gone, Row}
use Rattle.row_value.specs.declared.fit.FitFault.{FitFault}
use Rattle.row_value.specs.declared.fit.FitFault.TheVariants.{BadObject}
use Rattle.row_value.specs.Fit.{is_object, cell_count}
use Rattle.row_edits.specs.declared.change.Value.{Value}
use Rattle.row_edits.specs.declared.change.Value.TheVariants as values
use Rattle.row_edits.specs.declared.change.ColumnValue.{ColumnValue}
use Rattle.row_edits.specs.declared.change.Patch.{Patch}
use Rattle.row_edits.specs.declared.change.Edit.{Edit}
use Rattle.row_edits.specs.declared.change.Edit.TheVariants as edits

-- ---- new values of columns. A value of the wrong sort leaves a row that doesn't fit just there: a cell of another
-- kind, or an object that is lacking

-- a cell that no column of this kind has
abbrev pub misfit_for : ColumnKind → Cell
misfit_for kinds.Int = cells.Bool false
misfit_for kinds.Bool = cells.Int (pos 0)
misfit_for kinds.Text = cells.Int (pos 0)
misfit_for kinds.Object = cells.Int (pos 0)

abbrev pub cell_for : ColumnKind → Value → Cell
cell_for kind (values.Cell cell) = cell
cell_for kind (values.Object object) = misfit_for kind

abbrev pub with_cell : List Cell → ℕ → Value → Option Column → List Cell
with_cell some place value None = some
with_cell some place value (Some column) = slice_set some place (cell_for column.kind value)

-- the cells, where these are the cell columns
abbrev pub cells_behind : List Column → List Cell → List ColumnValue → List Cell
cells_behind columns some [] = some
cells_behind columns some (change ∷ changes) =
    cells_behind columns (with_cell some change.column change.value (slice_get columns change.column)) changes

abbrev pub object_for : Value → Option (List ℕ)
object_for (values.Cell cell) = None
object_for (values.Object object) = Some object

abbrev pub with_object : ℕ → List (Option (List ℕ)) → ColumnValue → List (Option (List ℕ))
with_object first objects change = if nat_lt change.column first then objects
    else slice_set objects (change.column - first) (object_for change.value)

-- the objects, where this is the first object column
abbrev pub objects_behind : ℕ → List (Option (List ℕ)) → List ColumnValue → List (Option (List ℕ))
objects_behind first objects [] = objects
objects_behind first objects (change ∷ changes) = objects_behind first (with_object first objects change) changes

-- up to the first that is lacking
abbrev pub up_to_lacking : List (Option (List ℕ)) → List (List ℕ)
up_to_lacking [] = []
up_to_lacking (None ∷ objects) = []
up_to_lacking (Some object ∷ objects) = object ∷ up_to_lacking objects

abbrev pub updated : Schema → List Cell → List (List ℕ) → List ColumnValue → Content
updated schema some objects changes =
    let first : ℕ = cell_count schema.columns in
    Row (cells_behind (take first schema.columns) some changes)
    (up_to_lacking (objects_behind first (map Some objects) changes))

-- ---- bytes put into an object

-- over those that stand there, and past the end
abbrev pub overwritten : List ℕ → ℕ → List ℕ → List ℕ
overwritten object at bytes = take at object ++ (bytes ++ drop (at + length bytes) object)

abbrev pub patched_at : List Cell → List (List ℕ) → ℕ → Patch → Option (List ℕ) → Result Content FitFault
patched_at some objects place patch None = Err (BadObject patch.column 0)
patched_at some objects place patch (Some object) =
    if nat_lt (length object) patch.at then Err (BadObject patch.column (length object))
    else Ok (Row some (slice_set objects place (overwritten object patch.at patch.bytes)))

-- the column is an object's, and the bytes begin within the object or at its end
abbrev pub patched : Schema → List Cell → List (List ℕ) → Patch → Result Content FitFault
patched schema some objects patch =
    let first : ℕ = cell_count schema.columns in
    if nat_lt patch.column first then Err (BadObject patch.column 0)
    else patched_at some objects (patch.column - first) patch (slice_get objects (patch.column - first))

-- ---- an edit

-- the content that is to be written, where this is shown of the row; whether it fits is another question
abbrev pub edited_to : Schema → List Cell → List (List ℕ) → Edit → Result Content FitFault
edited_to schema some objects (edits.Update changes) = Ok (updated schema some objects changes)
edited_to schema some objects (edits.Patch patch) = patched schema some objects patch
edited_to schema some objects edits.Delete = Ok Gone
