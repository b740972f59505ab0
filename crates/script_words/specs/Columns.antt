-- The word of a column: its name and its kind, with a colon between them.
use Rattle.std.specs.Prelude.{ℕ, List, codes, Option, Some, None, ◌++◌, if◌then◌else◌}
use Rattle.std.specs.Borrow.{Bor}
use Rattle.std.specs.Str.{bytes_eq}
use Rattle.row_value.specs.declared.schema.ColumnKind.{ColumnKind}
use Rattle.row_value.specs.declared.schema.ColumnKind.TheVariants as kinds
use Rattle.row_value.specs.declared.schema.Column.{Column}
use Rattle.script_words.specs.Words.{is_name, parts_of}

abbrev pub kind_word : ColumnKind → List ℕ
kind_word kinds.Int = codes "int"
kind_word kinds.Bool = codes "bool"
kind_word kinds.Text = codes "text"
kind_word kinds.Object = codes "object"

abbrev pub column_word : Column → List ℕ
column_word column = column.name ++ (codes ":" ++ kind_word column.kind)

unfoldable pub kind_of : List ℕ → Option ColumnKind
kind_of word =
    if bytes_eq word (codes "int") then Some kinds.Int
    else if bytes_eq word (codes "bool") then Some kinds.Bool
    else if bytes_eq word (codes "text") then Some kinds.Text
    else if bytes_eq word (codes "object") then Some kinds.Object
    else None

abbrev pub named : List ℕ → Option ColumnKind → Option (List ℕ × ColumnKind)
named name None = None
named name (Some kind) = if is_name name then Some (name, kind) else None

unfoldable pub column_of : List ℕ → Option (List ℕ × ColumnKind)
column_of word = elim (parts_of word) [ None ↦ None | Some p ↦ named p.0 (kind_of p.1) ]

-- the same of a borrowed name
abbrev pub seen_column : Option (Bor (List ℕ) × ColumnKind) → Option (List ℕ × ColumnKind)
seen_column None = None
seen_column (Some p) = Some (p.0.now, p.1)
