-- What is known of a row's objects by their lengths alone.
use Rattle.std.specs.Prelude.{ℕ, ◌*◌, ◌-◌, ◌==◌, Bool, min, is_ok, if◌then◌else◌, List, map, replicate}
use Rattle.std.specs.Int.{div_ceil}
use Rattle.row_value.specs.declared.content.Content.{Content}
use Rattle.row_value.specs.declared.content.Content.TheVariants as contents
use Rattle.row_value.specs.declared.pieces.PieceObject.{PieceObject}
use Rattle.row_value.specs.declared.pieces.PieceContent.{PieceContent}
use Rattle.row_value.specs.declared.pieces.PieceContent.TheVariants.{Gone, Row}
use Rattle.row_value.specs.declared.schema.Schema.{Schema}
use Rattle.row_value.specs.Fit.{fit_of}

-- how many chunks of a size an object of so many bytes has; there are none of size 0
abbrev pub count_of : ℕ → ℕ → ℕ
count_of size len = if size == 0 then 0 else div_ceil len size

-- the length of its chunk at a place: the size, and at the last place what is left
abbrev pub len_at : ℕ → ℕ → ℕ → ℕ
len_at size len place = min size (len - place * size)

-- objects of these lengths; their bytes don't matter
abbrev pub zeros_for : List PieceObject → List (List ℕ)
zeros_for objects = map (λ object. replicate object.len 0) objects

abbrev pub sized : PieceContent → Content
sized Gone = contents.Gone
sized (Row some objects) = contents.Row some (zeros_for objects)

-- whether a content with objects of these lengths is a row of the table
abbrev pub fits_by_len : Schema → PieceContent → Bool
fits_by_len schema content = is_ok (fit_of schema (sized content))
