-- New chunks numbered in order, piece by piece.
use Rattle.std.specs.Prelude.{ℕ, ◌+◌, ◌==◌, Option, Some, None, if◌then◌else◌}
use Rattle.row_value.specs.declared.pieces.Piece.{Piece}
use Rattle.row_value.specs.declared.pieces.Piece.TheVariants.{Keep, Fresh}

-- the number of the next new chunk behind a piece; none where the piece has another than the next
abbrev pub counted_by : ℕ → Piece → Option ℕ
counted_by next (Keep name) = Some next
counted_by next (Fresh ordinal) = if ordinal == next then Some (next + 1) else None
