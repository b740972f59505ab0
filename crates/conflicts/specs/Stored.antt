-- How stored resolvers choose.
use Rattle.std.specs.Prelude.{ℕ, ℤ, int_lt, Option, Some, None, slice_get, if◌then◌else◌, option_and_then}
use Rattle.row_value.specs.declared.content.Cell.{Cell}
use Rattle.row_value.specs.declared.content.Cell.TheVariants as cells
use Rattle.row_value.specs.declared.content.Content.{Content}
use Rattle.row_value.specs.declared.content.Content.TheVariants.{Gone, Row}
use Rattle.conflicts.specs.declared.pair.Pair.{Pair}
use Rattle.conflicts.specs.declared.pair.Choice.{Choice}
use Rattle.conflicts.specs.declared.pair.Choice.TheVariants as choices
use Rattle.conflicts.specs.declared.stored.Stored.{Stored}
use Rattle.conflicts.specs.declared.stored.Stored.TheVariants.{Mine, Theirs, Larger}

abbrev pub int_in : Cell → Option ℤ
int_in (cells.Int n) = Some n
int_in (cells.Bool b) = None
int_in (cells.Text text) = None

-- the number in a column of a row
abbrev pub int_at : Content → ℕ → Option ℤ
int_at Gone column = None
int_at (Row some objects) column = option_and_then int_in (slice_get some column)

abbrev pub larger_side : Option ℤ → Option ℤ → Choice
larger_side None theirs = choices.Theirs
larger_side (Some mine) None = choices.Theirs
larger_side (Some mine) (Some theirs) = if int_lt theirs mine then choices.Mine else choices.Theirs

-- the side whose number is greater; theirs where they are equal and where one has none
abbrev pub larger_of : ℕ → Pair → Choice
larger_of column pair = larger_side (int_at pair.mine column) (int_at pair.theirs column)

abbrev pub chosen : Stored → Pair → Choice
chosen Mine pair = choices.Mine
chosen Theirs pair = choices.Theirs
chosen (Larger column) pair = larger_of column pair
