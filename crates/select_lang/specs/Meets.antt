-- Which rows meet a predicate.
use Rattle.std.specs.Prelude.{ℕ, Bool, true, false, not, ◌&&◌, ◌||◌, List, [], ◌∷◌, Option, Some, None, slice_get}
use Rattle.std.specs.Ordering.{nat_cmp, int_cmp, bool_cmp, is_eq, is_lt, is_le, is_gt}
use Rattle.std.specs.Cmp.Lexicographic.{slice_cmp}
use Rattle.std.specs.declared.cmp.Ordering.{Ordering}
use Rattle.row_value.specs.declared.content.Cell.{Cell}
use Rattle.row_value.specs.declared.content.Cell.TheVariants as cells
use Rattle.row_value.specs.declared.content.Content.{Content}
use Rattle.row_value.specs.declared.content.Content.TheVariants.{Gone, Row}
use Rattle.select_lang.specs.declared.predicate.Comparison.{Comparison}
use Rattle.select_lang.specs.declared.predicate.Comparison.TheVariants.{Equal, NotEqual, Less, LessOrEqual, Greater}
use Rattle.select_lang.specs.declared.predicate.Comparison.TheVariants.{GreaterOrEqual}
use Rattle.select_lang.specs.declared.predicate.Predicate.{Predicate}
use Rattle.select_lang.specs.declared.predicate.Predicate.TheOpen.{Predicate-F}
use Rattle.select_lang.specs.declared.predicate.Predicate.TheFolds.{fold-Predicate}

-- numbers as numbers, false below true, text by its bytes
abbrev pub order_of : Cell → Cell → Option Ordering
order_of (cells.Int a) (cells.Int b) = Some (int_cmp a b)
order_of (cells.Bool a) (cells.Bool b) = Some (bool_cmp a b)
order_of (cells.Text a) (cells.Text b) = Some (slice_cmp nat_cmp a b)
order_of a b = None

abbrev pub passes : Comparison → Ordering → Bool
passes Equal order = is_eq order
passes NotEqual order = not (is_eq order)
passes Less order = is_lt order
passes LessOrEqual order = is_le order
passes Greater order = is_gt order
passes GreaterOrEqual order = not (is_lt order)

-- a cell of another kind than the value meets no test
abbrev pub is_met_in : Comparison → Option Ordering → Bool
is_met_in comparison None = false
is_met_in comparison (Some order) = passes comparison order

abbrev pub is_met_by : Comparison → Cell → Cell → Bool
is_met_by comparison cell value = is_met_in comparison (order_of cell value)

-- nor does a cell that isn't there
abbrev pub tests_cell : Option Cell → Comparison → Cell → Bool
tests_cell None comparison value = false
tests_cell (Some cell) comparison value = is_met_by comparison cell value

abbrev pub tests : List Cell → ℕ → Comparison → Cell → Bool
tests some column comparison value = tests_cell (slice_get some column) comparison value

abbrev pub any_true : List Bool → Bool
any_true [] = false
any_true (b ∷ bs) = b || any_true bs

abbrev pub all_true : List Bool → Bool
all_true [] = true
all_true (b ∷ bs) = b && all_true bs

-- one level, with whether each predicate inside is met in its place
abbrev pub met_step : List Cell → Predicate-F Bool → Bool
met_step some (Predicate-F.Any met) = any_true met.items
met_step some (Predicate-F.All met) = all_true met.items
met_step some (Predicate-F.Not met) = not met.value
met_step some (Predicate-F.Test column comparison value) = tests some column comparison value

abbrev pub meets : List Cell → Predicate → Bool
meets some = fold-Predicate Bool (met_step some)

-- a deleted row meets no predicate, not even one that is turned round
abbrev pub holds : Predicate → Content → Bool
holds predicate Gone = false
holds predicate (Row some objects) = meets some predicate
