-- What a client shows, with its objects by their digests.
use Rattle.std.specs.Prelude.{Option, Some, None, option_map}
use Rattle.table_model.specs.Sums.{row_sum}
use Rattle.step_tables.specs.Facts.{Answer, Shown, Clean, Mine, Contended, ShownSum, CleanSum, MineSum, ContendedSum}
use Rattle.step_tables.specs.Facts as facts

-- None where there is no object: such a row is shown as it is
abbrev pub sum_of : Shown → Option ShownSum
sum_of (Clean version content) = option_map (CleanSum version) (row_sum content)
sum_of (Mine number content) = option_map (MineSum number) (row_sum content)
sum_of (Contended number version content) = option_map (ContendedSum number version) (row_sum content)

abbrev pub or_whole : Shown → Option ShownSum → Answer
or_whole what None = facts.Shows what
or_whole what (Some sum) = facts.Sums sum

-- what is answered to a `sum` where a `show` would show this
abbrev pub sum_answer : Shown → Answer
sum_answer what = or_whole what (sum_of what)

-- what is answered to a `sum` where a `show` would be answered so: the same, but for the objects
abbrev pub by_digests : Answer → Answer
by_digests (facts.Shows what) = sum_answer what
by_digests other = other
