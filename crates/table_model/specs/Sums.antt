-- What is shown of a row, with its objects by their digests.
use Rattle.std.specs.Prelude.{ℕ, List, [], ◌∷◌, length, map, Option, Some, None, option_map}
use Rattle.sha2.specs.Sha256.{sha256}
use Rattle.row_value.specs.declared.content.Content.{Content}
use Rattle.row_value.specs.declared.content.Content.TheVariants.{Gone, Row}
use Rattle.table_model.specs.declared.line.Answer.{Answer}
use Rattle.table_model.specs.declared.line.Answer.TheVariants as answers
use Rattle.table_model.specs.declared.line.Shown.{Shown}
use Rattle.table_model.specs.declared.line.Shown.TheVariants as shown
use Rattle.table_model.specs.declared.sum.ObjectSum.{ObjectSum}
use Rattle.table_model.specs.declared.sum.RowSum.{RowSum}
use Rattle.table_model.specs.declared.sum.ShownSum.{ShownSum}
use Rattle.table_model.specs.declared.sum.ShownSum.TheVariants as sums

-- an object's length, and its SHA-256 by FIPS 180-4
abbrev pub object_sum : List ℕ → ObjectSum
object_sum object = record { len = length object; sha256 = sha256 object }

-- None where there is no object: such a row is shown as it is
abbrev pub row_sum : Content → Option RowSum
row_sum Gone = None
row_sum (Row cells []) = None
row_sum (Row cells (object ∷ objects)) = Some (record { cells = cells; objects = map object_sum (object ∷ objects) })

abbrev pub sum_of : Shown → Option ShownSum
sum_of (shown.Clean version content) = option_map (sums.Clean version) (row_sum content)
sum_of (shown.Mine number content) = option_map (sums.Mine number) (row_sum content)
sum_of (shown.Conflict number version content) = option_map (sums.Conflict number version) (row_sum content)

abbrev pub or_whole : Shown → Option ShownSum → Answer
or_whole what None = answers.Shown what
or_whole what (Some sum) = answers.Sums sum

-- what is answered to a `sum` where a `show` would show this
abbrev pub sum_answer : Shown → Answer
sum_answer what = or_whole what (sum_of what)

-- what is answered to a `sum` where a `show` would be answered so: the same, but for the objects
abbrev pub by_digests : Answer → Answer
by_digests (answers.Shown what) = sum_answer what
by_digests other = other
