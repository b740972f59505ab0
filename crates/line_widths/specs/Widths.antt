-- The lines of a transcript by the widths of their values, and what else gives each the text of one line alone.
use Rattle.std.specs.Prelude.{◌<◌, ◌^◌, List, [], ◌∷◌, length}
use Rattle.std.specs.List.{AllByRecursion}
use Rattle.stab_base.specs.declared.chunk_name.ChunkName.{ChunkName}
use Rattle.table_model.specs.declared.line.Answer.{Answer}
use Rattle.table_model.specs.declared.line.Answer.TheVariants as answers
use Rattle.table_model.specs.declared.line.TextLine.{TextLine}
use Rattle.table_model.specs.declared.line.TextLine.TheVariants as lines
use Rattle.table_model.specs.declared.sum.RowSum.{RowSum}
use Rattle.table_model.specs.declared.sum.ShownSum.{ShownSum}
use Rattle.table_model.specs.declared.sum.ShownSum.TheVariants as sums
use Rattle.transcript_text.specs.OneForm.{HasCellText, HasContentText, HasShownText, HasRefusalText, HasSumText}
use Rattle.transcript_text.specs.OneForm.{HasNameText, HasEntryText, HasPairText, HasFactText, HasValue, HasObject}

-- ---- widths

pub record HasRowSumWidths (row : RowSum) : Type 0 where
  pub cells : AllByRecursion HasCellText row.cells
  pub objects : AllByRecursion HasSumText row.objects

abbrev pub HasShownSumWidths : ShownSum → Type 0
HasShownSumWidths (sums.Clean version row) = (version < 2 ^ 64) × HasRowSumWidths row
HasShownSumWidths (sums.Mine number row) = (number < 2 ^ 64) × HasRowSumWidths row
HasShownSumWidths (sums.Conflict number version row) =
    (number < 2 ^ 64) × (version < 2 ^ 64) × HasRowSumWidths row

abbrev pub HasNamesWidths : List ChunkName → Type 0
HasNamesWidths names = (length names < 2 ^ 64) × AllByRecursion HasNameText names

abbrev pub HasAnswerWidths : Answer → Type 0
HasAnswerWidths answers.Done = Unit {0}
HasAnswerWidths (answers.Number number) = number < 2 ^ 64
HasAnswerWidths (answers.Shown shown) = HasShownText shown
HasAnswerWidths (answers.Sums sum) = HasShownSumWidths sum
HasAnswerWidths (answers.Stored version content) = (version < 2 ^ 64) × HasContentText content
HasAnswerWidths (answers.Did step) = Unit {0}
HasAnswerWidths (answers.Names names) = HasNamesWidths names
HasAnswerWidths (answers.Refused refusal) = HasRefusalText refusal

abbrev pub HasWidths : TextLine → Type 0
HasWidths (lines.Answer answer) = HasAnswerWidths answer
HasWidths (lines.Entry table entry) = HasEntryText table entry
HasWidths (lines.Pair pair) = HasPairText pair
HasWidths (lines.Fact fact) = HasFactText fact

-- ---- a stored row has a value, a row that is shown by digests has an object, and of chunks that are named there is
-- one

abbrev pub HasObjects : ShownSum → Type 0
HasObjects (sums.Clean version row) = HasObject row.objects
HasObjects (sums.Mine number row) = HasObject row.objects
HasObjects (sums.Conflict number version row) = HasObject row.objects

abbrev pub HasChunk : List ChunkName → Type 0
HasChunk [] = ⊥
HasChunk (name ∷ names) = Unit {0}

abbrev pub HasAnswerForm : Answer → Type 0
HasAnswerForm (answers.Stored version content) = HasValue content
HasAnswerForm (answers.Sums sum) = HasObjects sum
HasAnswerForm (answers.Names names) = HasChunk names
HasAnswerForm answer = Unit {0}

abbrev pub HasForm : TextLine → Type 0
HasForm (lines.Answer answer) = HasAnswerForm answer
HasForm line = Unit {0}
