-- The form of a line of a run that gives it a text of its own: a row that is stored has a value, a row that is shown by
-- digests has an object, and of chunks that are named there is one.
use Rattle.transcript_text.specs.OneForm.{HasValue, HasObject}
use Rattle.line_widths.specs.Widths.{HasChunk}
use Rattle.step_tables.specs.Facts.{Answer, ShownSum, CleanSum, MineSum, ContendedSum, Line, AnswerLine}
use Rattle.step_tables.specs.Facts as facts

abbrev pub HasObjects : ShownSum → Type 0
HasObjects (CleanSum version row) = HasObject row.objects
HasObjects (MineSum number row) = HasObject row.objects
HasObjects (ContendedSum number version row) = HasObject row.objects

abbrev pub HasAnswerForm : Answer → Type 0
HasAnswerForm (facts.Stores version content) = HasValue content
HasAnswerForm (facts.Sums sum) = HasObjects sum
HasAnswerForm (facts.Names names) = HasChunk names
HasAnswerForm other = Unit {0}

abbrev pub HasLineForm : Line → Type 0
HasLineForm (AnswerLine answer) = HasAnswerForm answer
HasLineForm other = Unit {0}
