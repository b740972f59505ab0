-- A line of the program has the form where the line of the tables that it stands for has.
use Rattle.std.proofs.Common.{List, [], ◌∷◌}
use Rattle.std.specs.Prelude.{map}
use Rattle.std.specs.List.{AllByRecursion}
use Rattle.table_model.specs.declared.line.Answer.{Answer}
use Rattle.table_model.specs.declared.line.Answer.TheVariants as answers
use Rattle.table_model.specs.declared.line.TextLine.{TextLine}
use Rattle.table_model.specs.declared.line.TextLine.TheVariants as lines
use Rattle.table_model.specs.declared.sum.ShownSum.{ShownSum}
use Rattle.table_model.specs.declared.sum.ShownSum.TheVariants as sums
use Rattle.step_tables.specs.Lines.{sum_of, answer_of, line_of}
use Rattle.line_widths.specs.Widths as texts
use Rattle.form_laws.specs.Forms.{HasObjects, HasAnswerForm, HasLineForm}

sum_told : (sum : ShownSum) → HasObjects (sum_of sum) → texts.HasObjects sum
sum_told (sums.Clean version row) form = form
sum_told (sums.Mine number row) form = form
sum_told (sums.Conflict number version row) form = form

answer_told : (answer : Answer) → HasAnswerForm (answer_of answer) → texts.HasAnswerForm answer
answer_told (answers.Stored version content) form = form
answer_told (answers.Sums sum) form = sum_told sum form
answer_told (answers.Names names) form = form
answer_told other form = tt

pub form_told : (line : TextLine) → HasLineForm (line_of line) → texts.HasForm line
form_told (lines.Answer answer) form = answer_told answer form
form_told other form = tt

pub forms_told : (told : List TextLine) → AllByRecursion HasLineForm (map line_of told) → AllByRecursion texts.HasForm told
forms_told [] forms = tt
forms_told (line ∷ told) forms = (form_told line forms.0, forms_told told forms.1)
