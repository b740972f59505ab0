-- A line of these widths and this form has the text of one line alone.
use Rattle.std.proofs.Common.{◌≡◌, ◌<◌, ℕ, zero, suc, List, [], ◌∷◌, length, get_or, arith}
use Rattle.std.proofs.lemmas.List.Elements.{All-from_get_or}
use Rattle.std.specs.List.{AllByRecursion}
use Rattle.stab_base.specs.declared.chunk_name.ChunkName.{ChunkName}
use Rattle.table_model.specs.declared.line.Answer.{Answer}
use Rattle.table_model.specs.declared.line.Answer.TheVariants as answers
use Rattle.table_model.specs.declared.line.TextLine.{TextLine}
use Rattle.table_model.specs.declared.line.TextLine.TheVariants as lines
use Rattle.table_model.specs.declared.sum.ShownSum.{ShownSum}
use Rattle.table_model.specs.declared.sum.ShownSum.TheVariants as sums
use Rattle.transcript_text.specs.OneForm.{AreBytes, HasRowText, HasText, HasAnswerText, HasShownSumText, HasNamesText}
use Rattle.line_widths.specs.Widths.{HasShownSumWidths, HasNamesWidths, HasAnswerWidths, HasWidths, HasObjects, HasChunk, HasAnswerForm, HasForm}

all_bytes : (row : List ℕ) (i d : ℕ) → AreBytes row → i < length row → get_or row i d < 256
all_bytes [] i d h lt = absurd (omega (arith, lt))
all_bytes (b ∷ row) zero d h lt = h.0
all_bytes (b ∷ row) (suc i) d h lt = all_bytes row i d h.1 (omega (arith, lt))

pub row_text : (row : List ℕ) → length row ≡ 16 → AreBytes row → HasRowText row
row_text row size bytes = record { size = size; bytes = All-from_get_or (λ b. b < 256) row 0 (λ i lt. all_bytes row i 0 bytes lt) }

sum_text : (sum : ShownSum) → HasShownSumWidths sum → HasObjects sum → HasShownSumText sum
sum_text (sums.Clean version row) w form = (w.0, record { cells = w.1.cells; objects = w.1.objects; some = form })
sum_text (sums.Mine number row) w form = (w.0, record { cells = w.1.cells; objects = w.1.objects; some = form })
sum_text (sums.Conflict number version row) w form = (w.0, w.1, record { cells = w.2.cells; objects = w.2.objects; some = form })

names_text : (names : List ChunkName) → HasNamesWidths names → HasChunk names → HasNamesText names
names_text [] w form = absurd form
names_text (name ∷ names) w form = w

answer_text : (answer : Answer) → HasAnswerWidths answer → HasAnswerForm answer → HasAnswerText answer
answer_text (answers.Stored version content) w form = (w.0, w.1, form)
answer_text (answers.Sums sum) w form = sum_text sum w form
answer_text (answers.Names names) w form = names_text names w form
answer_text answers.Done w form = w
answer_text (answers.Number number) w form = w
answer_text (answers.Shown shown) w form = w
answer_text (answers.Did step) w form = w
answer_text (answers.Refused refusal) w form = w

pub has_text : (line : TextLine) → HasWidths line → HasForm line → HasText line
has_text (lines.Answer answer) w form = answer_text answer w form
has_text (lines.Entry table entry) w form = w
has_text (lines.Pair pair) w form = w
has_text (lines.Fact fact) w form = w

pub have_texts : (told : List TextLine) → AllByRecursion HasWidths told → AllByRecursion HasForm told → AllByRecursion HasText told
have_texts [] w forms = tt
have_texts (line ∷ told) w forms = (has_text line w.0 forms.0, have_texts told w.1 forms.1)
