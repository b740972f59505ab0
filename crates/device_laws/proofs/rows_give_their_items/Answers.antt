use Rattle.device_laws.proofs.Whole.{row_reads, no_row}
use Rattle.device_laws.proofs.rows_give_their_items.Goals as goal

pub returns-clause-row : goal.returns-clause-row
returns-clause-row c = λ schema d disk row item some st is. row_reads schema d disk some st row item is

pub returns-clause-no_row : goal.returns-clause-no_row
returns-clause-no_row c = λ schema d disk row some st is. no_row schema d disk some st row is
