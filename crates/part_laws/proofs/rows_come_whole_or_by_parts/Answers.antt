use Rattle.part_laws.proofs.WholeRows.{part_kept, nothing_kept, asking_kept, items_still, sent_still}
use Rattle.part_laws.proofs.rows_come_whole_or_by_parts.Goals as goal

pub returns-clause-none : goal.returns-clause-none
returns-clause-none c = nothing_kept

pub returns-clause-arriving : goal.returns-clause-arriving
returns-clause-arriving c = λ size items sent opened a p are is_open all is. (part_kept size items sent are opened a all p is_open is).arriving

pub returns-clause-whole : goal.returns-clause-whole
returns-clause-whole c = λ size items sent opened a p m are is_open all is e. (part_kept size items sent are opened a all p is_open is).whole m e

pub returns-clause-tears : goal.returns-clause-tears
returns-clause-tears c = λ size items sent opened a p row are is_open all is e. (part_kept size items sent are opened a all p is_open is).tears row e

pub returns-clause-asking : goal.returns-clause-asking
returns-clause-asking c = asking_kept

pub returns-clause-items : goal.returns-clause-items
returns-clause-items c = items_still

pub returns-clause-sent : goal.returns-clause-sent
returns-clause-sent c = sent_still
