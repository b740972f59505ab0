use Rattle.part_laws.proofs.RowsOnce.{row_once}
use Rattle.part_laws.proofs.whole_rows_in_parts_are_taken_once.Goals as goal

pub returns : goal.returns
returns c = row_once
