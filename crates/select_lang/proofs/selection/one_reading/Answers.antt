use Rattle.select_lang.proofs.BadWords.{one_reading}
use Rattle.select_lang.proofs.selection.one_reading.Goals as goal

pub returns : goal.returns
returns c = one_reading
