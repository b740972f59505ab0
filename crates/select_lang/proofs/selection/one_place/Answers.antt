use Rattle.select_lang.proofs.BadWords.{one_place}
use Rattle.select_lang.proofs.selection.one_place.Goals as goal

pub returns : goal.returns
returns c = one_place
