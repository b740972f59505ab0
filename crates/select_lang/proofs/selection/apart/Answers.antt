use Rattle.select_lang.proofs.BadWords.{apart}
use Rattle.select_lang.proofs.selection.apart.Goals as goal

pub returns : goal.returns
returns c = apart
