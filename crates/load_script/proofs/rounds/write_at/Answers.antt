use Rattle.load_script.proofs.Writing.{writes}
use Rattle.load_script.proofs.rounds.write_at.Goals as goal

pub returns : goal.returns
returns c = writes _ _ _ _ _ _ _ c.write_line.result c.in_ok-values.ensures c.as_str.ensures.value c.write_line.ensures
