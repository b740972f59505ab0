use Rattle.load_script.proofs.Shorts.{script_short, script_few}
use Rattle.load_script.proofs.laws.lines_are_short_and_few.Goals as goal

pub returns-clause-short : goal.returns-clause-short
returns-clause-short c = script_short

pub returns-clause-few : goal.returns-clause-few
returns-clause-few c = script_few
