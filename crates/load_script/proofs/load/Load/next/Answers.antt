use Rattle.std.proofs.Common.{rules}
use Rattle.load_script.proofs.Shorts.{declared_short, declared_few, round_short, round_few}
use Rattle.load_script.proofs.load.Load.next.Goals as goal

pub returns-in_ok-lines-in-Declarations-clause-short : goal.returns-in_ok-lines-in-Declarations-clause-short
returns-in_ok-lines-in-Declarations-clause-short c = declared_short _ c.in_ok-lines-in-Declarations.ensures

pub returns-in_ok-lines-in-Declarations-clause-few : goal.returns-in_ok-lines-in-Declarations-clause-few
returns-in_ok-lines-in-Declarations-clause-few c = search (rules, declared_few)

pub returns-in_ok-lines-in-Rounds-2-clause-short : goal.returns-in_ok-lines-in-Rounds-2-clause-short
returns-in_ok-lines-in-Rounds-2-clause-short c = round_short _ _ _ _ c.in_ok-lines-in-Rounds-2.ensures

pub returns-in_ok-lines-in-Rounds-2-clause-few : goal.returns-in_ok-lines-in-Rounds-2-clause-few
returns-in_ok-lines-in-Rounds-2-clause-few c = search (rules, round_few)
